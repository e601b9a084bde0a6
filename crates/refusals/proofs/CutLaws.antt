-- A file that is cut, and what becomes of a refusal when bytes are added or taken away at the end.
use mathlib.Core.Path.{◌≡◌, refl, sym, ap, ◌∙◌, subst}
use mathlib.Core.List.{List, [], ◌++◌}
use mathlib.Core.Bool.{Bool}
use Prim.Native.Nat.{ℕ, ◌+◌, ◌-◌, ◌≤◌, ◌<◌}
use native.Mathlib.Omega.{arith}
use lib.ListN.{length, take, drop, replicate, length-take, length-drop, length-append, length-replicate}
use lib.Seq.{take-take, take_all, take-length, length-take-le, take-append-le, take-append_seam, drop-append-le}
use borrow.Author.Tests.{le-leb, lt-leb}
use Rattle.octets.specs.Numbers.{u32_at}
use Rattle.octets.proofs.NumberLaws.{number_same}
use Rattle.format.specs.declared.Profile.{Profile}
use Rattle.format.specs.declared.Fault.{Fault}
use Rattle.format.specs.declared.Fault.TheVariants.{Cut as CUT}
use Rattle.format.specs.declared.Spot.{Spot}
use Rattle.format.specs.declared.Reading.{Reading}
use Rattle.format.specs.Tests.{section, spot_at, Outcome, got, refused}
use Rattle.format.specs.Presence.{strings_unicode}
use Rattle.format.specs.Shortcut.{most, Sections, sections, shortcut, reading}
use Rattle.format.specs.Demands.{Refuses}
use Rattle.format.proofs.Bools.{by_order}
use Rattle.format.proofs.MendLaws.{refused_elim, no_refusal, NoTrail, Own-sections}
use Rattle.format.proofs.AcceptedLaws.{RefusedWith, refused_read, shortcut-Whole}
use Rattle.refusals.specs.Due.{needed, needed_to}
use Rattle.refusals.proofs.StepLaws.{Begins, Begins-take, Begins-length, Begins-drop, NoCut, Cuts-step}
use Rattle.refusals.proofs.FileLaws.{Flagged, Flagged-take, Origin, too_long, in_section, trailing, origin, DueAt, reached, resumed, due_within}
use Rattle.refusals.proofs.NeedLaws.{needed_more, needed_filled}
use Rattle.format.proofs.VerdictLaws.{same_position}

-- ---- from reading to its definition and back

pub Refuses-spot : (profile : Profile) (s : List ℕ) (f : Fault) (p : ℕ) → Refuses profile s f p → RefusedWith profile s f p
unfolding Refuses
Refuses-spot profile s f p e = refused_read profile s (ap (λ (x : Reading). x.verdict) e)

pub spot_Refuses : (profile : Profile) (s : List ℕ) {f : Fault} {w : Spot} → shortcut profile s ≡ refused f w → Refuses profile s f w.position
unfolding Refuses reading
spot_Refuses profile s e = rw e

-- ---- a file that is cut

-- a section is due at q, and bytes that it needs are missing
pub record CutShape (profile : Profile) (flags : ℕ) (s : List ℕ) (q : ℕ) : Type 0 where
  pub number : ℕ
  pub limit : length s ≤ most
  pub due : DueAt profile s number q
  pub lacks : length s < q + needed (strings_unicode flags) number (drop q s)

cut_shape : (profile : Profile) (flags : ℕ) (s : List ℕ) {w : Spot} → Flagged flags s → shortcut profile s ≡ refused CUT w → CutShape profile flags s w.start × (w.start ≡ w.position)
cut_shape profile flags s {w} e i = go (origin profile s i)
  where
    u : Bool
    u = strings_unicode flags

    go : Origin profile s CUT w → CutShape profile flags s w.start × (w.start ≡ w.position)
    go (in_section l j) =
        let x = reached profile flags s e l j in
        let k : ℕ = x.number in
        let b : List ℕ = drop w.start s in
        let m : length b ≡ length s - w.start = length-drop w.start s in
        by_order (needed u k b) (length b)
        (λ h. absurd ((Cuts-step profile u x.before k).enough w.start b h x.refusal refl))
        (λ h.
        let c = (Cuts-step profile u x.before k).short w.start b h in (
          record { number = k; limit = l; due = x.due; lacks = omega (arith, x.within) },
          sym (refused_elim (λ g v. v.position ≡ w.start) (sym c.is ∙ x.refusal) c.position),
        ))

pub cut_refused : (profile : Profile) (flags : ℕ) (s : List ℕ) (p : ℕ) → Flagged flags s → Refuses profile s CUT p → CutShape profile flags s p
cut_refused profile flags s p e i =
    let x = Refuses-spot profile s CUT p i in
    let c = cut_shape profile flags s e x.is in
    subst (CutShape profile flags s) (c.1 ∙ x.told) c.0

pub cut_from : (profile : Profile) (flags : ℕ) (s : List ℕ) → Flagged flags s → length s ≤ most → (k q : ℕ) → DueAt profile s k q → length s < q + needed (strings_unicode flags) k (drop q s) → Refuses profile s CUT q
cut_from profile flags s e l k q d h =
    let o : q ≤ length s = due_within profile s k q d in
    let x = resumed profile flags s e l k q d in
    let c = (Cuts-step profile (strings_unicode flags) x.before k).short q (drop q s) (omega (arith, length-drop q s)) in
    let r = spot_Refuses profile s (x.on c.is) in
    rw c.position at r

-- ---- bytes added at the end

-- two sections are not due at one place
pub one_due : (profile : Profile) (s t : List ℕ) (j k q : ℕ) → DueAt profile s j q → DueAt profile t k q → take q s ≡ take q t → j ≡ k
one_due profile s t j k q d e i = refused_elim (λ f w. j ≡ w.section) (sym d ∙ ap (shortcut profile) i ∙ e) refl

pub Flagged-Begins : (s t : List ℕ) → Begins s t → Flagged (u32_at t 20) s
Flagged-Begins s t e h = sym (number_same 4 76 t s 20 (Begins-take 76 s t e h) (omega arith))

-- any refusal but 2 and 9 stays, with number and position, whatever is added
pub stays : (profile : Profile) (s t : List ℕ) {f : Fault} {w : Spot} → shortcut profile s ≡ refused f w → NoCut f → NoTrail f → Begins s t → length t ≤ most → shortcut profile t ≡ refused f w
stays profile s t {f} {w} i c n e m = go (origin profile s i) c n
  where
    flags : ℕ
    flags = u32_at t 20

    u : Bool
    u = strings_unicode flags

    go : {g : Fault} {v : Spot} → Origin profile s g v → NoCut g → NoTrail g → shortcut profile t ≡ refused g v
    go (too_long h) c n = absurd (omega (arith, Begins-length s t e))
    go {g} {v} (in_section l j) c n =
        let x = reached profile flags s (Flagged-Begins s t e) l j in
        let q : ℕ = v.start in
        let b : List ℕ = drop q s in
        by_order (needed u x.number b) (length b)
        (λ h.
        let y : take q t ≡ take q s = Begins-take q s t e x.within in
        let z = (Cuts-step profile u x.before x.number).same q b (drop q t) h (Begins-drop q s t e x.within) in
        x.on t (λ h. refl) m y (omega (arith, x.within, Begins-length s t e)) (z ∙ x.refusal))
        (λ h.
        let z = (Cuts-step profile u x.before x.number).short q b h in
        absurd (c (refused_elim (λ g v. g ≡ CUT) (sym z.is ∙ x.refusal) refl)))
    go (trailing a k l j h) c n = absurd (n refl)

pub Begins-more : (s more : List ℕ) → Begins s (s ++ more)
Begins-more s more = take-append_seam s more

-- ---- bytes taken away at the end

-- all sections were read: so they are from every longer file
pub read_stays : (profile : Profile) (s t : List ℕ) (c : Sections) (n : ℕ) → sections profile 0 s ≡ got c n → Begins s t → sections profile 0 t ≡ got c n
read_stays profile s t c n i e =
    let h : n ≤ length s = (Own-sections profile).inside 0 s c n i in
    (Own-sections profile).alike 0 s c n i t (Begins-take n s t e h) (omega (arith, Begins-length s t e))

-- what is read is refused for its length alone
read_refused {ℓ} : {X : Type ℓ} (profile : Profile) (s : List ℕ) (c : Sections) (n : ℕ) → sections profile 0 s ≡ got c n → length s ≤ most → {f : Fault} {w : Spot} → shortcut profile s ≡ refused f w → NoTrail f → X
read_refused {X = X} profile s c n i l {f} {w} e t = go (origin profile s e) t
  where
    go : {g : Fault} {v : Spot} → Origin profile s g v → NoTrail g → X
    go (too_long h) t = absurd (omega arith)
    go (in_section h j) t = no_refusal (sym i ∙ j)
    go (trailing a k h j o) t = absurd (t refl)

-- a beginning of what is refused is refused so too, or cut
pub data BegunAt (profile : Profile) (b : List ℕ) (f : Fault) (w : Spot) : Type 0 where
  same_at : shortcut profile b ≡ refused f w → BegunAt profile b f w
  cut_at : (v : Spot) → shortcut profile b ≡ refused CUT v → BegunAt profile b f w

pub begun_at : (profile : Profile) (s : List ℕ) {f : Fault} {w : Spot} → length s ≤ most → shortcut profile s ≡ refused f w → NoTrail f → (b : List ℕ) → Begins b s → BegunAt profile b f w
begun_at profile s {f} {w} limit e t b i = go (shortcut profile b) refl
  where
    flags : ℕ
    flags = u32_at s 20

    at : {g : Fault} {v : Spot} → shortcut profile b ≡ refused g v → Origin profile b g v → BegunAt profile b f w
    at j (too_long h) = absurd (omega (arith, limit, Begins-length b s i))
    at j (trailing c n l k h) = read_refused profile s c n (read_stays profile b s c n k i) limit e t
    at {g} {v} j (in_section l k) =
        let x = reached profile flags b (Flagged-Begins b s i) l k in
        let u : Bool = strings_unicode flags in
        let a : List ℕ = drop v.start b in
        let C = Cuts-step profile u x.before x.number in
        by_order (needed u x.number a) (length a)
        (λ h.
        let z = C.same v.start a (drop v.start s) h (Begins-drop v.start b s i x.within) in
        let y = x.on s (λ h. refl) limit (Begins-take v.start b s i x.within) (omega (arith, x.within, Begins-length b s i)) (z ∙ x.refusal) in
        same_at (j ∙ sym y ∙ e))
        (λ h. let c = C.short v.start a h in cut_at v (j ∙ ap (λ (g : Fault). refused g v) (refused_elim (λ g w. g ≡ CUT) (sym c.is ∙ x.refusal) refl)))

    go : (o : Outcome Sections) → shortcut profile b ≡ o → BegunAt profile b f w
    go (got c n) j = let y = shortcut-Whole profile b c n j in read_refused profile s c n (read_stays profile b s c n y.read i) limit e t
    go (refused g v) j = at j (origin profile b j)

not_trail : NoTrail CUT
not_trail e = let z : ◌≡◌ {A = ℕ} 0 1 = cc in omega arith

-- a beginning of what is cut is cut
pub cut_Begins : (profile : Profile) (s : List ℕ) {w : Spot} → shortcut profile s ≡ refused CUT w → (b : List ℕ) → Begins b s → (v : Spot) × (shortcut profile b ≡ refused CUT v)
cut_Begins profile s {w} e b i = go (begun_at profile s (cut_shape profile (u32_at s 20) s (λ h. refl) e).0.limit e not_trail b i)
  where
    go : BegunAt profile b CUT w → (v : Spot) × (shortcut profile b ≡ refused CUT v)
    go (same_at j) = (w, j)
    go (cut_at v j) = (v, j)

one_position : (profile : Profile) (s : List ℕ) (f g : Fault) (p q : ℕ) → Refuses profile s f p → Refuses profile s g q → p ≡ q
unfolding Refuses
one_position profile s f g p q a b = same_position (ap (λ (x : Reading). x.verdict) (sym a ∙ b))

pub Begins-taken : (k : ℕ) (s : List ℕ) → Begins (take k s) s
Begins-taken k s =
    by_order k (length s)
    (λ h. ap (λ (n : ℕ). take n s) (length-take-le k s h))
    (λ h. let z : take k s ≡ s = take_all k s (omega arith) in rw (z, take-length s))

-- and no later: b is a beginning of s
pub cut_earlier : (profile : Profile) (s b : List ℕ) → Begins b s → (p q : ℕ) → Refuses profile s CUT p → Refuses profile b CUT q → q ≤ p
cut_earlier profile s b i p q e f = by_order q p (λ h. h) (λ h. absurd (omega (arith, later h)))
  where
    flags : ℕ
    flags = u32_at s 20

    u : Bool
    u = strings_unicode flags

    x : CutShape profile flags s p
    x = cut_refused profile flags s p (λ h. refl) e

    y : CutShape profile flags b q
    y = cut_refused profile flags b q (Flagged-Begins b s i) f

    k : ℕ
    k = x.number

    d : List ℕ
    d = take q s

    fits : q ≤ length b
    fits = due_within profile b y.number q y.due

    long : length d ≡ q
    long = length-take-le q s (omega (arith, fits, Begins-length b s i))

    there : Refuses profile d CUT q
    there = let z : q + 0 ≡ q = omega arith in rw (Begins-take q b s i fits) (rw z at (spot_Refuses profile (take q b) y.due))

    later : p < q → p ≡ q
    later h =
        let a : List ℕ = drop p d in
        let c : List ℕ = drop p s in
        let C = Cuts-step profile u [] k in
        let o : p ≤ length s = due_within profile s k p x.due in
        let j : length a < needed u k a = by_order (needed u k a) (length a)
        (λ g.
        let r = C.short p c (omega (arith, x.lacks, length-drop p s)) in
        let z = C.same p a c g (Begins-drop p d s (Begins-taken q s) (omega (arith, long))) in
        absurd (C.enough p a g (sym z ∙ r.is) refl))
        (λ g. g) in
        one_position profile d CUT CUT p q
        (cut_from profile flags d (Flagged-take flags s q (λ h. refl)) (omega (arith, x.limit, length-take q s)) k p (ap (shortcut profile) (take-take p q s (omega arith)) ∙ x.due) (omega (arith, length-drop p d, long)))
        there

-- ---- what may follow

pub short_header : (profile : Profile) (b : List ℕ) → length b < 76 → shortcut profile b ≡ refused CUT (spot_at (section 0 0) 0)
unfolding shortcut sections
short_header profile b h = rw (le-leb (length b) most (omega arith), lt-leb 76 (length b) h)

module _ (profile : Profile) (s : List ℕ) (k p : ℕ) (d : DueAt profile s k p) where
  within : p ≤ length s
  within = due_within profile s k p d

  -- before a header is there, a header is due
  header_due : length s < 76 → k ≡ 0
  header_due h = refused_elim (λ f w. w.section ≡ 0) (sym (short_header profile (take p s) (omega (arith, length-take p s))) ∙ d) refl

  -- a longer file
  module _ (more : List ℕ) where
    abbrev t : List ℕ
    t = s ++ more

    abbrev u : Bool
    u = strings_unicode (u32_at t 20)

    due_longer : DueAt profile t k p
    due_longer = ap (shortcut profile) (take-append-le p s more within) ∙ d

    needs : needed_to s k p ≡ p + needed u k (drop p s)
    needs =
        by_order 76 (length s)
        (λ h. ap (λ (f : ℕ). p + needed (strings_unicode f) k (drop p s)) (Flagged-Begins s t (Begins-more s more) h))
        (λ h. rw (header_due h))

    rest : drop p t ≡ drop p s ++ more
    rest = drop-append-le p s more within

    pub stays_cut : length t ≤ most → most < needed_to s k p → Refuses profile t CUT p
    stays_cut m h = cut_from profile (u32_at t 20) t (λ h. refl) m k p due_longer (rw rest (omega (arith, needs, needed_more u k (drop p s) more)))

    -- the same of a section k that goes by another name
    needs_rest : (j : ℕ) → j ≡ k → length t < p + needed u j (drop p t) → length t < p + needed u k (drop p s ++ more)
    needs_rest j e h = rw (e, rest) at h

  pub mended : needed_to s k p ≤ most → length s < needed_to s k p → (more : List ℕ) × ((length (s ++ more) ≤ most) × (Refuses profile (s ++ more) CUT p → ⊥))
  mended h l =
      let n : ℕ = needed_to s k p - length s in
      let more : List ℕ = replicate n 0 in
      let m : length (s ++ more) ≡ needed_to s k p = omega (arith, length-append s more, length-replicate {A = ℕ} n 0) in (
        more,
        (
          omega arith,
          λ e.
              let c = cut_refused profile (u32_at (s ++ more) 20) (s ++ more) p (λ h. refl) e in
              let j : c.number ≡ k = one_due profile (s ++ more) (s ++ more) c.number k p c.due (due_longer more) refl in
              omega (arith, needs_rest more c.number j c.lacks, needs more, needed_filled (u more) k (drop p s) n),
        ),
      )
