-- What is true of every file that is refused, number by number, for both profiles.
use mathlib.Core.Path.{◌≡◌, refl, sym, ap, ◌∙◌, subst}
use mathlib.Core.List.{List, [], ◌++◌}
use mathlib.Core.Logic.{◌↔◌}
use mathlib.Core.Bool.{Bool, true, false}
use Prim.Native.Nat.{ℕ, ◌+◌, ◌-◌, min, ◌≤◌, ◌<◌}
use native.Mathlib.Omega.{arith}
use lib.ListN.{length, take, drop, length-take}
use lib.Seq.{take-take, length-take-le}
use borrow.Author.Tests.{le-leb, lt-leb, eq-eqb, ne_eqb}
use Rattle.octets.specs.Numbers.{u16_at, u32_at}
use Rattle.format.specs.declared.Profile.{Profile}
use Rattle.format.specs.declared.Profile.TheVariants.{Strict, NinetyFive}
use Rattle.format.specs.declared.Fault.{Fault}
use Rattle.format.specs.declared.Fault.TheVariants.{Long as LONG, Cut as CUT, Magic as MAGIC, Head as HEAD, Trail as TRAIL}
use Rattle.format.specs.declared.Record.{Record}
use Rattle.format.specs.declared.Spot.{Spot}
use Rattle.format.specs.Numbers.{number_of}
use Rattle.format.specs.Tests.{section, no_section, spot_at, got, refused}
use Rattle.format.specs.Presence.{strings_unicode}
use Rattle.format.specs.Hotkey.{hotkey_ok}
use Rattle.format.specs.Header.{header_size_ok, identifier_ok, flags_ok, attributes_ok, zeros_from_66, head_tests, header_rules, header}
use Rattle.format.specs.Blocks.{is_among}
use Rattle.format.specs.Shortcut.{most, sections, shortcut, record_of, reading}
use Rattle.format.specs.Demands.{Accepts, Refuses, CutAt}
use Rattle.format.proofs.Bools.{by_order, clash}
use Rattle.format.proofs.Chains.{no_true}
use Rattle.format.proofs.EachLaws.{Each}
use Rattle.format.proofs.AcceptedLaws.{accepted_Read, shortcut-Whole}
use Rattle.format.proofs.MendLaws.{Own-sections}
use Rattle.format.proofs.ProfileLaws.{strict_within}
use Rattle.format.proofs.BeginningDemands.{no_other_begins}
use Rattle.format.proofs.PositionDemands.{four_read}
use Rattle.refusals.specs.Due.{Due, needed_to, Begun, same, cut, numbers_given}
use Rattle.refusals.specs.Wrong.{FirstFails, WrongMagic, size, identifier, WrongHead, flags, attributes, hotkey, zeros}
use Rattle.refusals.proofs.StepLaws.{NoCut, no_magic, no_head, ended, unended, step, Belongs, by_cut, by_magic, by_head, by_items, by_info, by_piece, by_block, by_store, by_twice, Belongs-number}
use Rattle.refusals.proofs.FileLaws.{Origin, too_long, in_section, trailing, origin, reached, due_at, at_Due, due_within}
use Rattle.refusals.proofs.CutLaws.{Refuses-spot, spot_Refuses, cut_refused, cut_from, one_due, Begins-more, stays, BegunAt, same_at, cut_at, begun_at, cut_Begins, Begins-taken, cut_earlier, short_header, stays_cut, mended}
use Rattle.refusals.proofs.FailLaws.{first_Each}
use Rattle.refusals.proofs.FaultLaws.{fault_at, at_fault, header_fails, header_refuses}

-- ---- the numbers

-- reading refuses with 1 to 9, 14 and 15, and with no other number
pub numbers_given_lem : (profile : Profile) (s : List ℕ) (f : Fault) (p : ℕ) → Refuses profile s f p → is_among (number_of f) numbers_given ≡ true
unfolding number_of
numbers_given_lem profile s f p e = let x = Refuses-spot profile s f p e in go (origin profile s x.is)
  where
    section_number : {k : ℕ} {g : Fault} → Belongs k g → is_among (number_of g) numbers_given ≡ true
    section_number (by_cut k) = refl
    section_number by_magic = refl
    section_number by_head = refl
    section_number by_items = refl
    section_number by_info = refl
    section_number by_piece = refl
    section_number by_block = refl
    section_number by_store = refl
    section_number by_twice = refl

    go : {g : Fault} {w : Spot} → Origin profile s g w → is_among (number_of g) numbers_given ≡ true
    go (too_long h) = refl
    go (in_section l i) = section_number (reached profile (u32_at s 20) s (λ h. refl) l i).belongs
    go (trailing c n l i h) = refl

-- ---- 1 LONG

-- refused with 1 exactly if there are more than 65,536 bytes; always at 65,536
pub long_exactly : (profile : Profile) (s : List ℕ) (p : ℕ) → Refuses profile s LONG p ↔ ((most < length s) × (p ≡ most))
unfolding shortcut number_of
long_exactly profile s p = (
  (λ e. let x = Refuses-spot profile s LONG p e in go (origin profile s x.is) x.told),
  λ x.
      let i : shortcut profile s ≡ refused LONG (spot_at no_section most) = rw (lt-leb (length s) most x.0) in
      let z : (spot_at no_section most).position ≡ p = sym x.1 in
      rw z at (spot_Refuses profile s i),
)
  where
    never : {k : ℕ} → Belongs k LONG → ⊥
    never b = omega (arith, (Belongs-number b).0)

    go : {w : Spot} → Origin profile s LONG w → w.position ≡ p → (most < length s) × (p ≡ most)
    go (too_long h) z = (h, sym z)
    go (in_section l i) z = absurd (never (reached profile _ s (λ h. refl) l i).belongs)

-- ---- 2 CUT

-- refused with 2 at p exactly if a section is due there and bytes that it needs are missing
pub cut_exactly : (profile : Profile) (s : List ℕ) (p : ℕ) → Refuses profile s CUT p ↔ ((k : ℕ) × ((length s ≤ most) × (Due profile s k p × (length s < needed_to s k p))))
cut_exactly profile s p = (
  (λ e. let c = cut_refused profile (u32_at s 20) s p (λ h. refl) e in (c.number, (c.limit, (at_Due profile s c.number p c.due, c.lacks)))),
  λ x. cut_from profile (u32_at s 20) s (λ h. refl) x.1.0 x.0 p (due_at profile s x.0 p x.1.1.0) x.1.1.1,
)

-- of a file refused with 2 all beginnings are refused with 2, at a position not later, nor after their own end
pub cut_beginnings : (profile : Profile) (s : List ℕ) (p : ℕ) → Refuses profile s CUT p → (k : ℕ) → CutAt profile (min k p) (take k s)
cut_beginnings profile s p e k =
    let x = Refuses-spot profile s CUT p e in
    let (w, i) = cut_Begins profile s x.is (take k s) (Begins-taken k s) in
    let r = spot_Refuses profile (take k s) i in
    let y = cut_refused profile (u32_at (take k s) 20) (take k s) w.position (λ h. refl) r in
    record {
      position = w.position;
      early = omega (arith, cut_earlier profile s (take k s) (Begins-taken k s) p w.position e r, due_within profile (take k s) y.number w.position y.due, length-take k s);
      refusal = r;
    }

-- of a file refused with 2 where the section k is due: some longer file is not refused with 2 there exactly if what the section needs, missing bytes of its size or count taken as 0, ends within 65,536
pub cut_mendable : (profile : Profile) (s : List ℕ) (p k : ℕ) → Refuses profile s CUT p → Due profile s k p
    → ((more : List ℕ) × ((length (s ++ more) ≤ most) × (Refuses profile (s ++ more) CUT p → ⊥))) ↔ (needed_to s k p ≤ most)
cut_mendable profile s p k e d = (
  (λ x. by_order (needed_to s k p) most (λ h. h) (λ h. absurd (x.1.1 (stays_cut profile s k p (due_at profile s k p d) x.0 x.1.0 h)))),
  λ h.
      let c = cut_refused profile (u32_at s 20) s p (λ h. refl) e in
      let j : c.number ≡ k = one_due profile s s c.number k p c.due (due_at profile s k p d) refl in
      mended profile s k p (due_at profile s k p d) h (rw j at c.lacks),
)

-- ---- 9 TRAIL

-- refused with 9 at p exactly if the first p bytes are accepted and there are more, within 65,536
pub trail_exactly : (profile : Profile) (s : List ℕ) (p : ℕ) → Refuses profile s TRAIL p ↔ (((r : Record) × Accepts profile (take p s) r) × ((p < length s) × (length s ≤ most)))
unfolding Accepts reading shortcut number_of
trail_exactly profile s p = (
  (λ e. let x = Refuses-spot profile s TRAIL p e in go (origin profile s x.is) x.told),
  λ x.
      let (r, a) = x.0 in
      let b : List ℕ = take p s in
      let m : length b ≡ p = length-take-le p s (omega arith) in
      let y = accepted_Read profile b r (length b) a in
      let w = shortcut-Whole profile b y.sections (length b) y.is in
      let i : sections profile 0 s ≡ got y.sections p = (Own-sections profile).alike 0 b y.sections p (w.read ∙ ap (got y.sections) m) s (sym (take-take p p s (omega arith))) (omega arith) in
      let j : shortcut profile s ≡ refused TRAIL (spot_at (section 9 (p - 4)) 4) = rw (le-leb (length s) most x.1.1, i, ne_eqb p (length s) (λ z. omega arith)) in
      let z : p - 4 + 4 ≡ p = omega (arith, four_read profile s y.sections p i) in
      rw z at (spot_Refuses profile s j),
)
  where
    never : {k : ℕ} → Belongs k TRAIL → ⊥
    never b = no_true (sym (Belongs-number b).1)

    go : {w : Spot} → Origin profile s TRAIL w → w.position ≡ p → ((r : Record) × Accepts profile (take p s) r) × ((p < length s) × (length s ≤ most))
    go (in_section l i) z = absurd (never (reached profile _ s (λ h. refl) l i).belongs)
    go (trailing c n l i h) z =
        let k : n ≤ length s = (Own-sections profile).inside 0 s c n i in
        let e : n ≡ p = omega (arith, four_read profile s c n i) in
        let b : List ℕ = take n s in
        let m : length b ≡ n = length-take-le n s k in
        let j : sections profile 0 b ≡ got c n = (Own-sections profile).alike 0 s c n i b (take-take n n s (omega arith)) (omega arith) in
        let y : shortcut profile b ≡ got c n = rw (le-leb (length b) most (omega arith), j, eq-eqb n (length b) (sym m)) in
        let a : Accepts profile b (record_of c) = rw (y, m) in
        ((record_of c, rw e at a), (by_order (length s) n (λ g. absurd (h (omega arith))) (λ g. omega arith), l))

-- ---- all others

-- any refusal but 2 and 9 stays, number and position, for every longer file
pub refusal_stays : (profile : Profile) (s more : List ℕ) (f : Fault) (p : ℕ) → Refuses profile s f p → (f ≡ CUT → ⊥) → (f ≡ TRAIL → ⊥) → length (s ++ more) ≤ most → Refuses profile (s ++ more) f p
refusal_stays profile s more f p e c n m =
    let x = Refuses-spot profile s f p e in
    rw x.told at (spot_Refuses profile (s ++ more) (stays profile s (s ++ more) x.is c n (Begins-more s more) m))

-- and a beginning is refused so too, or cut
pub refused_beginnings : (profile : Profile) (s : List ℕ) (f : Fault) (p : ℕ) → Refuses profile s f p → (f ≡ LONG → ⊥) → (f ≡ TRAIL → ⊥) → (k : ℕ) → Begun profile (take k s) f p
refused_beginnings profile s f p e l t k =
    let x = Refuses-spot profile s f p e in
    go x.told (begun_at profile s (limit (origin profile s x.is) l) x.is t (take k s) (Begins-taken k s))
  where
    limit : {g : Fault} {w : Spot} → Origin profile s g w → (g ≡ LONG → ⊥) → length s ≤ most
    limit (too_long h) l = absurd (l refl)
    limit (in_section h i) l = h
    limit (trailing c n h i o) l = h

    go : {w : Spot} → w.position ≡ p → BegunAt profile (take k s) f w → Begun profile (take k s) f p
    go z (same_at i) = same (rw z at (spot_Refuses profile (take k s) i))
    go {w} z (cut_at v i) = cut v.position (spot_Refuses profile (take k s) i)

-- ---- 3 MAGIC and 4 HEAD

header-step : (profile : Profile) (u : Bool) (before : List ℕ) (q : ℕ) (b : List ℕ) → step profile u before 0 q b ≡ ended (header profile q b)
unfolding step
header-step profile u before q b = refl

-- the header's numbers: it is there, and the first of its rules that is broken gives this one
header_exactly : (profile : Profile) (s : List ℕ) (f : Fault) (p : ℕ) → Belongs 0 f → NoCut f
    → Refuses profile s f p ↔ ((length s ≤ most) × ((76 ≤ length s) × FirstFails (header_rules profile (take 76 s)) f p))
header_exactly profile s f p b n = (
  (λ e.
      let x = fault_at profile s f p 0 b n e in
      let i : header profile 0 s ≡ refused f x.spot = unended (header profile 0 s) (sym (header-step profile (strings_unicode (u32_at s 20)) x.before 0 s) ∙ at_start x.before x.start (x.early refl) x.refusal) in
      (x.limit, header_fails profile 0 s i n (λ h j y v. (h, subst (FirstFails (header_rules profile (take 76 s)) f) (omega (arith, ap (λ (w : Spot). w.position) v, x.told)) y)))),
  λ x.
      let z : 0 + p ≡ p = omega arith in
      at_fault profile s f 0 0 p x.0 (short_header profile [] (omega arith)) (λ before.
      (spot_at (section 0 0) p, (header-step profile (strings_unicode (u32_at s 20)) before 0 s ∙ ap ended (header_refuses profile 0 s f p x.1.0 x.1.1), z))),
)
  where
    at_start : (before : List ℕ) (q : ℕ) → q ≡ 0 → {w : Spot} → step profile (strings_unicode (u32_at s 20)) before 0 q (drop q s) ≡ refused f w → step profile (strings_unicode (u32_at s 20)) before 0 0 s ≡ refused f w
    at_start before q z e = rw z at e

module _ (profile : Profile) (l : List ℕ) where
  Each-head : Each (λ f i. f ≡ HEAD) (head_tests profile l)
  Each-head = ((λ e. refl), λ e. ((λ e. refl), λ e. ((λ e. refl), λ e. ((λ e. refl), λ e. tt))))

  magic_first : (p : ℕ) → FirstFails (header_rules profile l) MAGIC p → WrongMagic l p
  magic_first p x = go (header_size_ok (u32_at l 0)) refl (identifier_ok l) refl
    where
      go : (a : Bool) → header_size_ok (u32_at l 0) ≡ a → (b : Bool) → identifier_ok l ≡ b → WrongMagic l p
      go true e true i = absurd (let y = first_Each (λ f i. f ≡ HEAD) (head_tests profile l) MAGIC p Each-head ((x.0 e).0 i) in let z : ◌≡◌ {A = ℕ} 0 1 = cc in omega arith)
      go true e false i = subst (WrongMagic l) ((x.0 e).1 i).1 (identifier e i)
      go false e b i = subst (WrongMagic l) (x.1 e).1 (size e)

  first_magic : (p : ℕ) → WrongMagic l p → FirstFails (header_rules profile l) MAGIC p
  first_magic p (size e) = ((λ y. clash y e), λ y. (refl, refl))
  first_magic p (identifier e i) = ((λ y. ((λ z. clash z i), λ z. (refl, refl))), λ y. clash e y)

  head_first : (p : ℕ) → FirstFails (header_rules profile l) HEAD p → ((header_size_ok (u32_at l 0) ≡ true) × (identifier_ok l ≡ true)) × WrongHead profile l p
  head_first p x = go (header_size_ok (u32_at l 0)) refl (identifier_ok l) refl
    where
      rest : FirstFails (head_tests profile l) HEAD p → WrongHead profile l p
      rest y = by (flags_ok (u32_at l 20)) refl (attributes_ok profile (u32_at l 24)) refl (hotkey_ok (u16_at l 64)) refl (zeros_from_66 l) refl
        where
          by : (a : Bool) → flags_ok (u32_at l 20) ≡ a → (b : Bool) → attributes_ok profile (u32_at l 24) ≡ b → (c : Bool) → hotkey_ok (u16_at l 64) ≡ c → (d : Bool) → zeros_from_66 l ≡ d → WrongHead profile l p
          by false e b f c g d h = subst (WrongHead profile l) (y.1 e).1 (flags e)
          by true e false f c g d h = subst (WrongHead profile l) ((y.0 e).1 f).1 (attributes e f)
          by true e true f false g d h = subst (WrongHead profile l) (((y.0 e).0 f).1 g).1 (hotkey e f g)
          by true e true f true g false h = subst (WrongHead profile l) ((((y.0 e).0 f).0 g).1 h).1 (zeros e f g h)
          by true e true f true g true h = absurd ((((y.0 e).0 f).0 g).0 h)

      go : (a : Bool) → header_size_ok (u32_at l 0) ≡ a → (b : Bool) → identifier_ok l ≡ b → ((header_size_ok (u32_at l 0) ≡ true) × (identifier_ok l ≡ true)) × WrongHead profile l p
      go true e true i = ((e, i), rest ((x.0 e).0 i))
      go true e false i = absurd (let y = ((x.0 e).1 i).0 in let z : ◌≡◌ {A = ℕ} 0 1 = cc in omega arith)
      go false e b i = absurd (let y = (x.1 e).0 in let z : ◌≡◌ {A = ℕ} 0 1 = cc in omega arith)

  head_tests_lem : (p : ℕ) → WrongHead profile l p → FirstFails (head_tests profile l) HEAD p
  head_tests_lem p (flags e) = ((λ y. clash y e), λ y. (refl, refl))
  head_tests_lem p (attributes e f) = ((λ y. ((λ z. clash z f), λ z. (refl, refl))), λ y. clash e y)
  head_tests_lem p (hotkey e f g) = ((λ y. ((λ z. ((λ v. clash v g), λ v. (refl, refl))), λ z. clash f z)), λ y. clash e y)
  head_tests_lem p (zeros e f g h) = ((λ y. ((λ z. ((λ v. ((λ u. clash u h), λ u. (refl, refl))), λ v. clash g v)), λ z. clash f z)), λ y. clash e y)

  first_head : (p : ℕ) → header_size_ok (u32_at l 0) ≡ true → identifier_ok l ≡ true → WrongHead profile l p → FirstFails (header_rules profile l) HEAD p
  first_head p e i x = ((λ y. ((λ z. head_tests_lem p x), λ z. clash i z)), λ y. clash e y)

-- refused with 3 exactly if the header is there and its size is wrong, or its size is right and its class identifier is wrong
pub magic_exactly : (profile : Profile) (s : List ℕ) (p : ℕ) → Refuses profile s MAGIC p ↔ ((length s ≤ most) × ((76 ≤ length s) × WrongMagic (take 76 s) p))
magic_exactly profile s p =
    let e = header_exactly profile s MAGIC p by_magic no_magic in (
      (λ x. let (l, (h, y)) = e.0 x in (l, (h, magic_first profile (take 76 s) p y))),
      λ (l, (h, y)). e.1 (l, (h, first_magic profile (take 76 s) p y)),
    )

-- refused with 4 exactly if the header is there, size and class identifier are right, and another of its rules is broken, the first one at p
pub head_exactly : (profile : Profile) (s : List ℕ) (p : ℕ)
    → Refuses profile s HEAD p ↔ ((length s ≤ most) × ((76 ≤ length s) × (((header_size_ok (u32_at (take 76 s) 0) ≡ true) × (identifier_ok (take 76 s) ≡ true)) × WrongHead profile (take 76 s) p)))
head_exactly profile s p =
    let e = header_exactly profile s HEAD p by_head no_head in (
      (λ x. let (l, (h, y)) = e.0 x in (l, (h, head_first profile (take 76 s) p y))),
      λ (l, (h, ((a, b), y))). e.1 (l, (h, first_head profile (take 76 s) p a b y)),
    )

-- ---- beginnings under two profiles

-- no accepted shortcut begins another, whichever profile accepts each
pub no_other_begins_across : (a b : Profile) (s t : List ℕ) (r q : Record) → Accepts a s r → Accepts b t q → take (length s) t ≡ s → s ≡ t
no_other_begins_across a b s t r q e f i = no_other_begins NinetyFive s t r q (lenient a s r e) (lenient b t q f) i
  where
    lenient : (p : Profile) (s : List ℕ) (r : Record) → Accepts p s r → Accepts NinetyFive s r
    lenient Strict s r e = (strict_within s r e).accepted
    lenient NinetyFive s r e = e
