-- The same of whole files: where a refusal comes from, and what a file is refused with that has a section due.
use mathlib.Core.Path.{◌≡◌, refl, sym, ap, ◌∙◌, subst}
use mathlib.Core.List.{List, [], ◌∷◌}
use mathlib.Core.Bool.{Bool, true, false, cond}
use Prim.Native.Nat.{ℕ, ◌+◌, ◌-◌, ◌≤◌, ◌<◌}
use native.Mathlib.Omega.{arith}
use native.Mathlib.Nat.{zero-add}
use lib.ListN.{length, take, drop, length-take}
use lib.Seq.{take-take, length-take-le, drop-length}
use lib.Dec.{leb, eqb}
use borrow.Author.Tests.{leb-true, leb-false, le-leb, eqb-false}
use Rattle.octets.specs.Numbers.{u32_at}
use Rattle.octets.proofs.NumberLaws.{number_same}
use Rattle.format.specs.declared.Profile.{Profile}
use Rattle.format.specs.declared.Fault.{Fault}
use Rattle.format.specs.declared.Fault.TheVariants.{Long as LONG, Cut as CUT, Trail as TRAIL}
use Rattle.format.specs.declared.Spot.{Spot}
use Rattle.format.specs.declared.Refusal.{Refusal}
use Rattle.format.specs.declared.Header.{Header}
use Rattle.format.specs.Tests.{◌else◌at◌, section, no_section, spot_at, tests, Outcome, got, refused, Reader, and_then, chain}
use Rattle.format.specs.Presence.{strings_unicode}
use Rattle.format.specs.Header.{header_rules, header_fields, header}
use Rattle.format.specs.Blocks.{slot_at, is_among}
use Rattle.format.specs.Shortcut.{most, Section, Sections, found, tail, sections, shortcut, faulted, faulted_by}
use Rattle.format.proofs.Chains.{tests_elim, drop-take}
use Rattle.format.proofs.BlockLaws.{same_slot}
use Rattle.format.proofs.PlaceLaws.{found_elim}
use Rattle.format.proofs.MendLaws.{refused_elim, no_refusal}
use Rattle.format.proofs.PositionDemands.{positions_inside}
use Rattle.refusals.specs.Due.{Due}
use Rattle.refusals.proofs.StepLaws.{Belongs, step, step-Belongs, step_none}
use Rattle.refusals.proofs.ReachLaws.{Walks-file}
use Rattle.std.specs.Prelude.{Result, Ok, Err}

-- ---- the flags

-- the header of s, if it is there, has these flags
abbrev pub Flagged : ℕ → List ℕ → Type 0
Flagged flags s = 76 ≤ length s → u32_at s 20 ≡ flags

pub Flagged-take : (flags : ℕ) (s : List ℕ) (c : ℕ) → Flagged flags s → Flagged flags (take c s)
Flagged-take flags s c e h =
    let l : 76 ≤ c = omega (arith, length-take c s) in
    number_same 4 76 (take c s) s 20 (take-take 76 c s l) (omega arith) ∙ e (omega (arith, length-take c s))

header_flags : (profile : Profile) (s : List ℕ) (h : Section Header) (n : ℕ) → found (header profile) 0 s ≡ got h n → h.read.flags ≡ u32_at s 20
header_flags profile s h n e =
    found_elim (header profile) 0 s (λ h n. h.read.flags ≡ u32_at s 20)
    (λ a n i.
    tests_elim (λ a n. a.flags ≡ u32_at s 20) (section 0 0) (leb 76 (length s) else CUT at 0 ∷ header_rules profile (take 76 s)) (header_fields (take 76 s)) 76
    (λ c. number_same 4 76 (take 76 s) s 20 (take-take 76 76 s (omega arith)) (omega arith)) a n i)
    h n e

header_there : (profile : Profile) (s : List ℕ) (h : Section Header) (n : ℕ) → found (header profile) 0 s ≡ got h n → 76 ≤ length s
header_there profile s h n e =
    found_elim (header profile) 0 s (λ h n. 76 ≤ length s)
    (λ a n i. tests_elim (λ a n. 76 ≤ length s) (section 0 0) (leb 76 (length s) else CUT at 0 ∷ header_rules profile (take 76 s)) (header_fields (take 76 s)) 76 (λ c. leb-true 76 (length s) c.0) a n i)
    h n e

-- the sections with the flags said beforehand
abbrev pub sections_by : Profile → ℕ → Reader Sections
sections_by profile flags = chain (found (header profile)) (λ h. tail profile flags)

sections_by_lem : (profile : Profile) (flags : ℕ) (s : List ℕ) → Flagged flags s → sections profile 0 s ≡ sections_by profile flags 0 s
unfolding sections
sections_by_lem profile flags s e = go (found (header profile) 0 s) refl
  where
    rest : Section Header → ℕ → ℕ → Outcome Sections
    rest h n g = and_then (tail profile g (0 + n) (drop n s)) (λ b m. got (h, b) (n + m))

    go : (o : Outcome (Section Header)) → found (header profile) 0 s ≡ o → and_then o (λ h n. rest h n h.read.flags) ≡ and_then o (λ h n. rest h n flags)
    go (got h n) i = ap (rest h n) (header_flags profile s h n i ∙ e (header_there profile s h n i))
    go (refused f w) i = refl

-- ---- where a refusal comes from

pub data Origin (profile : Profile) (s : List ℕ) : Fault → Spot → Type 0 where
  too_long : most < length s → Origin profile s LONG (spot_at no_section most)
  in_section : {f : Fault} {w : Spot} → length s ≤ most → sections profile 0 s ≡ refused f w → Origin profile s f w
  trailing : (c : Sections) (n : ℕ) → length s ≤ most → sections profile 0 s ≡ got c n → (n ≡ length s → ⊥) → Origin profile s TRAIL (spot_at (section 9 (n - 4)) 4)

pub origin : (profile : Profile) (s : List ℕ) {f : Fault} {w : Spot} → shortcut profile s ≡ refused f w → Origin profile s f w
unfolding shortcut
origin profile s {f} {w} e = go (leb (length s) most) refl e
  where
    ends : length s ≤ most → (o : Outcome Sections) → sections profile 0 s ≡ o → and_then o (λ c n. tests (section 9 (n - 4)) (eqb n (length s) else TRAIL at 4 ∷ []) (got c n)) ≡ refused f w → Origin profile s f w
    ends l (got c n) i z = last (eqb n (length s)) refl z
      where
        last : (b : Bool) → eqb n (length s) ≡ b → ◌≡◌ {A = Outcome Sections} (cond b (got c n) (refused TRAIL (spot_at (section 9 (n - 4)) 4))) (refused f w) → Origin profile s f w
        last true j y = no_refusal y
        last false j y = refused_elim (Origin profile s) y (trailing c n l i (eqb-false n (length s) j))
    ends l (refused g v) i z = refused_elim (Origin profile s) z (in_section l i)

    go : (b : Bool) → leb (length s) most ≡ b
        → cond b (and_then (sections profile 0 s) (λ c n. tests (section 9 (n - 4)) (eqb n (length s) else TRAIL at 4 ∷ []) (got c n))) (refused LONG (spot_at no_section most)) ≡ refused f w → Origin profile s f w
    go true i z = ends (leb-true (length s) most i) (sections profile 0 s) refl z
    go false i z = refused_elim (Origin profile s) z (too_long (leb-false (length s) most i))

pub from_sections : (profile : Profile) (s : List ℕ) → length s ≤ most → {f : Fault} {w : Spot} → sections profile 0 s ≡ refused f w → shortcut profile s ≡ refused f w
unfolding shortcut
from_sections profile s l e = rw (le-leb (length s) most l, e)

-- ---- the section at fault

-- in s the section k is due at q
abbrev pub DueAt : Profile → List ℕ → ℕ → ℕ → Type 0
DueAt profile s k q = shortcut profile (take q s) ≡ refused CUT (spot_at (section k q) 0)

pub due_sections : (profile : Profile) (s : List ℕ) (k q : ℕ) → DueAt profile s k q → sections profile 0 (take q s) ≡ refused CUT (spot_at (section k q) 0)
due_sections profile s k q e = go (origin profile (take q s) e)
  where
    go : {w : Spot} → Origin profile (take q s) CUT w → sections profile 0 (take q s) ≡ refused CUT w
    go (in_section l i) = i

-- a block of the slot x is due before q
abbrev pub EarlierIn : Profile → List ℕ → ℕ → ℕ → Type 0
EarlierIn profile s q x = (r : ℕ) × ((r + 8 ≤ q) × (DueAt profile s 9 r × (slot_at (drop r s) ≡ x)))

pub record At (profile : Profile) (flags : ℕ) (s : List ℕ) (f : Fault) (w : Spot) : Type 0 where
  pub number : ℕ
  pub before : List ℕ
  pub within : w.start ≤ length s
  pub refusal : step profile (strings_unicode flags) before number w.start (drop w.start s) ≡ refused f w
  -- in all files with the same bytes before it that section decides, if it refuses there
  pub on : (t : List ℕ) → Flagged flags t → length t ≤ most → take w.start t ≡ take w.start s → w.start ≤ length t → {g : Fault} {v : Spot}
      → step profile (strings_unicode flags) before number w.start (drop w.start t) ≡ refused g v → shortcut profile t ≡ refused g v
  pub due : DueAt profile s number w.start
  pub belongs : Belongs number f
  pub early : number ≡ 0 → w.start ≡ 0
  -- `before` has the slots of the blocks before it
  pub from : (x : ℕ) → is_among x before ≡ true → EarlierIn profile s w.start x
  pub seen : (x : ℕ) → EarlierIn profile s w.start x → is_among x before ≡ true

module _ (profile : Profile) (flags : ℕ) (s : List ℕ) (e : Flagged flags s) (l : length s ≤ most) where
  stands : {f : Fault} {w : Spot} (k : ℕ) (before : List ℕ) (q : ℕ) → w.start ≡ q → q ≤ length s → step profile (strings_unicode flags) before k q (drop q s) ≡ refused f w
      → ((t : List ℕ) → take q t ≡ take q s → q ≤ length t → (g : Fault) (v : Spot) → step profile (strings_unicode flags) before k q (drop q t) ≡ refused g v → sections_by profile flags 0 t ≡ refused g v)
      → (k ≡ 0 → q ≡ 0) → ((x : ℕ) → is_among x before ≡ true → EarlierIn profile s q x) → ((x : ℕ) → EarlierIn profile s q x → is_among x before ≡ true) → At profile flags s f w
  stands {f} {w} k before q z h r on early from seen = record {
    number = k;
    before = before;
    within = omega arith;
    refusal = subst (λ (q : ℕ). step profile (strings_unicode flags) before k q (drop q s) ≡ refused f w) (sym z) r;
    on = λ t y m a b j. further t y m (rw z at a) (omega arith) (rw z at j);
    due = subst (λ (q : ℕ). DueAt profile s k q) (sym z) due;
    belongs = step-Belongs profile (strings_unicode flags) before k q (drop q s) r;
    early = λ y. z ∙ early y;
    from = λ x a. subst (λ (q : ℕ). EarlierIn profile s q x) (sym z) (from x a);
    seen = λ x a. seen x (subst (λ (q : ℕ). EarlierIn profile s q x) z a);
  }
    where
      further : (t : List ℕ) → Flagged flags t → length t ≤ most → take q t ≡ take q s → q ≤ length t → {g : Fault} {v : Spot} → step profile (strings_unicode flags) before k q (drop q t) ≡ refused g v
          → shortcut profile t ≡ refused g v
      further t y m a b {g} {v} j = from_sections profile t m (sections_by_lem profile flags t y ∙ on t a b g v j)

      due : DueAt profile s k q
      due =
          let m : length (take q s) ≡ q = length-take-le q s h in
          let d : drop q (take q s) ≡ [] = ap (λ (i : ℕ). drop i (take q s)) (sym m) ∙ drop-length (take q s) in
          further (take q s) (Flagged-take flags s q e) (omega (arith, m)) (take-take q q s (omega arith)) (omega arith)
          (ap (step profile (strings_unicode flags) before k q) d ∙ step_none profile (strings_unicode flags) before k q (drop q s) r)

  pub reached : {f : Fault} {w : Spot} → sections profile 0 s ≡ refused f w → At profile flags s f w
  reached {f} {w} i =
      let x = (Walks-file profile (strings_unicode flags) flags refl).reaches 0 s (sym (sections_by_lem profile flags s e) ∙ i) in
      let y : 0 + x.count ≡ x.count = zero-add x.count in
      stands x.number x.before x.count (x.is ∙ y) x.within (at_zero x.before x.number x.count s x.refusal) (λ t a b g v j. x.on t a b (from_zero x.before x.number x.count t j)) x.early
      (λ y a. let (r, (o, (d, v))) = x.from y a refl in (r, (o, (there r d, v))))
      (λ y (r, (o, (d, v))). x.seen y (r, (o, (back r d, v))))
    where
      there : (r : ℕ) → sections_by profile flags 0 (take r s) ≡ refused CUT (spot_at (section 9 (0 + r)) 0) → DueAt profile s 9 r
      there r d =
          let z : 0 + r ≡ r = zero-add r in
          from_sections profile (take r s) (omega (arith, length-take r s)) (sections_by_lem profile flags (take r s) (Flagged-take flags s r e) ∙ d ∙ ap (λ (i : ℕ). refused CUT (spot_at (section 9 i) 0)) z)

      back : (r : ℕ) → DueAt profile s 9 r → sections_by profile flags 0 (take r s) ≡ refused CUT (spot_at (section 9 (0 + r)) 0)
      back r d =
          let z : r ≡ 0 + r = sym (zero-add r) in
          sym (sections_by_lem profile flags (take r s) (Flagged-take flags s r e)) ∙ due_sections profile s 9 r d ∙ ap (λ (i : ℕ). refused CUT (spot_at (section 9 i) 0)) z

      at_zero : (before : List ℕ) (k c : ℕ) (t : List ℕ) {g : Fault} {v : Spot} → step profile (strings_unicode flags) before k (0 + c) (drop c t) ≡ refused g v
          → step profile (strings_unicode flags) before k c (drop c t) ≡ refused g v
      at_zero before k c t j = rw zero-add at j

      from_zero : (before : List ℕ) (k c : ℕ) (t : List ℕ) {g : Fault} {v : Spot} → step profile (strings_unicode flags) before k c (drop c t) ≡ refused g v
          → step profile (strings_unicode flags) before k (0 + c) (drop c t) ≡ refused g v
      from_zero before k c t j = rw zero-add j

  pub record Resumes (k q : ℕ) : Type 0 where
    pub before : List ℕ
    pub on : {f : Fault} {w : Spot} → step profile (strings_unicode flags) before k q (drop q s) ≡ refused f w → shortcut profile s ≡ refused f w
    pub seen : (x : ℕ) → EarlierIn profile s q x → is_among x before ≡ true

-- ---- in the words of the definition

spot_is : (k q : ℕ) (w : Spot) → w.section ≡ k → w.start ≡ q → w.position ≡ q → w ≡ spot_at (section k q) 0
spot_is k q w a b c =
    let z : w.position ≡ q + 0 = omega arith in
    ap (λ (x : ℕ). make x w.start w.position) a ∙ ap (λ (x : ℕ). make k x w.position) b ∙ ap (λ (x : ℕ). make k q x) z
  where
    make : ℕ → ℕ → ℕ → Spot
    make x y z = record { section = x; start = y; position = z }

accepted_not : {n : ℕ} {r : Refusal} → ◌≡◌ {A = Result ℕ Refusal} (Ok n) (Err r) → ⊥
accepted_not z = let y : ◌≡◌ {A = ℕ} 0 1 = cc in omega arith

refusal_parts : {r q : Refusal} → ◌≡◌ {A = Result ℕ Refusal} (Err r) (Err q) → (r.fault ≡ q.fault) × (r.spot ≡ q.spot)
refusal_parts {r} {q} z =
    let e : r ≡ q = cc in
    (ap (λ (x : Refusal). x.fault) e, ap (λ (x : Refusal). x.spot) e)

pub due_at : (profile : Profile) (s : List ℕ) (k q : ℕ) → Due profile s k q → DueAt profile s k q
unfolding faulted
due_at profile s k q e = go (shortcut profile (take q s)) refl e
  where
    go : (o : Outcome Sections) → shortcut profile (take q s) ≡ o → faulted_by o ≡ Err (record { fault = CUT; spot = record { section = k; start = q; position = q } }) → shortcut profile (take q s) ≡ refused CUT (spot_at (section k q) 0)
    go (got c n) i z = absurd (accepted_not z)
    go (refused f w) i z =
        let (a, b) = refusal_parts z in
        let c = spot_is k q w (ap (λ (x : Spot). x.section) b) (ap (λ (x : Spot). x.start) b) (ap (λ (x : Spot). x.position) b) in
        i ∙ ap (λ (g : Fault). refused g w) a ∙ ap (refused CUT) c

pub at_Due : (profile : Profile) (s : List ℕ) (k q : ℕ) → DueAt profile s k q → Due profile s k q
unfolding faulted
at_Due profile s k q e = let z : q + 0 ≡ q = omega arith in rw (e, z)

not_long : CUT ≡ LONG → ⊥
not_long e = let z : ◌≡◌ {A = ℕ} 0 1 = cc in omega arith

-- it is due no later than the file ends
pub due_within : (profile : Profile) (s : List ℕ) (k q : ℕ) → DueAt profile s k q → q ≤ length s
due_within profile s k q e = let x = positions_inside profile (take q s) CUT (spot_at (section k q) 0) e not_long in omega (arith, x.late, length-take q s)

-- what is due decides, if it refuses
pub resumed : (profile : Profile) (flags : ℕ) (s : List ℕ) (e : Flagged flags s) (l : length s ≤ most) (k q : ℕ) → DueAt profile s k q → Resumes profile flags s e l k q
resumed profile flags s e l k q d = go (origin profile (take q s) d)
  where
    h : q ≤ length s
    h = due_within profile s k q d

    go : Origin profile (take q s) CUT (spot_at (section k q) 0) → Resumes profile flags s e l k q
    go (in_section m i) =
        let x = reached profile flags (take q s) (Flagged-take flags s q e) m i in
        let y : x.number ≡ k = refused_elim (λ f w. x.number ≡ w.section) (sym x.due ∙ ap (shortcut profile) (take-take q q s (omega arith)) ∙ d) refl in
        record {
          before = x.before;
          on = λ j. x.on s e l (sym (take-take q q s (omega arith))) h (rw y j);
          seen = λ a (r, (o, (c, v))). x.seen a (r, (o, (ap (shortcut profile) (take-take r q s (omega arith)) ∙ c, slot r o ∙ v)));
        }
      where
        slot : (r : ℕ) → r + 8 ≤ q → slot_at (drop r (take q s)) ≡ slot_at (drop r s)
        slot r o =
            let z : r + (q - r) ≡ q = omega arith in
            let y : drop r (take q s) ≡ take (q - r) (drop r s) = rw z at (drop-take r (q - r) s) in
            ap slot_at y ∙ same_slot (q - r) (take (q - r) (drop r s)) (drop r s) (take-take (q - r) (q - r) (drop r s) (omega arith)) (omega arith)
