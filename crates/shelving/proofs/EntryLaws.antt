-- The tests of the entries come to the number of the first bad one; and entries that are all good are small.
use mathlib.Core.Path.{◌≡◌, refl, sym, ap, ◌∙◌}
use mathlib.Core.List.{List, [], ◌∷◌, ◌++◌, map}
use mathlib.Core.Bool.{Bool, true, false, not, cond}
use Prim.Native.Nat.{ℕ, zero, suc, ◌+◌, ◌≤◌, ◌<◌}
use native.Mathlib.Omega.{arith}
use lib.ListN.{length, get_or}
use lib.Dec.{leb, ltb}
use borrow.Author.Tests.{le-leb, lt-leb, le-ltb, lt-ltb}
use Rattle.format.specs.declared.Fault.TheVariants.{Entry as ENTRY, Room as ROOM}
use Rattle.format.specs.declared.Profile.TheVariants.{Strict}
use Rattle.format.specs.Tests.{Outcome, got, refused, Test, ◌else◌at◌, Site, no_section, spot_at, tests}
use Rattle.format.specs.Shortcut.{most, reading}
use Rattle.format.proofs.AcceptedLaws.{accepted_held, accepted_limit}
use Rattle.format.proofs.AnswerLaws.{nowhere}
use Rattle.format.proofs.Chains.{Pass, no_true}
use Rattle.shelving.specs.Shelf.{accepted_by, accepted_entry, entry_tests}
use Rattle.shelving.specs.Building.{filed}
use Rattle.shelving.specs.Steps.Filing.{first_bad, bad_entry}
use Rattle.std.specs.Prelude.{Option, None, Some}
use Rattle.std.specs.Option.{is_some, unwrap_or}
use Rattle.std.specs.List.{position_or_len}
use Rattle.format.proofs.Bools.{by_order}
use Rattle.format.specs.Verdicts.{Verdict}
use Rattle.std.specs.Prelude.{Ok, Err}

-- ---- the number of the first bad one

pub first_le : (es : List (List ℕ)) → first_bad es ≤ length es
unfolding first_bad
first_le [] = omega arith
first_le (e ∷ es) = go (accepted_entry e) (first_le es)
  where
    go : (b : Bool) → first_bad es ≤ length es → cond b (1 + first_bad es) 0 ≤ suc (length es)
    go true h = omega arith
    go false h = omega arith

-- what a search for it answers
searched : (es : List (List ℕ)) → position_or_len (λ (e : List ℕ). not (accepted_entry e)) es ≡ first_bad es
unfolding first_bad
searched [] = refl
searched (e ∷ es) = go (accepted_entry e) (searched es)
  where
    go : (b : Bool) → position_or_len (λ (e : List ℕ). not (accepted_entry e)) es ≡ first_bad es
        → cond (not (not b)) (1 + position_or_len (λ (e : List ℕ). not (accepted_entry e)) es) 0 ≡ cond b (1 + first_bad es) 0
    go true i = omega arith
    go false i = refl

bad_is : (es : List (List ℕ)) → bad_entry es ≡ cond (ltb (first_bad es) (length es)) (Some (first_bad es)) None
bad_is es = rw (searched es) refl

pub bad_some : (es : List (List ℕ)) {n : ℕ} → Some n ≡ bad_entry es → (n ≡ first_bad es) × (n < length es)
bad_some es {n} e =
    by_order (length es) (first_bad es)
    (λ h. no_true (sym (ap is_some (e ∙ bad_is es) ∙ rw (le-ltb (first_bad es) (length es) h))))
    (λ h. let i : n ≡ first_bad es = ap (λ (o : Option ℕ). unwrap_or o 0) (e ∙ bad_is es) ∙ rw (lt-ltb (first_bad es) (length es) h) in (i, omega arith))

pub bad_none : (es : List (List ℕ)) → None ≡ bad_entry es → first_bad es ≡ length es
bad_none es e =
    by_order (length es) (first_bad es)
    (λ h. omega (arith, first_le es))
    (λ h. no_true (ap is_some (e ∙ bad_is es) ∙ rw (lt-ltb (first_bad es) (length es) h)))

-- as a number, where there is none their count
pub first_number : (es : List (List ℕ)) → first_bad es ≡ unwrap_or (bad_entry es) (length es)
first_number es = go (bad_entry es) refl
  where
    go : (o : Option ℕ) → o ≡ bad_entry es → first_bad es ≡ unwrap_or o (length es)
    go None e = bad_none es e
    go (Some n) e = sym (bad_some es e).0

-- all are good, or one is bad
pub first_good : (e : List ℕ) (es : List (List ℕ)) → first_bad (e ∷ es) ≡ length (e ∷ es) → (accepted_entry e ≡ true) × (first_bad es ≡ length es)
unfolding first_bad
first_good e es h = go (accepted_entry e) refl h
  where
    go : (b : Bool) → accepted_entry e ≡ b → cond b (1 + first_bad es) 0 ≡ suc (length es) → (accepted_entry e ≡ true) × (first_bad es ≡ length es)
    go true t i = (t, omega arith)
    go false t i = absurd (omega arith)

module _ {A : Type 0} (w : Site) (ts : List Test) (r : Outcome A) where
  pub tests_good : (k : ℕ) (es : List (List ℕ)) → first_bad es ≡ length es → tests w (entry_tests k es ++ ts) r ≡ tests w ts r
  tests_good k [] h = refl
  tests_good k (e ∷ es) h = let (a, b) = first_good e es h in rw a (tests_good (k + 1) es b)

  pub tests_bad : (k : ℕ) (es : List (List ℕ)) → first_bad es < length es → tests w (entry_tests k es ++ ts) r ≡ refused ENTRY (spot_at w (k + first_bad es))
  unfolding first_bad
  tests_bad k [] h = absurd (omega arith)
  tests_bad k (e ∷ es) h = go (accepted_entry e) h (tests_bad (k + 1) es)
    where
      go : (b : Bool) → cond b (1 + first_bad es) 0 < suc (length es)
          → (first_bad es < length es → tests w (entry_tests (k + 1) es ++ ts) r ≡ refused ENTRY (spot_at w (k + 1 + first_bad es)))
          → cond b (tests w (entry_tests (k + 1) es ++ ts) r) (refused ENTRY (spot_at w k)) ≡ refused ENTRY (spot_at w (k + cond b (1 + first_bad es) 0))
      go true i on =
          let e : k + 1 + first_bad es ≡ k + (1 + first_bad es) = omega arith in
          on (omega arith) ∙ ap (λ (n : ℕ). refused ENTRY (spot_at w n)) e
      go false i on = let e : k ≡ k + 0 = omega arith in ap (λ (n : ℕ). refused ENTRY (spot_at w n)) e

-- no test fails, so all are good
pub all_good : (k : ℕ) (es : List (List ℕ)) → Pass (entry_tests k es) → first_bad es ≡ length es
unfolding first_bad
all_good k [] h = refl
all_good k (e ∷ es) h = rw h.0 (omega (arith, all_good (k + 1) es h.1))

pub good_at : (es : List (List ℕ)) (k : ℕ) → first_bad es ≡ length es → k < length es → accepted_entry (get_or es k []) ≡ true
good_at [] k h i = absurd (omega arith)
good_at (e ∷ es) zero h i = (first_good e es h).0
good_at (e ∷ es) (suc k) h i = good_at es k (first_good e es h).1 (omega arith)

-- ---- a file of entries

module _ (es : List (List ℕ)) (w : List ℕ) (room : ℕ) where
  pub filed_bad : first_bad es < length es → filed es w room ≡ refused ENTRY (spot_at no_section (0 + first_bad es))
  unfolding filed
  filed_bad h = tests_bad no_section (leb (length w) room else ROOM at 0 ∷ []) (got w (length w)) 0 es h

  module _ (good : first_bad es ≡ length es) where
    pub filed_room : room < length w → filed es w room ≡ refused ROOM nowhere
    unfolding filed
    filed_room h = tests_good no_section (leb (length w) room else ROOM at 0 ∷ []) (got w (length w)) 0 es good ∙ rw (lt-leb (length w) room h)

    pub filed_all : length w ≤ room → filed es w room ≡ got w (length w)
    unfolding filed
    filed_all h = tests_good no_section (leb (length w) room else ROOM at 0 ∷ []) (got w (length w)) 0 es good ∙ rw (le-leb (length w) room h)

-- ---- good entries are small

pub good_small : (e : List ℕ) → accepted_entry e ≡ true → length e ≤ most
unfolding accepted_entry
good_small e h = go (reading Strict e).verdict refl h
  where
    go : (v : Verdict) → (reading Strict e).verdict ≡ v → accepted_by v ≡ true → length e ≤ most
    go (Ok n) i j = accepted_limit Strict e (reading Strict e).held n (accepted_held Strict e refl i)
    go (Err r) i j = no_true j

pub all_small : (es : List (List ℕ)) → first_bad es ≡ length es → (k : ℕ) → get_or (map length es) k 0 ≤ most
all_small [] h k = omega arith
all_small (e ∷ es) h zero = good_small e (first_good e es h).0
all_small (e ∷ es) h (suc k) = all_small es (first_good e es h).1 k
