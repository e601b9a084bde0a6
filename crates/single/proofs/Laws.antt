-- What is left from a place on, in the terms of the whole.
use mathlib.Core.Path.{◌≡◌, ap, sym, ◌∙◌}
use mathlib.Core.List.{List}
use Prim.Native.Nat.{ℕ, ◌+◌, ◌-◌, ◌≤◌}
use native.Mathlib.Nat.{add-zero}
use native.Mathlib.Omega.{arith}
use lib.ListN.{length, take, drop, length-drop}
use lib.Seq.{drop-drop}
use borrow.Author.Tests.{le-leb}
use Rattle.std.specs.Prelude.{Option, Some, None, Ok, Err}
use Rattle.octets.specs.Numbers.{number_at, u16_at}
use Rattle.octets.proofs.NumberLaws.{number_drop}
use Rattle.format.specs.declared.Fault.TheVariants.{Items as ITEMS}
use Rattle.format.specs.Tests.{section, spot_at, got, place}
use Rattle.format.specs.Items.{item_tests, items}
use Rattle.format.specs.Steps.Answers.{refusal, read_from}
use Rattle.format.specs.Steps.Wrong.{wrong}
use Rattle.format.proofs.Chains.{drop-take}
use Rattle.format.proofs.WrongLaws.{at_fault, one_fault}
use Rattle.format.proofs.ItemsLaws.{item_OfFault}

-- the first number of what is left
pub first_left : (s : List ℕ) (p : ℕ) → u16_at (drop p s) 0 ≡ u16_at s p
first_left s p = number_drop 2 p s 0 ∙ ap (number_at 2 s) (add-zero p)

-- where the list stands, its tests are one
pub items_here : (s : List ℕ) (p : ℕ) {n : ℕ} → n ≡ u16_at s p → p + 2 + n ≤ length s
    → items p (drop p s) ≡ at_fault ITEMS (section 1 p) (wrong (item_tests ITEMS 2 0 (take n (drop (p + 2) s)))) (got (place (p + 2) (2 + n - 4)) (2 + n))
items_here s p {n} e h =
    let d = length-drop p s in
    let x : List ℕ = take n (drop (p + 2) s) in
    let l : drop 2 (take (2 + n) (drop p s)) ≡ x = drop-take 2 n (drop p s) ∙ ap (take n) (drop-drop 2 p s) in
    rw (first_left s p, ← e, le-leb 2 (length (drop p s)) (omega arith), le-leb (2 + n) (length (drop p s)) (omega arith), l)
    (one_fault ITEMS (section 1 p) (item_tests ITEMS 2 0 x) (got (place (p + 2) (2 + n - 4)) (2 + n)) (item_OfFault ITEMS 2 0 x))

module _ (s : List ℕ) (p : ℕ) {n : ℕ} (e : n ≡ u16_at s p) (h : p + 2 + n ≤ length s) where
  pub items_bad : {w : ℕ} → wrong (item_tests ITEMS 2 0 (take n (drop (p + 2) s))) ≡ Some w → Err (refusal ITEMS (spot_at (section 1 p) w)) ≡ read_from p (items p (drop p s))
  items_bad z = sym (ap (read_from p) (items_here s p e h ∙ ap (λ (o : Option ℕ). at_fault ITEMS (section 1 p) o (got (place (p + 2) (2 + n - 4)) (2 + n))) z))

  pub items_good : wrong (item_tests ITEMS 2 0 (take n (drop (p + 2) s))) ≡ None → 2 ≤ n → Ok (place (p + 2) (n - 2), record { at = p + 2 + n }) ≡ read_from p (items p (drop p s))
  items_good z two =
      let k : 2 + n - 4 ≡ n - 2 = omega arith in
      let m : p + (2 + n) ≡ p + 2 + n = omega arith in
      sym (ap (read_from p) (items_here s p e h ∙ ap (λ (o : Option ℕ). at_fault ITEMS (section 1 p) o (got (place (p + 2) (2 + n - 4)) (2 + n))) z) ∙ rw (k, m))
