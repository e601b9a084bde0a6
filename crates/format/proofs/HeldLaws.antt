-- The first block of a signature, where the blocks are read: it stands inside, and the rules of its signature hold.
use mathlib.Core.Path.{◌≡◌, refl, sym, ap, ◌∙◌}
use mathlib.Core.List.{List, [], ◌∷◌}
use mathlib.Core.Bool.{Bool, true, false, cond}
use Prim.Native.Nat.{ℕ, zero, suc, ◌+◌, ◌≤◌}
use native.Mathlib.Omega.{arith}
use lib.ListN.{length, take, drop, length-drop}
use lib.Seq.{drop-drop, take-take, length-take-le}
use lib.Dec.{eqb}
use borrow.Author.Tests.{leb-true, eqb-true}
use Rattle.octets.specs.Numbers.{u32_at}
use Rattle.octets.proofs.NumberLaws.{number_drop, number_same}
use Rattle.format.specs.declared.Place.{Place}
use Rattle.format.specs.Tests.{got, place}
use Rattle.format.specs.Blocks.{slot_of, slot_at, block_size, block_rules, blocks_after, blocks, first_place}
use Rattle.format.specs.Contents.{bytes_at}
use Rattle.format.proofs.Bools.{by_order}
use Rattle.format.proofs.Chains.{Pass, no_value}
use Rattle.format.proofs.BlockLaws.{none_left, step_elim}

-- at p or later, with a terminal after it
pub record HoldsBlock (s : List ℕ) (signature p : ℕ) (b : Place) : Type 0 where
  pub from : p ≤ b.at
  pub inside : b.at + b.len + 4 ≤ length s
  pub long : length (bytes_at s b) ≡ b.len
  pub slot : slot_at (bytes_at s b) ≡ slot_of signature
  pub rules : Pass (block_rules (bytes_at s b))

four_left : (before : List ℕ) (p : ℕ) (s lengths : List ℕ) (n : ℕ) → blocks_after before p s ≡ got lengths n → 4 ≤ length s
four_left before p s lengths n e = by_order 4 (length s) (λ h. h) (λ h. no_value (sym (none_left before p s h) ∙ e))

-- if there is one; k bounds what is left
first_holds : (k : ℕ) (before s : List ℕ) (signature p : ℕ) (lengths : List ℕ) (n : ℕ) → length (drop p s) ≤ k → blocks_after before p (drop p s) ≡ got lengths n
    → ((first_place s signature p lengths).len ≡ 0 → ⊥) → HoldsBlock s signature p (first_place s signature p lengths)
first_holds zero before s signature p lengths n l e = no_value (sym (none_left before p (drop p s) (omega arith)) ∙ e)
first_holds (suc k) before s signature p lengths n l e =
    step_elim before p (drop p s) (λ lengths n. ((first_place s signature p lengths).len ≡ 0 → ⊥) → HoldsBlock s signature p (first_place s signature p lengths))
    (λ h t z. absurd (z refl))
    (λ c once ls m i.
    let size : ℕ = block_size (drop p s) in
    let passed : List ℕ = slot_at (drop p s) ∷ before in
    let b : 8 ≤ size = leb-true 8 size c.0 in
    let w : size ≤ length (drop p s) = leb-true size (length (drop p s)) c.1.0 in
    let j : blocks_after passed (p + size) (drop (p + size) s) ≡ got ls m = rw (drop-drop size p s) at i in
    let d = length-drop p s in
    let four = four_left passed (p + size) (drop (p + size) s) ls m j in
    go size b w four c.1.1 ls (first_holds k passed s signature (p + size) ls m (omega (arith, length-drop (p + size) s)) j) (eqb (u32_at s (p + 4)) signature) refl)
    lengths n e
  where
    go : (size : ℕ) → 8 ≤ size → size ≤ length (drop p s) → 4 ≤ length (drop (p + size) s) → Pass (block_rules (take size (drop p s))) → (ls : List ℕ)
        → (((first_place s signature (p + size) ls).len ≡ 0 → ⊥) → HoldsBlock s signature (p + size) (first_place s signature (p + size) ls)) → (x : Bool) → eqb (u32_at s (p + 4)) signature ≡ x
        → ((cond x (place p size) (first_place s signature (p + size) ls)).len ≡ 0 → ⊥) → HoldsBlock s signature p (cond x (place p size) (first_place s signature (p + size) ls))
    go size big w four c ls f true e z =
        let b : List ℕ = take size (drop p s) in
        let q : u32_at b 4 ≡ signature = number_same 4 size b (drop p s) 4 (take-take size size (drop p s) (omega arith)) (omega arith) ∙ number_drop 4 p s 4 ∙ eqb-true (u32_at s (p + 4)) signature e in
        record { from = omega arith; inside = omega (arith, length-drop (p + size) s); long = length-take-le size (drop p s) w; slot = ap slot_of q; rules = c }
    go size big w four c ls f false e z = let h = f z in record { from = omega (arith, h.from); inside = h.inside; long = h.long; slot = h.slot; rules = h.rules }

pub first_held : (s : List ℕ) (signature p : ℕ) (lengths : List ℕ) (n : ℕ) → blocks p (drop p s) ≡ got lengths n
    → ((first_place s signature p lengths).len ≡ 0 → ⊥) → HoldsBlock s signature p (first_place s signature p lengths)
first_held s signature p lengths n e = first_holds (length (drop p s)) [] s signature p lengths n (omega arith) e
