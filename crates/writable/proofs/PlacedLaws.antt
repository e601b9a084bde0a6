-- Places in the body buffer.
use mathlib.Core.Path.{◌≡◌, sym, ◌∙◌}
use mathlib.Core.Bool.{Bool}
use Prim.Native.Nat.{ℕ, ◌+◌, ◌-◌, ◌≤◌}
use native.Mathlib.Omega.{arith}
use lib.Dec.{leb}
use borrow.Author.Tests.{le-leb, lt-leb}
use Rattle.format.specs.declared.Place.{Place}
use Rattle.format.proofs.Bools.{by_order}

abbrev inside_of : ℕ → Place → Bool
inside_of n b = leb (b.at + b.len) n

-- the sum is tested by a difference
module _ (b : Place) (n : ℕ) where
  pub by_difference : b.len ≤ n → leb b.at (n - b.len) ≡ inside_of n b
  by_difference h =
      by_order (b.at + b.len) n
      (λ i. le-leb b.at (n - b.len) (omega arith) ∙ sym (le-leb (b.at + b.len) n i))
      (λ i. lt-leb b.at (n - b.len) (omega arith) ∙ sym (lt-leb (b.at + b.len) n i))
