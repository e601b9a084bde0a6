-- Tests as a list of tests, and tests of numbers that hold together.
use mathlib.Core.Path.{◌≡◌, sym, ap, ◌∙◌}
use mathlib.Core.List.{List, [], ◌∷◌, ◌++◌}
use mathlib.Core.Bool.{Bool, ◌&&◌}
use Prim.Native.Nat.{ℕ}
use lib.Dec.{eqb}
use borrow.Author.Tests.{eqb-true, eq-eqb}
use Rattle.format.specs.Writing.{every}
use Rattle.format.proofs.Bools.{and_assoc, and_yes, same_truth}

pub every_last : (bs : List Bool) (b : Bool) → every (bs ++ b ∷ []) ≡ (every bs && b)
every_last [] b = and_yes b
every_last (x ∷ bs) b = ap (λ (t : Bool). x && t) (every_last bs b) ∙ sym (and_assoc x (every bs) b)

pub same_test : (a b c d : ℕ) → (a ≡ b → c ≡ d) → (c ≡ d → a ≡ b) → eqb a b ≡ eqb c d
same_test a b c d f g = same_truth (eqb a b) (eqb c d) (λ e. eq-eqb c d (f (eqb-true a b e))) (λ e. eq-eqb a b (g (eqb-true c d e)))
