-- Bodies in the shortcut, and the length of a translated one.
use mathlib.Core.List.{List}
use Prim.Native.Nat.{ℕ}
use Rattle.format.specs.declared.Place.{Place}
use Rattle.format.specs.Steps.Shape.{Shape}
use Rattle.canonical.specs.Steps.Puts.{RowInBuffer}
use Rattle.moves.specs.Steps.Moves.{Inside}
use Rattle.moves.proofs.BodyMoves.{slot_Inside}

pub row_Inside : {d : List ℕ} {ps : List Place} → Inside d ps → (s : Shape) → RowInBuffer d ps s
row_Inside i s = record { slot = λ k t. slot_Inside i k }
