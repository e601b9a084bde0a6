-- Bodies in the shortcut.
use mathlib.Core.List.{List}
use Prim.Native.Nat.{ℕ}
use lib.ListN.{get_or}
use Rattle.format.specs.declared.Place.{Place}
use Rattle.format.specs.Tests.{no_place}
use Rattle.canonical.specs.Steps.Puts.{InBuffer}
use Rattle.moves.specs.Steps.Moves.{Inside}

pub slot_Inside : {d : List ℕ} {ps : List Place} → Inside d ps → (k : ℕ) → InBuffer d (get_or ps k no_place)
slot_Inside i k = record { within = i.slot k }
