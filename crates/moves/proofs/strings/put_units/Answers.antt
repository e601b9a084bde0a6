-- The output goes on after the units.
use mathlib.Core.Path.{refl}
use native.Mathlib.Omega.{arith}
use Rattle.format.proofs.CodepageLaws.{units_long}
use Rattle.moves.proofs.strings.put_units.Goals as goal

pub returns : goal.returns
returns c = record { same = refl; content = cc; long = units_long _; next = omega arith; fits = omega arith; kept = omega arith }
