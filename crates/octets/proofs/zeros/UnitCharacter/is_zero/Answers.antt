-- A unit is the number of its two bytes.
use mathlib.Core.Path.{ap, ◌∙◌}
use Prim.Native.Nat.{ℕ}
use lib.Dec.{eqb}
use Rattle.octets.proofs.ZeroLaws.{unit_here}
use Rattle.octets.proofs.zeros.UnitCharacter.is_zero.Goals as goal

pub returns : goal.returns
returns c =
    ap (λ (x : ℕ). eqb x 0) (c.u16_at.ensures ∙ unit_here c.args.t.now c.args.k c.requires)
