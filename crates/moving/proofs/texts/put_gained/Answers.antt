-- The translation, and one zero unit.
use native.Mathlib.Omega.{arith}
use Rattle.octets.specs.Numbers.{little}
use Rattle.copies.proofs.OutputLaws.{Writes-none, join}
use Rattle.moving.proofs.texts.put_gained.Goals as goal

pub returns-then-there : goal.returns-then-there
unfolding little
returns-then-there c = rw c.if-there.true (join c.put_units.ensures c.put_u16.ensures)

pub returns-else-there : goal.returns-else-there
returns-else-there c = rw c.if-there.false (Writes-none _ (omega arith))
