-- The two fields are put one after the other or not at all.
use native.Mathlib.Omega.{arith}
use Rattle.copies.proofs.OutputLaws.{Writes-none, join}
use Rattle.canonical.proofs.heads.put_fields.Goals as goal

pub returns-then-there : goal.returns-then-there
returns-then-there c = rw c.if-there.true (join c.put_u32.ensures c.put_u32-then-there.ensures)

pub returns-else-there : goal.returns-else-there
returns-else-there c = rw c.if-there.false (Writes-none _ (omega arith))
