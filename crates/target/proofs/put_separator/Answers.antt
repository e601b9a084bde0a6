-- One byte or none.
use Rattle.std.proofs.Common.{arith}
use Rattle.copies.proofs.OutputLaws.{Writes-none}
use Rattle.target.proofs.put_separator.Goals as goal

pub returns-then-there : goal.returns-then-there
returns-then-there c = rw c.if-there.true c.put_bytes.ensures

pub returns-else-there : goal.returns-else-there
returns-else-there c = let h = rw c.if-there.false at c.requires in rw c.if-there.false (Writes-none _ (omega (arith, h.room)))
