-- Where the items are absent nothing is written and no room is asked for.
use native.Mathlib.Omega.{arith}
use Rattle.copies.proofs.OutputLaws.{Writes-none}
use Rattle.canonical.proofs.put_items_if.Goals as goal

pub returns-else-there : goal.returns-else-there
returns-else-there c = rw c.if-there.false (Writes-none _ (omega arith))
