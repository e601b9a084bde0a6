-- Ten bytes are zero when the two numbers in them are.
use Rattle.header.proofs.Laws.{zeros_are}
use native.Mathlib.Omega.{arith}
use Rattle.header.proofs.zeros_from_66.Goals as goal

pub returns : goal.returns
returns c = zeros_are _ (omega arith) c.u16_at.ensures c.u64_at.ensures
