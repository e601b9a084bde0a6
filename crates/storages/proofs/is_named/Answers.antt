-- Sixteen bytes are right when the two numbers in them are.
use native.Mathlib.Omega.{arith}
use Rattle.storages.proofs.Laws.{named_is}
use Rattle.storages.proofs.is_named.Goals as goal

pub returns : goal.returns
returns c = named_is _ _ (omega arith) c.u64_at.ensures c.u64_at-2.ensures (omega arith)
