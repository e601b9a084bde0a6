-- Sixteen bytes are right when the four numbers in them are.
use native.Mathlib.Omega.{arith}
use Rattle.header.proofs.Laws.{identifier_are}
use Rattle.header.proofs.identifier_ok.Goals as goal

pub returns : goal.returns
returns c =
    identifier_are _ (omega arith) c.u32_at.ensures c.u32_at-2.ensures c.u32_at-3.ensures c.u32_at-4.ensures (omega arith) (omega arith) (omega arith) (omega arith)
