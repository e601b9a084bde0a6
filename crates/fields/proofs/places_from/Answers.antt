use Rattle.std.proofs.Common.{arith}
use Rattle.std.proofs.Math.ListN.{length-set}
use Rattle.format.specs.Tests.{no_place}
use Rattle.format.proofs.RowLaws.{set_more}
use Rattle.fields.proofs.Laws.{row_whole}
use Rattle.fields.proofs.places_from.Goals as goal

pub loop-k-preserved : goal.loop-k-preserved
loop-k-preserved c = (
  rw length-set c.loop-k.invariant.0,
  set_more no_place _ _ _ _ (omega arith) c.loop-k.invariant.1 c.slot_at.ensures,
)

pub returns : goal.returns
returns c = row_whole _ _ c.loop-k-test.array_long (λ j h. c.loop-k.invariant.1 j (omega arith))
