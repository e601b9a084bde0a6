use mathlib.Core.Path.{ap, ◌∙◌}
use Rattle.format.specs.StoreWriting.{rows_placed}
use Rattle.stores.proofs.TestLaws.{rows_on-all, placed_on}
use Rattle.stores.proofs.tests.rows_placed.Goals as goal

pub loop-k-init : goal.loop-k-init
loop-k-init c = ap (rows_placed c.args.n) (rows_on-all c.args.rows.now)

pub loop-k-preserved : goal.loop-k-preserved
loop-k-preserved c =
    let placed = rw c.row_from.ensures at c.row_placed.ensures in
    placed_on c.args.rows.now c.args.n c.loop-k.k c.loop-k-test.true placed c.if-not-row_placed.false ∙ c.loop-k.invariant
