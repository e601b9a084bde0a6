use mathlib.Core.Path.{ap}
use native.Mathlib.Omega.{arith}
use Rattle.stores.specs.Steps.Making.{values_size}
use Rattle.stores.proofs.TestLaws.{rows_on-all, rows_on-none, rows_on-more}
use Rattle.stores.proofs.MakingLaws.{values_done, values_stop, values_on}
use Rattle.stores.proofs.making.values_size.Goals as goal

pub loop-k-init : goal.loop-k-init
loop-k-init c = omega (arith, ap values_size (rows_on-all c.args.rows.now))

pub returns-then-r-eq0 : goal.returns-then-r-eq0
returns-then-r-eq0 c =
    let zero = rw c.row_from-r.ensures at c.if-r-eq0.true in
    omega (arith, values_stop (rows_on-more c.args.rows.now c.loop-k.k c.loop-k-test.true) zero)

pub loop-k-preserved : goal.loop-k-preserved
loop-k-preserved c =
    let other = rw c.row_from-r.ensures at c.if-r-eq0.false in
    let size = rw c.row_from-r.ensures at c.row_size-n.ensures.0 in
    omega (arith, values_on (rows_on-more c.args.rows.now c.loop-k.k c.loop-k-test.true) other)

pub returns : goal.returns
returns c = omega (arith, values_done (rows_on-none c.args.rows.now c.loop-k.k (omega arith)))
