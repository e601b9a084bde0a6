use mathlib.Core.Path.{◌∙◌}
use native.Mathlib.Omega.{arith}
use Rattle.format.specs.StoreWriting.{rows_from}
use Rattle.stores.specs.Steps.Sizes.{values_kind}
use Rattle.stores.proofs.TestLaws.{rows_on-all, rows_on-none, rows_on-more, size_start, size_stop, size_on, size_end, others_there}
use Rattle.stores.proofs.tests.store_size.Goals as goal

pub loop-k-init : goal.loop-k-init
loop-k-init c =
    let d = c.args.d.now in
    let rows = c.args.rows.now in
    rw (rows_on-all rows) (record { placed = c.requires; capped = omega arith; size = size_start d (rows_from rows) })

pub returns-in_err-values : goal.returns-in_err-values
returns-in_err-values c =
    let more = rows_on-more c.args.rows.now c.loop-k.k c.loop-k-test.true in
    let I = c.loop-k.invariant in
    let stop = rw c.row_from-r.ensures at c.in_err-values.ensures in
    c.from_residual.ensures ∙ size_stop c.args.d.now (values_kind c.loop-k.values) more I.placed c.loop-k.size stop ∙ I.size

pub loop-k-preserved : goal.loop-k-preserved
loop-k-preserved c =
    let more = rows_on-more c.args.rows.now c.loop-k.k c.loop-k-test.true in
    let I = c.loop-k.invariant in
    let d = c.args.d.now in
    let after = rw c.row_from-r.ensures at c.in_ok-values.ensures in
    let size = rw c.row_from-r.ensures at c.row_size.ensures.0 in
    record {
      placed = others_there d 0 more I.placed;
      capped = c.capped-size.ensures.1;
      size = size_on d (values_kind c.loop-k.values) more I.placed c.loop-k.size after.0 after.1 size c.capped-size.ensures.0 ∙ I.size;
    }

pub returns : goal.returns
returns c =
    let none = rows_on-none c.args.rows.now c.loop-k.k (omega arith) in
    let I = rw none at c.loop-k.invariant.size in
    size_end c.args.d.now (values_kind c.loop-k.values) c.loop-k.invariant.capped ∙ I
