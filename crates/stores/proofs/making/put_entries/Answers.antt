use native.Mathlib.Omega.{arith}
use Prim.Native.Nat.{◌+◌, ◌*◌}
use lib.ListN.{length}
use Rattle.std.proofs.lemmas.Slice.{between_to_end}
use Rattle.stores.proofs.TestLaws.{rows_on-all, rows_on-none, rows_on-more, rows_on-after}
use Rattle.stores.proofs.MakingLaws.{Making-none, making_room, Making-on, making_last, making_all}
use Rattle.stores.proofs.making.put_entries.Goals as goal

pub loop-k-init : goal.loop-k-init
loop-k-init c = rw (rows_on-all c.args.rows.now) (Making-none c.requires)

pub put_entry-requires : goal.put_entry-requires
put_entry-requires c =
    let rows = c.args.rows.now in
    let k = c.loop-k.k in
    rw (c.row_from.ensures, between_to_end rows (6 * k + 6) (length rows) (omega arith), ← rows_on-after rows k c.loop-k-test.true)
    (making_room c.requires.few c.requires.room c.loop-k.invariant (rows_on-more rows k c.loop-k-test.true))

pub loop-k-preserved : goal.loop-k-preserved
loop-k-preserved c =
    let rows = c.args.rows.now in
    let k = c.loop-k.k in
    Making-on c.requires.few c.requires.room c.loop-k.invariant (rows_on-more rows k c.loop-k-test.true)
    (rw (c.row_from.ensures, between_to_end rows (6 * k + 6) (length rows) (omega arith), ← rows_on-after rows k c.loop-k-test.true) at c.put_entry.ensures)

pub put_u64-requires : goal.put_u64-requires
put_u64-requires c = making_last c.requires.few c.requires.room c.loop-k.invariant (rows_on-none c.args.rows.now c.loop-k.k (omega arith))

pub returns : goal.returns
returns c = making_all c.requires.few c.requires.room c.loop-k.invariant (rows_on-none c.args.rows.now c.loop-k.k (omega arith)) c.put_u64.ensures
