use native.Mathlib.Omega.{arith}
use lib.ListN.{length}
use Rattle.std.proofs.lemmas.Slice.{between_to_end}
use Rattle.stores.proofs.MakingLaws.{none_room, none_put, first_values, first_inside, first_room, after_room, store_put}
use Rattle.stores.proofs.making.put_rows.Goals as goal

pub put_u32-requires : goal.put_u32-requires
put_u32-requires c = none_room _ c.requires.0 c.requires.1 c.if-rows-lt6.true

pub returns-then-rows-lt6 : goal.returns-then-rows-lt6
returns-then-rows-lt6 c = none_put _ c.requires.0 c.requires.1 c.if-rows-lt6.true c.put_u32.ensures

pub values_size-n-requires : goal.values_size-n-requires
values_size-n-requires c =
    let rows = c.args.rows.now in
    rw (between_to_end rows 6 (length rows) (omega arith)) (first_values c.args.w.now c.requires.0 c.requires.1 c.if-rows-lt6.false)

pub body-requires : goal.body-requires
body-requires c = rw c.row_from-first.ensures (first_inside c.args.w.now c.requires.0 c.requires.1 c.if-rows-lt6.false)

pub put_storage-requires : goal.put_storage-requires
put_storage-requires c =
    let rows = c.args.rows.now in
    let n = rw (between_to_end rows 6 (length rows) (omega arith)) at c.values_size-n.ensures in
    rw (c.body.ensures.is, c.row_from-first.ensures) (first_room _ c.requires.0 c.requires.1 c.if-rows-lt6.false n)

pub put_entries-requires : goal.put_entries-requires
put_entries-requires c =
    let rows = c.args.rows.now in
    let n = rw (between_to_end rows 6 (length rows) (omega arith)) at c.values_size-n.ensures in
    let head = rw (c.body.ensures.is, c.row_from-first.ensures) at c.put_storage.ensures in
    rw (between_to_end rows 6 (length rows) (omega arith)) (after_room _ c.requires.0 c.requires.1 c.if-rows-lt6.false n head)

pub returns : goal.returns
returns c =
    let rows = c.args.rows.now in
    let n = rw (between_to_end rows 6 (length rows) (omega arith)) at c.values_size-n.ensures in
    let head = rw (c.body.ensures.is, c.row_from-first.ensures) at c.put_storage.ensures in
    store_put _ c.requires.0 c.requires.1 c.if-rows-lt6.false n head (rw (between_to_end rows 6 (length rows) (omega arith)) at c.put_entries.ensures)
