use mathlib.Core.Path.{refl}
use native.Mathlib.Omega.{arith}
use Prim.Native.Nat.{◌+◌, ◌-◌, ◌*◌, ◌≤◌}
use lib.ListN.{length, drop, length-drop}
use Rattle.copies.proofs.OutputLaws.{join, reword}
use Rattle.shelves.specs.Table.{bodies_start}
use Rattle.shelves.proofs.ApartLaws.{Small-sum, sum_first, table_left, table_none, table_long}
use Rattle.shelves.proofs.PutLaws.{Putting-none, Putting-more, putting_all, putting_room}
use Rattle.shelves.proofs.making.put_table.Goals as goal
use Rattle.shelves.proofs.making.put_table.Goals.{At-loop-n}

pub loop-n-init : goal.loop-n-init
loop-n-init c = record { starts = refl; rows = Putting-none c.put_u32.new.self _ c.put_u32.ensures.fits }

pub overflow_cast-start : goal.overflow_cast-start
overflow_cast-start c = omega (arith, c.loop-n.invariant.starts, Small-sum c.requires.0, c.requires.0.few)

-- the rows that are left have room
room : (c : At-loop-n) → c.loop-n.w.at + 8 * (length c.args.lengths.now - c.loop-n.n-index) ≤ length c.loop-n.w.out.now
room c =
    let ns = c.args.lengths.now in
    let p = c.put_u32.ensures in
    let all = table_long (bodies_start (length ns)) ns in
    let left = putting_room c.loop-n.invariant.rows (omega (arith, c.requires.1.room, p.next, p.kept, all)) in
    omega (arith, left.room, table_long c.loop-n.start (drop c.loop-n.n-index ns), length-drop c.loop-n.n-index ns)

pub put_u32-requires-in-loop-n : goal.put_u32-requires-in-loop-n
put_u32-requires-in-loop-n c = record { room = omega (arith, room (goal.at.put_u32-requires-in-loop-n c).At-loop-n, c.loop-n-test.true) }

pub put_u32-requires-in-loop-n-2 : goal.put_u32-requires-in-loop-n-2
put_u32-requires-in-loop-n-2 c =
    let p = c.put_u32-in-loop-n.ensures in
    record { room = omega (arith, room (goal.at.put_u32-requires-in-loop-n-2 c).At-loop-n, c.loop-n-test.true, p.next, p.kept) }

pub overflow_add-start-in-loop-n : goal.overflow_add-start-in-loop-n
overflow_add-start-in-loop-n c = omega (arith, c.loop-n.invariant.starts, sum_first c.args.lengths.now c.loop-n.n-index c.loop-n-test.true, Small-sum c.requires.0, c.requires.0.few)

pub loop-n-preserved : goal.loop-n-preserved
loop-n-preserved c =
    let ns = c.args.lengths.now in
    let k = c.loop-n.n-index in
    record {
      starts = omega (arith, c.loop-n.invariant.starts, sum_first ns k c.loop-n-test.true);
      rows = Putting-more c.loop-n.invariant.rows (table_left c.loop-n.start ns k c.loop-n-test.true) (join c.put_u32-in-loop-n.ensures c.put_u32-in-loop-n-2.ensures);
    }

pub returns : goal.returns
returns c =
    let ns = c.args.lengths.now in
    let all = putting_all c.loop-n.invariant.rows (table_none c.loop-n.start ns (omega arith)) in
    reword (join c.put_u32.ensures all) refl (omega (arith, table_long (bodies_start (length ns)) ns))
