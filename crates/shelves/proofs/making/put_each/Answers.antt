use native.Mathlib.Omega.{arith}
use Rattle.copies.proofs.OutputLaws.{join}
use Rattle.shelves.specs.OldFile.{old_bytes}
use Rattle.shelves.proofs.ApartLaws.{old_more, old_more_long, old_none}
use Rattle.shelves.proofs.PutLaws.{Putting-none, Putting-more, putting_all, putting_few, putting_room}
use Rattle.shelves.proofs.making.put_each.Goals as goal

pub loop-entry-init : goal.loop-entry-init
loop-entry-init c = rw c.into_iter-entry-iterator.ensures.into_iter_gives (Putting-none c.args.w.now (old_bytes c.args.entries) (omega (arith, c.requires.0.room)))

pub overflow_cast-entry : goal.overflow_cast-entry
overflow_cast-entry c = omega (arith, old_more_long c.in-Some.ensures.steps, putting_few c.loop-entry.invariant, c.requires.1)

pub put_u32-requires : goal.put_u32-requires
put_u32-requires c = record { room = omega (arith, old_more_long c.in-Some.ensures.steps, (putting_room c.loop-entry.invariant c.requires.0.room).room) }

pub put_bytes-requires : goal.put_bytes-requires
put_bytes-requires c =
    let p = c.put_u32.ensures in
    record { room = omega (arith, old_more_long c.in-Some.ensures.steps, (putting_room c.loop-entry.invariant c.requires.0.room).room, p.next, p.kept) }

pub loop-entry-preserved : goal.loop-entry-preserved
loop-entry-preserved c = Putting-more c.loop-entry.invariant (old_more c.in-Some.ensures.steps) (join c.put_u32.ensures c.put_bytes.ensures)

pub returns : goal.returns
returns c = putting_all c.loop-entry.invariant (old_none c.in-None.ensures.steps.0)
