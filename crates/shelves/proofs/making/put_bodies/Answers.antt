use mathlib.Core.Path.{ap}
use native.Mathlib.Omega.{arith}
use Rattle.format.specs.Writing.{end_to_end}
use Rattle.shelves.proofs.PutLaws.{Putting-none, Putting-more}
use Rattle.shelves.proofs.making.put_bodies.Goals as goal

pub loop-entry-init : goal.loop-entry-init
loop-entry-init c = rw c.into_iter-entry-iterator.ensures.into_iter_gives (Putting-none c.args.w.now (end_to_end c.args.entries) (omega (arith, c.requires.room)))

pub loop-entry-preserved : goal.loop-entry-preserved
loop-entry-preserved c = Putting-more c.loop-entry.invariant (ap end_to_end c.in-Some.ensures.steps) c.put_bytes.ensures
