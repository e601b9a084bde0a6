-- The bodies put and those left are all bodies.
use Rattle.format.specs.Writing.{end_to_end}
use Rattle.shelves.proofs.PutLaws.{Putting}
use Rattle.shelves.proofs.making.put_bodies.Given as goal

abbrev pub invariant-loop-entry : goal.invariant-loop-entry
invariant-loop-entry l = Putting l.initial.w (end_to_end l.fn.entries) (end_to_end l.entry-iterator) l.w
