-- The lengths of the entries passed stand in front.
use Rattle.shelves.proofs.OldLaws.{Passed}
use Rattle.shelves.proofs.old.old_lengths.Given as goal

abbrev pub invariant-loop-slot : goal.invariant-loop-slot
invariant-loop-slot l = Passed l.s l.slot-index l.rest l.initial.lengths l.lengths
