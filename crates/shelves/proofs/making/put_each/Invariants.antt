-- The entries put and those left are all entries.
use Rattle.shelves.specs.OldFile.{old_bytes}
use Rattle.shelves.proofs.PutLaws.{Putting}
use Rattle.shelves.proofs.making.put_each.Given as goal

abbrev pub invariant-loop-entry : goal.invariant-loop-entry
invariant-loop-entry l = Putting l.initial.w (old_bytes l.fn.entries) (old_bytes l.entry-iterator) l.w
