-- They lie in the slice.
use Rattle.shelves.proofs.entries.Entries.new.Goals as goal

pub invariant_of-result : goal.invariant_of-result
invariant_of-result c = c.requires
