-- The tests hold of what is left after the row.
use Rattle.storing.proofs.rows.RowsIterator.next.Goals as goal

pub invariant_of-self : goal.invariant_of-self
invariant_of-self c = record { right = c.in_ok-row.ensures.right; small = c.self.invariant.small }
