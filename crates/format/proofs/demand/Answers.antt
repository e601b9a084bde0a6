-- A test that does not hold says its field.
use Rattle.format.proofs.demand.Goals as goal

pub returns-else-holds : goal.returns-else-holds
returns-else-holds c = rw c.if-holds.false
