-- A field that is asked for has its room; one that is not there counts as 0.
use Rattle.pieces.specs.Steps.Found.{field_if}
use Rattle.pieces.proofs.field.Goals as goal

pub returns-then-there : goal.returns-then-there
unfolding field_if
returns-then-there c = rw c.if-there.true c.u32_at.ensures

pub returns : goal.returns
unfolding field_if
returns c = rw c.if-there.false
