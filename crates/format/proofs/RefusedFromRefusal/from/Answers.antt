-- The position is that of the field, and not the start of the section.
use Rattle.format.proofs.RefusedFromRefusal.from.Goals as goal

pub returns : goal.returns
returns c = c.at.ensures
