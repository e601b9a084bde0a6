-- What the block holds is refused at the field found wrong.
use Rattle.blocks.specs.Steps.Walk.{wrong_block}
use Rattle.blocks.proofs.wrong_block.Goals as goal

pub returns-in-Some : goal.returns-in-Some
unfolding wrong_block
returns-in-Some c = rw (c.at.ensures, c.held_fault.ensures, ← c.in-Some.ensures.is)
