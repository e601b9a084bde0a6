-- The run comes to the end of the body exactly where the terminal block that is written after it ends the blocks.
use Rattle.writable.proofs.WalkLaws.{blocks_run}
use Rattle.writable.proofs.blocks_ok.Goals as goal

pub returns : goal.returns
returns c = blocks_run _ c.run.ensures.passed c.run.ensures.ended
