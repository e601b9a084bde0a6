-- Only whole rows are written.
use Rattle.scheduler.proofs.StoreLaws.{write_left_over, write_whole}
use Rattle.scheduler.proofs.herringnet_store_write.Goals as goal

pub returns-then-rows-ne0 : goal.returns-then-rows-ne0
returns-then-rows-ne0 c = let both = write_left_over _ _ _ c.if-rows-ne0.true in record { answer = both.0; output = both.1.0; only = both.1.1 }

pub returns : goal.returns
returns c =
    let both = write_whole _ _ _ c.if-rows-ne0.false (c.store_write.ensures.answer, (c.store_write.ensures.output, (c.store_write.ensures.numbers, c.store_write.ensures.only))) c.code_of.ensures in record { answer = both.0; output = both.1.0; only = both.1.1 }
