-- The table's signatures one by one.
use Rattle.format.specs.Blocks.{slot_of}
use Rattle.blocks.proofs.slot_of.Goals as goal

pub returns-in-2684354561 : goal.returns-in-2684354561
unfolding slot_of
returns-in-2684354561 c = rw c.in-2684354561.is

pub returns-in-2684354562 : goal.returns-in-2684354562
unfolding slot_of
returns-in-2684354562 c = rw c.in-2684354562.is

pub returns-in-2684354563 : goal.returns-in-2684354563
unfolding slot_of
returns-in-2684354563 c = rw c.in-2684354563.is

pub returns-in-2684354564 : goal.returns-in-2684354564
unfolding slot_of
returns-in-2684354564 c = rw c.in-2684354564.is

pub returns-in-2684354565 : goal.returns-in-2684354565
unfolding slot_of
returns-in-2684354565 c = rw c.in-2684354565.is

pub returns-in-2684354566 : goal.returns-in-2684354566
unfolding slot_of
returns-in-2684354566 c = rw c.in-2684354566.is

pub returns-in-2684354567 : goal.returns-in-2684354567
unfolding slot_of
returns-in-2684354567 c = rw c.in-2684354567.is

pub returns-in-2684354568 : goal.returns-in-2684354568
unfolding slot_of
returns-in-2684354568 c = rw c.in-2684354568.is

pub returns-in-2684354569 : goal.returns-in-2684354569
unfolding slot_of
returns-in-2684354569 c = rw c.in-2684354569.is

pub returns-in-2684354571 : goal.returns-in-2684354571
unfolding slot_of
returns-in-2684354571 c = rw c.in-2684354571.is

pub returns-in-2684354572 : goal.returns-in-2684354572
unfolding slot_of
returns-in-2684354572 c = rw c.in-2684354572.is
