-- No storage is at hand, or the size there is looked at.
use Rattle.storing.proofs.RowLaws.{size_room, over_outside, over_inside}
use Rattle.storing.proofs.rows.values_over.Goals as goal

pub returns-then-at-c : goal.returns-then-at-c
returns-then-at-c c = over_outside _ _ c.if-at-c.true

pub u32_at-requires : goal.u32_at-requires
u32_at-requires c = size_room _ 0 _ c.requires c.if-at-c.false

pub returns : goal.returns
returns c = over_inside _ _ c.if-at-c.false c.u32_at.ensures
