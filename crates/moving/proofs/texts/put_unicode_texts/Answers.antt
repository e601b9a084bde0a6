-- Gained, or as they stand.
use Rattle.copies.proofs.OutputLaws.{join}
use Rattle.moving.specs.Steps.Pieces.{unicode_texts}
use Rattle.moving.proofs.texts.put_unicode_texts.Goals as goal

pub returns-then-gain : goal.returns-then-gain
unfolding unicode_texts
returns-then-gain c =
    let first = rw (c.body.ensures.long, c.body.ensures.is) at c.put_gained.ensures in
    let second = rw (c.body-then-gain.ensures.long, c.body-then-gain.ensures.is) at c.put_gained-then-gain.ensures in
    rw c.if-gain.true (join first second)

pub returns-else-gain : goal.returns-else-gain
unfolding unicode_texts
returns-else-gain c = rw c.if-gain.false c.put_slots.ensures
