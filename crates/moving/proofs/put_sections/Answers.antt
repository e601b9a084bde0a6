-- The sections stand one after another.
use Rattle.copies.proofs.OutputLaws.{join}
use Rattle.moving.specs.Steps.Pieces.{moved_flat}
use Rattle.moving.proofs.put_sections.Goals as goal

pub returns : goal.returns
unfolding moved_flat
returns c =
    let items = rw c.items_there.ensures at c.put_items_if.ensures in
    let info = rw c.info_there.ensures at c.put_info.ensures in
    let blocks = rw (c.body.ensures.long, c.body.ensures.is) at c.put_blocks.ensures in
    join c.put_header.ensures (join items (join info (join c.put_strings.ensures blocks)))
