-- The parts stand one after another, and are as long as LinkInfo says.
use mathlib.Core.Path.{refl, sym}
use Rattle.copies.proofs.OutputLaws.{join, reword}
use Rattle.moving.specs.Steps.Pieces.{moved_info}
use Rattle.moving.proofs.texts.put_info_parts.Goals as goal

pub returns : goal.returns
unfolding moved_info
returns c =
    let further = reword c.put_bytes.ensures c.body.ensures.is c.body.ensures.long in
    reword
    (join c.put_info_head.ensures (join further (join c.put_volume_head.ensures (join c.put_slots.ensures (join c.put_network_head.ensures (join c.put_slots-2.ensures c.put_unicode_texts.ensures))))))
    refl (sym c.requires.fits)
