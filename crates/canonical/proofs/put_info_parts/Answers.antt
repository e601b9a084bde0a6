-- The parts stand one after another, and are as long as LinkInfo says.
use mathlib.Core.Path.{refl, sym}
use Rattle.format.specs.Steps.Flat.{info_flat}
use Rattle.copies.proofs.OutputLaws.{join, reword}
use Rattle.canonical.proofs.FitsLaws.{row_inside, further_inside}
use Rattle.canonical.proofs.put_info_parts.Goals as goal

pub body-requires : goal.body-requires
body-requires c = further_inside c.args.f.now.held c.args.f.now.shaped (row_inside c.args.f.now.held c.args.f.now.shaped c.args.f.now.bodies.now c.args.f.now.inside) c.requires.present

pub put_slots-requires-clause-inside : goal.put_slots-requires-clause-inside
put_slots-requires-clause-inside c =
    row_inside c.args.f.now.held c.args.f.now.shaped c.args.f.now.bodies.now c.args.f.now.inside

pub put_slots-requires-2-clause-inside : goal.put_slots-requires-2-clause-inside
put_slots-requires-2-clause-inside c =
    row_inside c.args.f.now.held c.args.f.now.shaped c.args.f.now.bodies.now c.args.f.now.inside

pub returns : goal.returns
unfolding info_flat
returns c =
    let further = reword c.put_further.ensures c.body.ensures.is c.body.ensures.long in
    reword
    (join c.put_info_head.ensures (join further (join c.put_volume_head.ensures (join c.put_slots.ensures (join c.put_network_head.ensures c.put_slots-2.ensures)))))
    refl (sym c.requires.fits)
