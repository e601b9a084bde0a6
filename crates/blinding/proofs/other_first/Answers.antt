-- The first text is the local path, or the net name where there is none.
use Rattle.blinding.proofs.TwinLaws.{first_local, first_net}
use Rattle.format.specs.Bodies.{local_slot, net_slot, net_unicode_slot, local_unicode_slot}
use Rattle.blinding.proofs.other_first.Goals as goal

pub other_twin-requires : goal.other_twin-requires
other_twin-requires c =
    let I = c.requires in
    (I.body local_slot, I.body local_unicode_slot)

pub returns-then-local_there : goal.returns-then-local_there
returns-then-local_there c =
    first_local _ c.args.r c.local_there.ensures c.if-local_there.true c.local_unicode_there-there.ensures c.other_twin.ensures

pub other_twin-requires-2 : goal.other_twin-requires-2
other_twin-requires-2 c =
    let I = c.requires in
    (I.body net_slot, I.body net_unicode_slot)

pub returns : goal.returns
returns c =
    first_net _ c.args.r c.local_there.ensures c.if-local_there.false c.other_twin-2.ensures
