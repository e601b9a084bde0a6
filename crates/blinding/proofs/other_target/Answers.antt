-- Without a target nothing differs; else its first text or its suffix does.
use Rattle.blinding.proofs.TwinLaws.{no_target, target_told}
use Rattle.format.specs.Bodies.{suffix_slot, suffix_unicode_slot}
use Rattle.blinding.proofs.other_target.Goals as goal

pub returns-then-not-has_target : goal.returns-then-not-has_target
returns-then-not-has_target c =
    no_target c.args.s.now c.args.r c.has_target.ensures c.if-not-has_target.true-raw

pub other_twin-requires : goal.other_twin-requires
other_twin-requires c =
    let I = c.requires in
    (I.body suffix_slot, I.body suffix_unicode_slot)

pub returns : goal.returns
returns c =
    target_told _ c.args.r c.has_target.ensures c.if-not-has_target.false-raw c.other_first.ensures c.other_twin.ensures
