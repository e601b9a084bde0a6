-- An absent twin says nothing else; the two texts are parts of the shortcut.
use Rattle.blinding.proofs.TwinLaws.{twin_absent, twin_told}
use Rattle.blinding.proofs.other_twin.Goals as goal

pub returns-then-not-there : goal.returns-then-not-there
returns-then-not-there c = twin_absent c.args.s.now c.args.there c.args.text c.args.unicode c.if-not-there.true-raw

pub returns : goal.returns
returns c =
    twin_told c.args.s.now c.args.there c.args.text c.args.unicode c.requires c.if-not-there.false-raw c.part-x.ensures c.part-y.ensures c.is_translation.ensures
