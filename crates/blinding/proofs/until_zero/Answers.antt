-- The text is as long as was counted.
use Rattle.blinding.proofs.TextLaws.{until_is}
use Rattle.blinding.proofs.until_zero.Goals as goal

pub returns : goal.returns
returns c =
    until_is c.args.unicode c.args.s.now c.text_length-n.ensures c.part.ensures
