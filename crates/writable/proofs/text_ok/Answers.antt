-- A text is writable where its characters are whole and none of them is zero.
use Rattle.writable.proofs.TextLaws.{text_is}
use Rattle.writable.proofs.text_ok.Goals as goal

pub returns : goal.returns
returns c = text_is c.args.unicode c.args.x.now c.whole.ensures c.has_zero.ensures
