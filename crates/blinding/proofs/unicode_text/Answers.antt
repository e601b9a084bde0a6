-- Without a block there is no text.
use Rattle.blinding.proofs.TextLaws.{no_unicode_text, unicode_text_is}
use Rattle.blinding.proofs.unicode_text.Goals as goal

pub returns-in_default : goal.returns-in_default
returns-in_default c = rw c.in_default.is (no_unicode_text c.args.s.now)

pub returns : goal.returns
returns c = rw c.in-Some.is (unicode_text_is _ _ (rw c.in-Some.is at c.requires) c.part.ensures c.until_zero.ensures)
