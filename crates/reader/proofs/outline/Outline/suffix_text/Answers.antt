-- LinkInfo has the suffix's place.
use Rattle.std.proofs.Common.{sym, ◌∙◌}
use Rattle.reader.proofs.WholeLaws.{suffix_held}
use Rattle.reader.proofs.outline.Outline.suffix_text.Goals as goal

pub returns : goal.returns
returns c = c.suffix_text.ensures ∙ rw (c.info.ensures.0, c.info.ensures.1) (sym (suffix_held c.args.self.now.whole c.requires.there))
