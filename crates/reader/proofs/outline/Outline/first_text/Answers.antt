-- LinkInfo has the first text's place.
use Rattle.std.proofs.Common.{sym, ◌∙◌}
use Rattle.reader.proofs.WholeLaws.{either_there, first_text_held}
use Rattle.reader.proofs.outline.Outline.first_text.Goals as goal

pub first_text-requires : goal.first_text-requires
first_text-requires c =
    let whole = c.args.self.now.whole in
    rw c.info.ensures.0 (either_there whole c.requires.there c.requires.either)

pub returns : goal.returns
returns c = c.first_text.ensures ∙ rw (c.info.ensures.0, c.info.ensures.1) (sym (first_text_held c.args.self.now.whole c.requires.there))
