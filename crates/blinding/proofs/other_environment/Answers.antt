-- Without a block nothing differs; its two texts are compared up to their zeros.
use Rattle.blinding.proofs.TwinLaws.{environment_none, environment_some, environment_told}
use Rattle.blinding.proofs.other_environment.Goals as goal

pub returns-then-is_none : goal.returns-then-is_none
returns-then-is_none c = environment_none _ c.args.b c.is_none.ensures c.if-is_none.true

pub returns : goal.returns
returns c =
    let there = environment_some _ c.args.b c.requires c.is_none.ensures c.if-is_none.false in
    environment_told c.args.s.now _ there c.byte_text-text.ensures c.unicode_text-unicode.ensures c.is_translation.ensures
