-- The environment names it, or the target does, whose text is not empty if one of its three pieces is not.
use Rattle.blinding.proofs.TextLaws.{texts_ready, named_there, named_nowhere, named_target}
use Rattle.blinding.proofs.names_driver.Goals as goal

pub returns-then-byte_text-ne0 : goal.returns-then-byte_text-ne0
returns-then-byte_text-ne0 c =
    named_there _ c.args.r _ c.byte_text.ensures c.if-byte_text-ne0.true

pub returns-then-not-has_target : goal.returns-then-not-has_target
returns-then-not-has_target c =
    named_nowhere _ c.args.r _ c.byte_text.ensures c.if-byte_text-ne0.false c.has_target.ensures c.if-not-has_target.true-raw

pub texts_of-t-requires : goal.texts_of-t-requires
texts_of-t-requires c = record { stands = texts_ready _ _ c.requires.0 }

pub returns : goal.returns
returns c =
    named_target _ _ _ c.byte_text.ensures c.if-byte_text-ne0.false c.requires.0 c.has_target.ensures c.if-not-has_target.false-raw c.texts_of-t.ensures
