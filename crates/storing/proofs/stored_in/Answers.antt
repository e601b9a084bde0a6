-- An accepted outline leads to the block by the ninth of its signatures.
use Rattle.std.proofs.Common.{sym, refl}
use Rattle.std.proofs.lemmas.Result.{err_from_is_err_and}
use Rattle.reader.proofs.OutlineLaws.{outline_accepted, outline_noted, outline_refused}
use Rattle.storing.proofs.ListLaws.{store_field, stored}
use Rattle.storing.proofs.stored_in.Goals as goal

pub returns-in_err-outline_of : goal.returns-in_err-outline_of
returns-in_err-outline_of c =
    let p = err_from_is_err_and c.from_residual.result c.from_residual.ensures.1 in
    rw (p.1, p.2) (outline_refused _ _ (sym c.in_err-outline_of.ensures.answer))

pub block_from-requires : goal.block_from-requires
block_from-requires c =
    let outline = c.in_ok-outline_of.ensures in
    (store_field _ _ _ (outline_accepted _ _ outline.answer refl) (outline_noted _ _ outline.answer refl outline.firsts)).reached

pub returns : goal.returns
returns c =
    let outline = c.in_ok-outline_of.ensures in
    stored _ _ _ (outline_accepted _ _ outline.answer refl) (outline_noted _ _ outline.answer refl outline.firsts) _ c.block_from.ensures
