-- The refusal goes up as it is; what is accepted is accepted as a whole.
use Rattle.std.proofs.lemmas.Result.{err_from_is_err_and}
use Rattle.reader.proofs.OutlineLaws.{outline_fault}
use Rattle.reader.proofs.fault.Goals as goal

pub returns-in_err-outline_of : goal.returns-in_err-outline_of
returns-in_err-outline_of c =
    let p = err_from_is_err_and c.from_residual.result c.from_residual.ensures.1 in
    rw (p.1, p.2) (outline_fault _ _ c.in_err-outline_of.ensures.answer)

pub returns : goal.returns
returns c = outline_fault _ _ c.in_ok-outline_of.ensures.answer
