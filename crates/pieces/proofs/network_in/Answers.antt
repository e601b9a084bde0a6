use Rattle.std.proofs.Common.{arith}
use Rattle.std.proofs.lemmas.Grind.{common_steps}
use Rattle.std.proofs.lemmas.Result.{err_from_is_err_and}
use Rattle.pieces.proofs.NetworkLaws.{share_lost}
use Rattle.pieces.proofs.network_in.Goals as goal

-- No string fails, so their being apart decides.
pub returns-in_err-apart_four : goal.returns-in_err-apart_four
returns-in_err-apart_four c =
    let p = err_from_is_err_and c.from_residual-in_err-apart_four.result c.from_residual-in_err-apart_four.ensures.1 in
    rw (p.1, p.2) (grind (arith, common_steps, share_lost))
