-- The drive type is the first field that is looked at.
use mathlib.Core.Path.{sym}
use native.Mathlib.Omega.{arith}
use Rattle.std.proofs.lemmas.Bool.{leb-false}
use Rattle.std.proofs.lemmas.Result.{err_from_is_err_and}
use Rattle.pieces.proofs.TestLaws.{demand_lost}
use Rattle.pieces.proofs.VolumeLaws.{drive_lost}
use Rattle.pieces.proofs.volume_in.Goals as goal

pub returns-in_err-demand : goal.returns-in_err-demand
returns-in_err-demand c =
    let p = err_from_is_err_and c.from_residual.result c.from_residual.ensures.1 in
    let q = demand_lost _ _ c.in_err-demand.ensures in
    rw (p.1, p.2, q.1) (sym (drive_lost _ (omega (arith, leb-false _ 6 q.0))))
