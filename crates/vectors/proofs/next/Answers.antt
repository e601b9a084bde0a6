-- The room is tested before so much of it is lent.
use native.Mathlib.Omega.{arith}
use lib.Seq.{length-take-le}
use mathlib.Core.Path.{sym}
use Rattle.vectors.proofs.next.Goals as goal

pub slice_bounds-read_full-end-3 : goal.slice_bounds-read_full-end-3
slice_bounds-read_full-end-3 c = sym (length-take-le _ _ (omega arith))
