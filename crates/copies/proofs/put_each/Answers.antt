use native.Mathlib.Omega.{arith}
use mathlib.Core.Path.{refl}
use lib.ListN.{length-set}
use Rattle.octets.proofs.PartLaws.{put_none, put_more, put_whole}
use Rattle.copies.proofs.put_each.Goals as goal

pub loop-i-init : goal.loop-i-init
loop-i-init c = (refl, put_none _ _ _)

pub loop-i-preserved : goal.loop-i-preserved
loop-i-preserved c =
    let l = c.loop-i in
    (simp length-set l.invariant.0, put_more _ _ _ _ l.invariant.1 (omega arith) (omega arith))

pub returns : goal.returns
returns c = put_whole _ _ _ _ c.loop-i.invariant.1 (omega arith)
