use native.Mathlib.Omega.{arith}
use Prim.Native.Nat.{◌+◌, ◌*◌}
use mathlib.Core.Path.{◌≡◌, refl}
use Rattle.copies.proofs.CopyLaws.{put_over}
use Rattle.octets.proofs.WroteLaws.{put-nil}
use Rattle.copies.proofs.put_turns.Goals as goal

pub loop-turn-init : goal.loop-turn-init
loop-turn-init c = (refl, put-nil _ _)

pub loop-turn-preserved : goal.loop-turn-preserved
loop-turn-preserved c =
    let k = 128 * c.loop-turn.turn in
    let next : 128 * (c.loop-turn.turn + 1) ≡ k + 128 = omega arith in
    (omega arith, rw next (put_over _ _ _ k k 128 c.loop-turn.invariant.1 c.put_span.ensures (omega arith) (omega arith) (omega arith) (omega arith)))
