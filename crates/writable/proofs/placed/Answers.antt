-- After the last slot the test has passed each.
use native.Mathlib.Omega.{arith}
use Rattle.writable.proofs.SlotLaws.{placed_each}
use Rattle.writable.proofs.placed.Goals as goal

pub returns : goal.returns
returns c = placed_each c.args.n c.args.q c.requires (λ k h. c.loop-k.invariant k (omega arith))
