-- The promises come with the answer, from the types of the slices.
use Rattle.moving.proofs.CallLaws.{Bytes-call}
use native.Mathlib.Omega.{arith}
use Rattle.moving.proofs.to_bytes.Goals as goal

pub returns : goal.returns
returns c =
    let both = Bytes-call c.args.profile c.args.s.now c.args.out.now (record { at = λ i. omega (arith, c.shared_slice_known-1.given i) }) c.move_to.ensures.answer c.move_to.ensures.output in record { answer = both.0; output = both.1.0; numbers = both.1.1.0; moves = both.1.1.1 }
