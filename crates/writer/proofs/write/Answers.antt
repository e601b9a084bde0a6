-- With no room left for more it is writing. Demand 3 comes with it, from the types of record and body buffer.
use native.Mathlib.Omega.{arith}
use Rattle.writer.proofs.Laws.{ended}
use Rattle.format.proofs.FitsLaws.{type_fits}
use Rattle.writer.proofs.write.Goals as goal

pub returns : goal.returns
returns c =
    let both = ended c.args.profile c.args.r c.args.d.now c.args.out.now
    (type_fits _ _ c.well_formed.0, record { at = λ i. omega (arith, c.shared_slice_known-1.given i) })
    (c.write_leaving.ensures.answer, c.write_leaving.ensures.output) in record { answer = both.0; output = both.1.0; numbers = both.1.1.0; least = both.1.1.1 }
