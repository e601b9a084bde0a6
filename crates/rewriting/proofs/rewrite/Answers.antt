-- A refused reading is the answer; an accepted record is written from the shortcut's own bytes.
use Rattle.std.proofs.lemmas.Result.{err_from_is_err_and}
use Rattle.rewriting.proofs.Laws.{rewrite_left, rewrite_written}
use native.Mathlib.Omega.{arith}
use Rattle.rewriting.proofs.rewrite.Goals as goal

pub returns-in_err-g : goal.returns-in_err-g
returns-in_err-g c =
    let p = err_from_is_err_and c.from_residual.result c.from_residual.ensures.1 in
    let both = rewrite_left _ _ _ c.read-g.ensures.answer c.in_err-g.was in
    rw (p.1, p.2) (record { answer = both.0; output = both.1.0; numbers = both.1.1.0; kept = both.1.1.1 })

pub returns : goal.returns
returns c =
    let both = rewrite_written _ _ _ c.read-g.ensures.answer (record { at = λ i. omega (arith, c.type_inv.s i) }) c.in_ok-g.was (c.write.ensures.answer, (c.write.ensures.output, (c.write.ensures.numbers, c.write.ensures.least))) in record { answer = both.0; output = both.1.0; numbers = both.1.1.0; kept = both.1.1.1 }
