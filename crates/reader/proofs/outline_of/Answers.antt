-- LONG first, then the header; the sections after it go on from there. What the three answers tell of reading follows from them.
use Rattle.std.proofs.Common.{◌≡◌, ap, ◌∙◌}
use Rattle.std.proofs.lemmas.Result.{err_from_is_err_and}
use Rattle.std.specs.Prelude.{Err}
use Rattle.reader.specs.Steps.Finish.{outline}
use Rattle.reader.proofs.outline_of.Goals as goal
use Rattle.reader.proofs.OutlineLaws.{outline_long, lengths_long, firsts_long, outline_step, lengths_step, firsts_step, outline_answers, told}

pub returns-then-s-gt65536 : goal.returns-then-s-gt65536
returns-then-s-gt65536 c =
    let long = c.if-s-gt65536.true in
    let a = ap Err c.at.ensures ∙ outline_long _ _ long in
    let t = c.requires.0 ∙ lengths_long _ _ long in
    let f = c.requires.1 ∙ firsts_long _ _ long in
    record { answer = a; numbers = outline_answers _ _ a; lengths = t; firsts = f; told = told _ _ a t f }

pub returns-in_err-h : goal.returns-in_err-h
returns-in_err-h c =
    let small = c.if-s-gt65536.false in
    let header = c.in_err-h.ensures in
    let p = err_from_is_err_and c.from_residual.result c.from_residual.ensures.1 in
    let a : c.from_residual.result ≡ outline c.args.profile c.args.s.now = rw (p.1, p.2) (outline_step _ _ small header) in
    let t = c.requires.0 ∙ lengths_step _ _ small header in
    let f = c.requires.1 ∙ firsts_step _ _ small header in
    record { answer = a; numbers = outline_answers _ _ a; lengths = t; firsts = f; told = told _ _ a t f }

pub returns : goal.returns
returns c =
    let small = c.if-s-gt65536.false in
    let header = c.in_ok-h.ensures in
    let rest = c.outline_from.ensures in
    let a = rest.answer ∙ outline_step _ _ small header in
    let t = rest.lengths ∙ lengths_step _ _ small header in
    let f = rest.firsts ∙ firsts_step _ _ small header in
    record { answer = a; numbers = outline_answers _ _ a; lengths = t; firsts = f; told = told _ _ a t f }
