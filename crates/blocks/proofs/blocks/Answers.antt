-- The walk passes all blocks and stops where none stands; what stands there, told by one more step, is the answer.
use mathlib.Core.Path.{sym, ◌∙◌}
use Rattle.blocks.proofs.StepLaws.{tail_part}
use Rattle.blocks.proofs.WalkLaws.{none_noted, read_nowhere, read_end, noted_end, read_stopped, read_wrong}
use Rattle.blocks.proofs.blocks.Goals as goal

pub returns-then-s-start-clause-row : goal.returns-then-s-start-clause-row
returns-then-s-start-clause-row c =
    c.stopped.ensures.row ∙ sym (none_noted _ _ _ (read_nowhere _ _ c.if-s-start.true))

pub returns-in-Ok-None : goal.returns-in-Ok-None
returns-in-Ok-None c =
    let P = c.run-p.ensures.passed in
    let e = rw (tail_part, c.in-Ok-None.field-0-is) at c.in-Ok-None.ensures in
    record { answer = c.read_to.ensures ∙ sym (read_end _ _ _ _ P e); row = sym (noted_end _ _ _ _ P e c.requires.small) }

pub returns-in-Ok-Some : goal.returns-in-Ok-Some
returns-in-Ok-Some c =
    let r = c.run-p.ensures in
    let is = read_wrong _ _ _ _ r.passed r.ended _ (rw (tail_part, c.in-Ok-Some.field-0-is) at c.in-Ok-Some.ensures) in
    let o = c.stopped-in-Ok-Some.ensures in
    record { answer = rw (o.value, c.wrong_block.ensures, tail_part) (sym is); row = o.row ∙ sym (none_noted _ _ _ is) }

pub returns-in-Err : goal.returns-in-Err
returns-in-Err c =
    let is = read_stopped _ _ _ _ c.run-p.ensures.passed _ (rw tail_part at c.in-Err.ensures) in
    let o = c.stopped-in-Err.ensures in
    record { answer = rw (o.value, c.size_wrong-in-Err.ensures, tail_part) (sym is); row = o.row ∙ sym (none_noted _ _ _ is) }
