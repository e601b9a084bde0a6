-- Each refusal has its law, in the order of the tests; after one nothing is said.
use Rattle.std.proofs.Common.{◌≡◌, ◌∙◌, sym, arith}
use Rattle.std.proofs.lemmas.Grind.{common_steps}
use Rattle.std.specs.Prelude.{Ok}
use Rattle.info.specs.Steps.Taken.{OwnPart, info_at}
use Rattle.info.proofs.LengthLaws.{row_kept}
use Rattle.info.proofs.SectionLaws.{held_nothing, head_lost, head_silent, piece_lost, piece_silent, info_right, held_right, info_answered}
use Rattle.info.proofs.info.Goals as goal

pub returns-in_err-l : goal.returns-in_err-l
returns-in_err-l c =
    let lost = c.in_err-l.ensures c.args.profile in
    let a : c.from_residual.result ≡ info_at c.args.profile c.args.s.now c.args.c.at = grind (arith, common_steps, lost) in
    record { answer = a; numbers = info_answered _ _ _ a; lengths = c.requires.row ∙ sym (held_nothing _ _ _ lost) }

pub returns-in_err-map_err : goal.returns-in_err-map_err
returns-in_err-map_err c =
    let P : OwnPart c.args.s.now c.args.c.at c.in_ok-l.l.now c.in_ok-l.next = c.in_ok-l.ensures in
    let a : c.from_residual-in_err-map_err.result ≡ info_at c.args.profile c.args.s.now c.args.c.at = grind (arith, common_steps, head_lost c.args.profile c.args.s.now c.args.c.at P) in
    record { answer = a; numbers = info_answered _ _ _ a; lengths = grind (arith, common_steps, head_silent c.args.profile c.args.s.now c.args.c.at P) }

pub returns-in_err-map_err-2 : goal.returns-in_err-map_err-2
returns-in_err-map_err-2 c =
    let P : OwnPart c.args.s.now c.args.c.at c.in_ok-l.l.now c.in_ok-l.next = c.in_ok-l.ensures in
    let a : c.from_residual-in_err-map_err-2.result ≡ info_at c.args.profile c.args.s.now c.args.c.at = grind (arith, common_steps, piece_lost c.args.profile c.args.s.now c.args.c.at P) in
    record { answer = a; numbers = info_answered _ _ _ a; lengths = grind (arith, common_steps, piece_silent c.args.profile c.args.s.now c.args.c.at P, row_kept) }

pub returns : goal.returns
returns c =
    let P : OwnPart c.args.s.now c.args.c.at c.in_ok-l.l.now c.in_ok-l.next = c.in_ok-l.ensures in
    let a : info_at c.args.profile c.args.s.now c.args.c.at ≡ Ok c.in_ok-l.next = grind (arith, common_steps, info_right c.args.profile c.args.s.now c.args.c.at P) in
    record { answer = sym a; numbers = info_answered _ _ _ (sym a); lengths = grind (arith, common_steps, held_right c.args.profile c.args.s.now c.args.c.at P) }
