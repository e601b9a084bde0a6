-- Which field is at fault, and by which text.
use mathlib.Core.Path.{◌≡◌, refl, sym, ◌∙◌}
use mathlib.Core.Bool.{true}
use Rattle.std.proofs.Common.{arith}
use Rattle.std.proofs.lemmas.Grind.{common_steps}
use Rattle.std.specs.Prelude.{Some, None, Err}
use Rattle.pieces.specs.Steps.Found.{text_found}
use Rattle.info.proofs.InfoLaws.{suffix_lost, local_unicode_lost}
use Rattle.info.proofs.later_pieces.Goals as goal

pub returns-in_err-d-clause-is : goal.returns-in_err-d-clause-is
returns-in_err-d-clause-is c =
    let fault : c.from_residual.result ≡ Err 24 = grind (arith, common_steps) in
    let none : c.text_at.result ≡ None = grind (arith, common_steps) in
    fault ∙ sym (suffix_lost _ c.requires.1.1.1 (rw c.u32_at-2.ensures at (sym c.text_at.ensures.is ∙ none)))

pub returns-in_err-e-clause-is : goal.returns-in_err-e-clause-is
returns-in_err-e-clause-is c =
    let fault : c.from_residual-in_err-e.result ≡ Err 28 = grind (arith, common_steps) in
    let some : c.text_at.result ≡ Some c.in_ok-d.d = grind (arith, common_steps) in
    let none : c.text_at-2.result ≡ None = grind (arith, common_steps) in
    let own : text_found c.local_unicode_there-both.result true c.args.l.now c.args.head c.field.result ≡ None = sym c.text_at-2.ensures.is ∙ none in
    fault
    ∙ sym (local_unicode_lost _ refl (rw (c.u32_at-2.ensures, c.requires.1.1.1) at (sym c.text_at.ensures.is ∙ some))
    (rw (c.local_unicode_there-both.ensures, c.u32_at.ensures, c.field.ensures, c.requires.1.1.1) at own))
