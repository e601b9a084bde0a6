-- The network link keeps its rules too.
use mathlib.Core.Path.{◌≡◌, sym, ◌∙◌}
use Rattle.std.proofs.Common.{arith}
use Rattle.std.proofs.lemmas.Grind.{common_steps}
use Rattle.std.specs.Prelude.{Some}
use Rattle.info.proofs.InfoLaws.{earlier_right}
use Rattle.info.proofs.earlier_pieces.Goals as goal

pub returns-clause-is : goal.returns-clause-is
returns-clause-is c =
    let some : c.text_at.result ≡ Some c.in_ok-b.b = grind (arith, common_steps) in
    sym (earlier_right _ c.requires.1.1 (rw (c.local_there-there.ensures, c.u32_at-flags.ensures) at (sym c.in_ok-a.ensures.is))
    (rw (c.local_there-there.ensures, c.u32_at-flags.ensures, c.u32_at.ensures) at (sym c.text_at.ensures.is ∙ some))
    (rw (c.network_there.ensures, c.u32_at-flags.ensures) at (sym c.in_ok-c.ensures.is)))
