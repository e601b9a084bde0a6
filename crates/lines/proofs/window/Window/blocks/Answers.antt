use mathlib.Core.Path.{ap, ◌∙◌}
use native.Mathlib.Omega.{arith}
use Rattle.std.specs.Prelude.{Option, Ok}
use Rattle.blocks.specs.declared.Block.{Block}
use Rattle.blocks.proofs.NthLaws.{nth_fits}
use Rattle.blocks.proofs.StepLaws.{tail_part, by_block, by_end, by_fault}
use Rattle.lines.proofs.BlockRows.{blocks_outside, blocks_refused, blocks_ended, blocks_next}
use Rattle.lines.specs.Text.{name_text}
use Rattle.lines.proofs.window.Window.blocks.Goals as goal

pub returns-then-outside : goal.returns-then-outside
returns-then-outside c = blocks_outside _ _ _ _ (omega arith)

pub overflow_add-p : goal.overflow_add-p
overflow_add-p c =
    let z = by_block _ (rw tail_part at c.step.ensures) (c.in-Ok-Some.is ∙ ap (λ (b : Option Block). Ok b) c.in-Ok-Some.field-0-is) in
    omega (arith, c.well_formed, nth_fits _ _ c.loop-b.invariant.inside z)

pub loop-b-smaller : goal.loop-b-smaller
loop-b-smaller c =
    let z = by_block _ (rw tail_part at c.step.ensures) (c.in-Ok-Some.is ∙ ap (λ (b : Option Block). Ok b) c.in-Ok-Some.field-0-is) in
    omega (arith, nth_fits _ _ c.loop-b.invariant.inside z, z.least)

pub loop-b-preserved : goal.loop-b-preserved
unfolding name_text
loop-b-preserved c =
    let z = by_block _ (rw tail_part at c.step.ensures) (c.in-Ok-Some.is ∙ ap (λ (b : Option Block). Ok b) c.in-Ok-Some.field-0-is) in
    record { inside = nth_fits _ _ c.loop-b.invariant.inside z; rest = λ r h. c.loop-b.invariant.rest r (blocks_next _ _ z _ c.line.ensures r h) }

pub returns-in-Ok-None : goal.returns-in-Ok-None
unfolding name_text
returns-in-Ok-None c =
    let e = c.in-Ok-None.is ∙ ap (λ (b : Option Block). Ok b) c.in-Ok-None.field-0-is in
    c.loop-b.invariant.rest _ (blocks_ended _ _ _ _ (by_end _ (rw tail_part at c.step.ensures) e) c.line-in-Ok-None.ensures)

pub returns-in-Err : goal.returns-in-Err
returns-in-Err c = c.loop-b.invariant.rest _ (blocks_refused _ _ _ _ (by_fault _ (rw tail_part at c.step.ensures) c.in-Err.is))
