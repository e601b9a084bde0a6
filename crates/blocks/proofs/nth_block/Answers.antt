use mathlib.Core.Path.{◌≡◌, sym, ap, ◌∙◌}
use native.Mathlib.Omega.{arith}
use lib.ListN.{drop}
use Rattle.std.specs.Prelude.{Some, Ok}
use Rattle.blocks.specs.Steps.Walk.{by_size}
use Rattle.blocks.proofs.WalkLaws.{rest_on}
use Rattle.blocks.proofs.NthLaws.{step_is, block_next, sized_fits}
use Rattle.blocks.proofs.nth_block.Goals as goal

pub loop-preserved : goal.loop-preserved
loop-preserved c =
    let I = c.loop.invariant in
    let e : Ok (Some c.in_ok-b.b) ≡ by_size (drop c.loop.at c.args.s.now) = step_is _ _ c.step.ensures c.in_ok-ok.ensures.value c.in_ok-b.was ∙ ap by_size I.here in
    record {
      inside = sized_fits c.args.s.now c.loop.at c.in_ok-b.b e I.inside;
      here = rest_on c.args.s.now c.loop.rest.now c.loop.at c.in_ok-b.b.len I.here;
      same = sym (block_next c.args.s.now c.loop.at c.in_ok-b.b e c.args.k c.loop.counter (omega arith)) ∙ I.same;
    }
