-- The lines of the blocks at the start are those that were shown and then those at p; a block found lies inside, so p nears the end.
use lib.ListN.{length}
use Prim.Native.Nat.{◌≤◌, ◌-◌}
use Rattle.lines.specs.Steps.Windows.{BlocksShowed}
use Rattle.lines.specs.declared.window.Window.{Window}
use Rattle.lines.proofs.window.Window.blocks.Given as goal

abbrev pub invariant-loop-b : goal.invariant-loop-b
invariant-loop-b l = record {
  inside : l.p ≤ length l.s;
  rest : (r : Window) → BlocksShowed l.s l.p l.self r → BlocksShowed l.s l.from l.initial.self r;
}

abbrev pub decreases-loop-b : goal.decreases-loop-b
decreases-loop-b l = length l.s - l.p
