-- Block k of those at the start is block k - i of those at the place that has been come to.
use Prim.Native.Nat.{◌≤◌, ◌-◌}
use lib.ListN.{length, drop}
use mathlib.Core.Path.{◌≡◌}
use Rattle.blocks.specs.Steps.Walk.{nth_block}
use Rattle.blocks.proofs.nth_block.Given as goal

abbrev pub invariant-loop : goal.invariant-loop
invariant-loop l = record { inside : l.at ≤ length l.s; here : l.rest ≡ drop l.at l.s; same : nth_block l.s l.at (l.k - l.counter) ≡ nth_block l.s l.from l.k }
