-- The rest is what stands from p on, and the blocks up to p are noted; each block is at least 8 bytes, so the rest gets shorter.
use mathlib.Core.Path.{◌≡◌}
use lib.ListN.{length, drop}
use Rattle.blocks.specs.Steps.Walk.{Passed}
use Rattle.blocks.proofs.run.Given as goal

abbrev pub invariant-loop-b : goal.invariant-loop-b
invariant-loop-b l = record { here : l.rest ≡ drop l.p l.s; passed : Passed l.s l.start l.p l.firsts }

abbrev pub decreases-loop-b : goal.decreases-loop-b
decreases-loop-b l = length l.rest
