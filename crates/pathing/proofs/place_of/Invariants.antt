-- If the body's blocks are whole, those that are left have the place still to find.
use Rattle.std.proofs.Common.{length, ◌≤◌}
use Rattle.pathing.proofs.WalkLaws.{Going}
use Rattle.pathing.proofs.place_of.Given as goal

abbrev pub invariant-loop-rest : goal.invariant-loop-rest
invariant-loop-rest l = record { inside : length l.rest ≤ length l.x; going : Going l.x l.signature l.rest }

abbrev pub decreases-loop-rest : goal.decreases-loop-rest
decreases-loop-rest l = length l.rest
