-- The walk is due at p, which passes the end by one item at most.
use Rattle.std.proofs.Common.{◌+◌, ◌-◌, length}
use Rattle.writable.proofs.WalkLaws.{ItemsDue}
use Rattle.writable.proofs.items_ok.Given as goal

abbrev pub invariant-loop-p : goal.invariant-loop-p
invariant-loop-p l = ItemsDue l.x l.p

abbrev pub decreases-loop-p : goal.decreases-loop-p
decreases-loop-p l = length l.x + 65538 - l.p
