-- The first i bytes are put; the length is kept by itself, so that each store is seen to be in range.
use mathlib.Core.Path.{◌≡◌}
use lib.ListN.{length}
use Rattle.octets.proofs.PartLaws.{putting}
use Rattle.copies.proofs.put_each.Given as goal

abbrev pub invariant-loop-i : goal.invariant-loop-i
invariant-loop-i l = (length l.out ≡ length l.initial.out) × (l.out ≡ putting l.initial.out l.at l.src l.i)
