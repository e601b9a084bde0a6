-- After some turns the bytes of these are put.
use Prim.Native.Nat.{◌*◌}
use mathlib.Core.Path.{◌≡◌}
use lib.ListN.{length, take}
use Rattle.octets.specs.Parts.{put}
use Rattle.copies.proofs.put_turns.Given as goal

abbrev pub invariant-loop-turn : goal.invariant-loop-turn
invariant-loop-turn l = (length l.out ≡ length l.initial.out) × (l.out ≡ put l.initial.out l.at (take (128 * l.turn) l.src))
