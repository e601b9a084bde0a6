-- The strings so far can be translated.
use Rattle.std.proofs.Common.{◌≡◌, ℕ, ◌≤◌, ◌<◌, true}
use Rattle.format.specs.Contents.{bytes_at}
use Rattle.moves.specs.Steps.Moves.{translatable, in_row}
use Rattle.moves.proofs.tests.strings_map.Given as goal

abbrev pub invariant-loop-k : goal.invariant-loop-k
invariant-loop-k l = (j : ℕ) → 10 ≤ j → j < l.k → translatable l.unicode (bytes_at l.d (in_row l.row j)) ≡ true
