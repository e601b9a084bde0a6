-- The strings so far have their moved lengths, and all others stay.
use Rattle.std.proofs.Common.{◌≡◌, ℕ, ◌≤◌, ◌<◌, length}
use Rattle.moves.specs.Steps.Moves.{moved_place, in_row}
use Rattle.moves.proofs.records.moved_places.Given as goal

abbrev pub invariant-loop-k : goal.invariant-loop-k
invariant-loop-k l = record {
  long : length l.moved ≡ 17;
  done : (j : ℕ) → 10 ≤ j → j < l.k → in_row l.moved j ≡ moved_place l.unicode (in_row l.row j);
  before : (j : ℕ) → j < 10 → in_row l.moved j ≡ in_row l.initial.moved j;
  after : (j : ℕ) → l.k ≤ j → in_row l.moved j ≡ in_row l.initial.moved j;
}
