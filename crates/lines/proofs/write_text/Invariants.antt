-- Each piece but the last fills the buffer and ends inside the text, so the place of the next one nears its end.
use mathlib.Core.Path.{◌≡◌}
use mathlib.Core.List.{List}
use lib.ListN.{length}
use Prim.Native.Nat.{ℕ, ◌≤◌, ◌-◌, ◌%◌}
use Rattle.lines.specs.Steps.Pieces.{PiecesOf}
use Rattle.lines.proofs.write_text.Given as goal

abbrev pub invariant-loop-profile : goal.invariant-loop-profile
invariant-loop-profile g l = record {
  room : length l.out ≡ 65536;
  full : l.from % 65536 ≡ 0;
  inside : (text : List ℕ) → PiecesOf (goal.F-post g l.put) l.s l.profile text → l.from ≤ length text;
}

abbrev pub decreases-loop-profile : goal.decreases-loop-profile
decreases-loop-profile g l = 524288 - l.from
