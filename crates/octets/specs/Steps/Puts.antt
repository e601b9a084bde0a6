-- A part that may not stand there, and what a function that puts answers.
use Rattle.std.specs.Prelude.{ℕ, ◌+◌, ◌≤◌, ◌≡◌, List, [], cond, length, take, drop}
use Rattle.octets.specs.Steps.Cursors.{inside}
use Rattle.octets.specs.Parts.{put}

-- n bytes from the place i on; none where they do not stand there
unfoldable pub part : List ℕ → ℕ → ℕ → List ℕ
part s i n = cond (inside s i n) (take n (drop i s)) []

-- the n bytes w were put into the buffer out from the place at on, which made it x, and r is the place after them
pub record Wrote (out : List ℕ) (at : ℕ) (w : List ℕ) (n : ℕ) (x : List ℕ) (r : ℕ) : Type 0 where
  pub content : x ≡ put out at w
  pub long : length w ≡ n
  pub next : r ≡ at + n
  pub fits : r ≤ length out
