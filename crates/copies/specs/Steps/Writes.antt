-- What a function that puts bytes into an output asks of it, and what it leaves.
use Rattle.std.specs.Prelude.{ℕ, ◌+◌, ◌≤◌, ◌≡◌, List, length}
use Rattle.octets.specs.Parts.{put}
use Rattle.copies.specs.declared.output.Output.{Output}

-- n bytes have room in the output
pub record HasRoom (o : Output) (n : ℕ) : Type 0 where
  pub room : o.at + n ≤ length o.out.now

-- the n bytes w were put into the output o, which made it x: it is over the same buffer, whose length stays, and stands after them
pub record Writes (o x : Output) (w : List ℕ) (n : ℕ) : Type 0 where
  pub same : x.out.ghost_name ≡ o.out.ghost_name
  pub content : x.out.now ≡ put o.out.now o.at w
  pub long : length w ≡ n
  pub next : x.at ≡ o.at + n
  pub fits : x.at ≤ length x.out.now
  pub kept : length x.out.now ≡ length o.out.now
