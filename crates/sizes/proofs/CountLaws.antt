-- Lengths counted up to the most that a shortcut has.
use mathlib.Core.Path.{◌≡◌}
use Prim.Native.Nat.{ℕ, ◌+◌, ◌≤◌, ◌<◌}
use borrow.Author.Tests.{le-leb, lt-leb}
use Rattle.format.specs.Shortcut.{most}
use Rattle.sizes.specs.Steps.Sizes.{capped}

pub count_exact : (n : ℕ) → n ≤ most → n ≡ capped n
unfolding capped
count_exact n h = rw (le-leb n most h)

pub count_most : (n : ℕ) → most < n → most + 1 ≡ capped n
unfolding capped
count_most n h = rw (lt-leb n most h)
