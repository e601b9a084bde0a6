-- The slots before k have their sizes.
use Rattle.std.proofs.Common.{◌≡◌, ℕ, ◌+◌, ◌<◌, get_or, cond}
use Rattle.format.specs.Tests.{no_place}
use Rattle.format.specs.Steps.Shape.{no_slot}
use Rattle.sizes.specs.Steps.Sizes.{capped}
use Rattle.sizes.proofs.sizes_of.Given as goal

abbrev pub invariant-loop-k : goal.invariant-loop-k
invariant-loop-k l = (j : ℕ) → j < l.k → get_or l.x-items j 0 ≡ cond (get_or l.s j no_slot).there (capped (get_or l.row j no_place).len + get_or l.beside j 0) 0
