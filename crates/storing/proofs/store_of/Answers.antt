-- The store stands after size and signature of its block.
use mathlib.Core.Path.{◌∙◌}
use native.Mathlib.Omega.{arith}
use Rattle.storing.proofs.ListLaws.{store_part}
use Rattle.storing.proofs.store_of.Goals as goal

pub overflow_add-at : goal.overflow_add-at
overflow_add-at c = omega (arith, c.requires.inside, c.requires.long, c.well_formed)

pub overflow_sub-b : goal.overflow_sub-b
overflow_sub-b c = omega (arith, c.requires.long)

pub returns : goal.returns
returns c = c.part.ensures ∙ store_part _ _ c.requires
