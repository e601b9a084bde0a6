-- The row's place lies inside, so the part is what stands there.
use mathlib.Core.Path.{◌∙◌}
use Rattle.storing.proofs.ListLaws.{shown_name}
use Rattle.storing.proofs.store_name.Goals as goal

pub returns : goal.returns
returns c = c.part.ensures ∙ shown_name _ _ _ c.row_of-r.ensures
