-- The row's place lies inside, so the part is what stands there.
use mathlib.Core.Path.{◌∙◌}
use Rattle.storing.proofs.ListLaws.{shown_raw}
use Rattle.storing.proofs.store_raw.Goals as goal

pub returns : goal.returns
returns c = c.part.ensures ∙ shown_raw _ _ _ c.row_of-r.ensures
