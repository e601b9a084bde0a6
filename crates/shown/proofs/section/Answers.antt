-- The bytes shown are those at the section's place, and a place that stands in the text gives all of its bytes.
use Rattle.shown.proofs.Laws.{section_shown}
use Rattle.shown.proofs.section.Goals as goal

pub returns : goal.returns
returns c = section_shown _ _ _ _ c.section_place-b.ensures c.part.ensures
