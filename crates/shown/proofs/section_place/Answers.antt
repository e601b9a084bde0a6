-- A refused shortcut has no section.
use Rattle.shown.proofs.Laws.{none_place, no_rows}
use Rattle.shown.proofs.section_place.Goals as goal

pub returns-in-Err : goal.returns-in-Err
returns-in-Err c = none_place _ _ _ _ (no_rows _ _ c.in-Err.ensures.answer)
