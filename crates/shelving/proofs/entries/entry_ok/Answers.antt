-- The two answers of reading.
use mathlib.Core.Path.{ap}
use Rattle.shelving.specs.Shelf.{accepted_by, accepted_entry}
use Rattle.shelving.proofs.entries.entry_ok.Goals as goal

pub returns-in-Ok : goal.returns-in-Ok
unfolding accepted_entry
returns-in-Ok c = ap accepted_by c.in-Ok.ensures.answer

pub returns-in_default : goal.returns-in_default
unfolding accepted_entry
returns-in_default c = ap accepted_by c.in_default.ensures.answer
