-- The tests of the header's numbers have each number fit its field; the icon's index is the number read as signed.
use mir.Syntax.{w32}
use mir.ValLaws.{to_z-of_z}
use mathlib.Core.Path.{◌∙◌}
use Rattle.fields.proofs.Laws.{header_is}
use Rattle.fields.proofs.Laws.{header_fits}
use Rattle.fields.proofs.header_from.Goals as goal

pub overflow_cast-result : goal.overflow_cast-result
overflow_cast-result c = record { fits = (header_fits _ c.requires.numbers).flags }

pub overflow_cast-result-2 : goal.overflow_cast-result-2
overflow_cast-result-2 c = record { fits = (header_fits _ c.requires.numbers).attributes }

pub overflow_cast-result-3 : goal.overflow_cast-result-3
overflow_cast-result-3 c =
    record { fits = (header_fits _ c.requires.numbers).size }

pub overflow_cast-f : goal.overflow_cast-f
overflow_cast-f c =
    record { fits = (header_fits _ c.requires.numbers).icon }

pub overflow_cast-result-4 : goal.overflow_cast-result-4
overflow_cast-result-4 c =
    record { fits = (header_fits _ c.requires.numbers).command }

pub overflow_cast-result-5 : goal.overflow_cast-result-5
overflow_cast-result-5 c =
    record { fits = (header_fits _ c.requires.numbers).hotkey }

pub returns : goal.returns
returns c =
    header_is _ (to_z-of_z w32 c.signed.result (record { sfits = c.signed.type_inv }) ∙ c.signed.ensures)
