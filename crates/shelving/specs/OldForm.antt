-- FORMAT: Old form. A length of four bytes and a shortcut, again and again to the end of the file; to a shelf and back.
use Rattle.std.specs.Prelude.{ℕ, List, [], ◌∷◌, length}
use Rattle.format.specs.declared.Fault.TheVariants.{Shelf as SHELF}
use Rattle.format.specs.Tests.{Outcome, ◌else◌at◌, no_section, tests}
use Rattle.format.specs.Shortcut.{verdict_of}
use Rattle.format.specs.Writing.{output_of}
use Rattle.shelves.specs.OldFile.{old_fits, old_entries, old_bytes}
use Rattle.shelves.specs.Table.{most_entries, shelf_tests, shelf_entries, shelf_bytes}
use Rattle.shelving.specs.Building.{filed}
use Rattle.format.specs.Verdicts.{Verdict}

-- ---- from the old form to a shelf

unfoldable pub from_old : List ℕ → ℕ → Outcome (List ℕ)
from_old s room =
    let es = old_entries most_entries s in
    tests no_section (old_fits most_entries s else SHELF at 0 ∷ []) (filed es (shelf_bytes es) room)

-- the answer, and the output buffer afterwards; the room is the buffer's length
unfoldable pub from_old_answer : List ℕ → List ℕ → Verdict
from_old_answer s out = verdict_of (from_old s (length out))

unfoldable pub from_old_output : List ℕ → List ℕ → List ℕ
from_old_output s out = output_of (from_old s (length out)) out

-- ---- from a shelf to the old form

unfoldable pub to_old : List ℕ → ℕ → Outcome (List ℕ)
to_old s room =
    let es = shelf_entries s in
    tests no_section (shelf_tests s) (filed es (old_bytes es) room)

unfoldable pub to_old_answer : List ℕ → List ℕ → Verdict
to_old_answer s out = verdict_of (to_old s (length out))

unfoldable pub to_old_output : List ℕ → List ℕ → List ℕ
to_old_output s out = output_of (to_old s (length out)) out
