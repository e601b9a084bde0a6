-- FORMAT: Shelf building. A shelf from bodies that stand end to end, and their lengths.
use Rattle.std.specs.Prelude.{ℕ, List, [], ◌∷◌, ◌++◌, length, take, drop, leb, eqb}
use Rattle.format.specs.declared.Fault.TheVariants.{Shelf as SHELF, Room as ROOM}
use Rattle.format.specs.Tests.{Outcome, got, ◌else◌at◌, no_section, tests}
use Rattle.format.specs.Shortcut.{sum, verdict_of}
use Rattle.format.specs.Writing.{output_of}
use Rattle.shelves.specs.Table.{most_entries, shelf_bytes}
use Rattle.shelving.specs.Shelf.{entry_tests}
use Rattle.format.specs.Verdicts.{Verdict}

-- ---- a file w with these entries: ENTRY for a bad one, then ROOM

unfoldable pub filed : List (List ℕ) → List ℕ → ℕ → Outcome (List ℕ)
filed es w room = tests no_section (entry_tests 0 es ++ leb (length w) room else ROOM at 0 ∷ []) (got w (length w))

-- ---- the call

-- the bodies end to end are cut by their lengths
abbrev pub bodies_by : List ℕ → List ℕ → List (List ℕ)
bodies_by [] d = []
bodies_by (n ∷ ns) d = take n d ∷ bodies_by ns (drop n d)

-- the lengths add up to the bodies; the sum does not wrap
unfoldable pub shelf_build : List ℕ → List ℕ → ℕ → Outcome (List ℕ)
shelf_build ns d room =
    let es = bodies_by ns d in
    tests no_section (leb (length ns) most_entries else SHELF at 0 ∷ eqb (sum ns) (length d) else SHELF at 0 ∷ []) (filed es (shelf_bytes es) room)

-- the answer, and the output buffer afterwards; the room is the buffer's length
unfoldable pub build_answer : List ℕ → List ℕ → List ℕ → Verdict
build_answer ns d out = verdict_of (shelf_build ns d (length out))

unfoldable pub build_output : List ℕ → List ℕ → List ℕ → List ℕ
build_output ns d out = output_of (shelf_build ns d (length out)) out
