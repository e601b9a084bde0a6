-- FORMAT: Shelf tests, Shelf fetching. A shelf as it is read: the tests of its count and table, then those of its entries.
use Rattle.std.specs.Prelude.{ℕ, ◌+◌, List, [], ◌∷◌, ◌++◌, Bool, true, false, ltb, Result, Ok, Err}
use Rattle.std.specs.Result.{result_unwrap_or}
use Rattle.format.specs.declared.Place.{Place}
use Rattle.format.specs.declared.Refused.{Refused}
use Rattle.format.specs.declared.Fault.TheVariants.{Shelf as SHELF, Entry as ENTRY}
use Rattle.format.specs.declared.Profile.TheVariants.{Strict}
use Rattle.format.specs.Tests.{Outcome, got, refused, Test, ◌else◌at◌, no_section, tests, no_place}
use Rattle.format.specs.Shortcut.{reading, verdict_of}
use Rattle.format.specs.Contents.{bytes_at}
use Rattle.shelves.specs.Table.{shelf_count, shelf_tests, shelf_entries, shelf_row}
use Rattle.format.specs.Verdicts.{Verdict}

-- ---- entries

abbrev pub accepted_by : Verdict → Bool
accepted_by (Ok n) = true
accepted_by (Err r) = false

-- an entry is a shortcut that reading accepts as strict, so it has 1 to 65,536 bytes
unfoldable pub accepted_entry : List ℕ → Bool
accepted_entry e = accepted_by (reading Strict e).verdict

-- ENTRY has the number of the first bad entry for its position
abbrev pub entry_tests : ℕ → List (List ℕ) → List Test
entry_tests k [] = []
entry_tests k (e ∷ es) = accepted_entry e else ENTRY at k ∷ entry_tests (k + 1) es

-- ---- checking: the answer is the number of entries

unfoldable pub shelf : List ℕ → Outcome (List (List ℕ))
shelf s = tests no_section (shelf_tests s ++ entry_tests 0 (shelf_entries s)) (got (shelf_entries s) (shelf_count s))

unfoldable pub shelf_answer : List ℕ → Verdict
shelf_answer s = verdict_of (shelf s)

-- ---- fetching by number: where the entry stands in the shelf

-- a number that is not on the shelf is SHELF, before any ENTRY
unfoldable pub shelf_entry : List ℕ → ℕ → Outcome Place
shelf_entry s k =
    tests no_section (shelf_tests s ++ ltb k (shelf_count s) else SHELF at 0 ∷ entry_tests 0 (shelf_entries s)) (got (shelf_row s k) (shelf_row s k).len)

-- the same, with no entry tested but the one asked for
unfoldable pub shelf_one : List ℕ → ℕ → Outcome Place
shelf_one s k =
    tests no_section (shelf_tests s ++ ltb k (shelf_count s) else SHELF at 0 ∷ accepted_entry (bytes_at s (shelf_row s k)) else ENTRY at k ∷ [])
    (got (shelf_row s k) (shelf_row s k).len)

-- the place of the entry, or the refusal
abbrev pub fetched_by : Outcome Place → Result Place Refused
fetched_by (got b n) = Ok b
fetched_by (refused f p) = Err (record { fault = f; position = p.position })

-- the verdict: accepted with the length of the entry
abbrev pub fetch_verdict : Result Place Refused → Verdict
fetch_verdict (Ok b) = Ok b.len
fetch_verdict (Err r) = Err r

unfoldable pub entry_answer : List ℕ → ℕ → Result Place Refused
entry_answer s k = fetched_by (shelf_entry s k)

unfoldable pub one_answer : List ℕ → ℕ → Result Place Refused
one_answer s k = fetched_by (shelf_one s k)

-- the caller's own bytes there; none beside a refusal
unfoldable pub entry_shown : List ℕ → ℕ → List ℕ
entry_shown s k = bytes_at s (result_unwrap_or (entry_answer s k) no_place)

unfoldable pub one_shown : List ℕ → ℕ → List ℕ
one_shown s k = bytes_at s (result_unwrap_or (one_answer s k) no_place)
