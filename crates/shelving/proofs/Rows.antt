-- Small files, right and wrong in each way, by computation.
use mathlib.Core.Path.{◌≡◌, refl}
use mathlib.Core.List.{List, [], ◌∷◌, ◌++◌, map}
use mathlib.Core.Bool.{false}
use Prim.Native.Nat.{ℕ}
use lib.ListN.{take}
use Rattle.octets.specs.Numbers.{number, number_at, little}
use Rattle.octets.specs.Parts.{put}
use Rattle.format.specs.declared.Fault.{Fault}
use Rattle.format.specs.declared.Fault.TheVariants.{Shelf as SHELF, Entry as ENTRY, Room as ROOM}
use Rattle.format.specs.declared.Profile.TheVariants.{NinetyFive}
use Rattle.format.specs.Tests.{place}
use Rattle.format.specs.Header.{identifier_ok, signed}
use Rattle.format.specs.Blocks.{slot_of, size_fits, inside_tests, blocks_from}
use Rattle.format.specs.Shortcut.{sections, shortcut, reading}
use Rattle.format.specs.Probes.{zeros, Z}
use Rattle.format.specs.Writing.{output_of}
use Rattle.format.specs.declared.Place.{Place}
use Rattle.format.specs.declared.Refused.{Refused}
use Rattle.shelving.specs.Shelf.{accepted_entry, shelf, shelf_answer, shelf_entry, shelf_one, entry_answer, one_answer}
use Rattle.shelves.specs.Table.{shelf_rows, shelf_tests, shelf_entries, shelf_row, shelf_bytes}
use Rattle.shelving.specs.Building.{filed, shelf_build, build_answer, build_output}
use Rattle.shelves.specs.OldFile.{old_fits, old_entries, old_bytes}
use Rattle.shelving.specs.OldForm.{from_old, from_old_answer, from_old_output, to_old, to_old_output}
use Rattle.format.specs.Verdicts.{refused_at}
use Rattle.std.specs.Prelude.{Result, Ok, Err}

abbrev row : ℕ → ℕ → List ℕ
row start len = little 4 start ++ little 4 len

-- two entries of 80 bytes
abbrev two : List ℕ
two = little 4 2 ++ row 20 80 ++ row 100 80 ++ Z ++ Z

-- a wrong first entry, and a wrong second one
abbrev first_bad : List ℕ
first_bad = little 4 2 ++ row 20 1 ++ row 21 80 ++ zeros 1 ++ Z

abbrev second_bad : List ℕ
second_bad = little 4 2 ++ row 20 80 ++ row 100 0 ++ Z

-- no entries, one and two; less than a count; a byte after the table, after the bodies; 65 entries; a table that is cut
pub counts : map shelf_answer
    (little 4 0
    ∷ (little 4 1 ++ row 12 80 ++ Z)
    ∷ two
    ∷ []
    ∷ zeros 3
    ∷ zeros 5
    ∷ (two ++ zeros 1)
    ∷ (little 4 65 ++ zeros 520)
    ∷ (little 4 1 ++ zeros 7)
    ∷ [])
    ≡ Ok 0 ∷ Ok 1 ∷ Ok 2 ∷ refused_at SHELF 0 ∷ refused_at SHELF 0 ∷ refused_at SHELF 0 ∷ refused_at SHELF 0 ∷ refused_at SHELF 0 ∷ refused_at SHELF 0 ∷ []
unfolding number number_at little identifier_ok signed slot_of size_fits inside_tests blocks_from sections shortcut reading accepted_entry shelf_rows shelf_tests shelf_entries shelf shelf_answer
counts = refl

-- swapped rows; a gap before the second; an overlap; the last body one byte short and one too long; a bad first entry, a bad second one; a bad one under a wrong table
pub tables : map shelf_answer
    ((little 4 2 ++ row 100 80 ++ row 20 80 ++ Z ++ Z)
    ∷ (little 4 2 ++ row 20 80 ++ row 101 79 ++ Z ++ Z)
    ∷ (little 4 2 ++ row 20 80 ++ row 99 81 ++ Z ++ Z)
    ∷ (little 4 2 ++ row 20 80 ++ row 100 79 ++ Z ++ Z)
    ∷ (little 4 2 ++ row 20 80 ++ row 100 81 ++ Z ++ Z)
    ∷ first_bad
    ∷ second_bad
    ∷ (first_bad ++ zeros 1)
    ∷ [])
    ≡ refused_at SHELF 0 ∷ refused_at SHELF 0 ∷ refused_at SHELF 0 ∷ refused_at SHELF 0 ∷ refused_at SHELF 0 ∷ refused_at ENTRY 0 ∷ refused_at ENTRY 1 ∷ refused_at SHELF 0 ∷ []
unfolding number number_at little identifier_ok signed slot_of size_fits inside_tests blocks_from sections shortcut reading accepted_entry shelf_rows shelf_tests shelf_entries shelf shelf_answer
tables = refl

-- Z with attribute bit 15, which 95 alone accepts
abbrev leftover : List ℕ
leftover = put Z 25 (0x80 ∷ [])

pub strict : (accepted_entry leftover ≡ false) × ((reading NinetyFive leftover).verdict ≡ Ok 80)
unfolding number number_at little put identifier_ok signed slot_of size_fits inside_tests blocks_from sections shortcut reading accepted_entry
strict = (refl, refl)

-- an answer to a fetch
abbrev stands : ℕ → ℕ → Result Place Refused
stands start len = Ok (place start len)

abbrev none : Fault → ℕ → Result Place Refused
none f p = Err (record { fault = f; position = p })

-- both numbers of a shelf, and one that is not on it; on a shelf with a bad entry a good one, and one that is not on it
pub fetches : map (entry_answer two) (0 ∷ 1 ∷ 2 ∷ []) ++ map (entry_answer first_bad) (1 ∷ 2 ∷ []) ≡ stands 20 80 ∷ stands 100 80 ∷ none SHELF 0 ∷ none ENTRY 0 ∷ none SHELF 0 ∷ []
unfolding number number_at little identifier_ok signed slot_of size_fits inside_tests blocks_from sections shortcut reading accepted_entry shelf_rows shelf_tests shelf_entries shelf_row shelf_entry entry_answer
fetches = refl

-- asked for alone: a bad entry, the good one beside it, and one that is not on the shelf
pub ones : map (one_answer first_bad) (0 ∷ 1 ∷ 2 ∷ []) ≡ none ENTRY 0 ∷ stands 21 80 ∷ none SHELF 0 ∷ []
unfolding number number_at little identifier_ok signed slot_of size_fits inside_tests blocks_from sections shortcut reading accepted_entry shelf_rows shelf_tests shelf_row shelf_one one_answer
ones = refl

-- built into 180 bytes: two entries; lengths that wrap to the right sum; a sum that is one short; an empty entry between two
pub builds : map (λ ns. build_answer ns (Z ++ Z) (zeros 180)) ((80 ∷ 80 ∷ []) ∷ (18446744073709551615 ∷ 161 ∷ []) ∷ (80 ∷ 79 ∷ []) ∷ (80 ∷ 0 ∷ 80 ∷ []) ∷ [])
    ≡ Ok 180 ∷ refused_at SHELF 0 ∷ refused_at SHELF 0 ∷ refused_at ENTRY 1 ∷ []
unfolding number number_at little identifier_ok signed slot_of size_fits inside_tests blocks_from sections shortcut reading accepted_entry shelf_bytes filed shelf_build build_answer
builds = refl

-- the bytes that are built; a room one byte short
pub built : build_output (80 ∷ 80 ∷ []) (Z ++ Z) (zeros 181) ≡ two ++ zeros 1
unfolding number number_at little put identifier_ok signed slot_of size_fits inside_tests blocks_from sections shortcut reading accepted_entry shelf_bytes filed shelf_build output_of build_output
built = refl

pub no_room : build_answer (80 ∷ 80 ∷ []) (Z ++ Z) (zeros 179) ≡ refused_at ROOM 0
unfolding number number_at little identifier_ok signed slot_of size_fits inside_tests blocks_from sections shortcut reading accepted_entry shelf_bytes filed shelf_build build_answer
no_room = refl

-- the old form of two
abbrev old_two : List ℕ
old_two = little 4 80 ++ Z ++ little 4 80 ++ Z

-- of the old form: no entries; two; three bytes where a length is due; a length past the end; a length of 0
pub olds : map (λ o. from_old_answer o (zeros 180)) ([] ∷ old_two ∷ (little 4 80 ++ Z ++ zeros 3) ∷ (little 4 81 ++ Z) ∷ (little 4 80 ++ Z ++ little 4 0) ∷ [])
    ≡ Ok 4 ∷ Ok 180 ∷ refused_at SHELF 0 ∷ refused_at SHELF 0 ∷ refused_at ENTRY 1 ∷ []
unfolding number number_at little identifier_ok signed slot_of size_fits inside_tests blocks_from sections shortcut reading accepted_entry shelf_bytes filed old_fits old_entries from_old from_old_answer
olds = refl

-- its bytes, there and back
pub there : from_old_output old_two (zeros 181) ≡ two ++ zeros 1
unfolding number number_at little put identifier_ok signed slot_of size_fits inside_tests blocks_from sections shortcut reading accepted_entry shelf_bytes filed old_fits old_entries output_of from_old from_old_output
there = refl

pub back : to_old_output two (zeros 169) ≡ old_two ++ zeros 1
unfolding number number_at little put identifier_ok signed slot_of size_fits inside_tests blocks_from sections shortcut reading accepted_entry shelf_rows shelf_tests shelf_entries filed old_bytes output_of to_old to_old_output
back = refl

-- its beginnings: none of its bytes and all up to the end of an entry are of the old form again; three bytes of a length, and a cut entry, are not
pub old_beginnings : map (λ k. from_old_answer (take k old_two) (zeros 180)) (0 ∷ 3 ∷ 83 ∷ 84 ∷ 87 ∷ 167 ∷ 168 ∷ [])
    ≡ Ok 4 ∷ refused_at SHELF 0 ∷ refused_at SHELF 0 ∷ Ok 92 ∷ refused_at SHELF 0 ∷ refused_at SHELF 0 ∷ Ok 180 ∷ []
unfolding number number_at little identifier_ok signed slot_of size_fits inside_tests blocks_from sections shortcut reading accepted_entry shelf_bytes filed old_fits old_entries from_old from_old_answer
old_beginnings = refl
