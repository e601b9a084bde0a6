-- Probe shortcuts: P1 to P12 as rows of a single table.
use Rattle.std.specs.Prelude.{ℕ, List, [], ◌∷◌, ◌++◌, Bool, true, false, ◌&&◌, replicate, set, eqb}
use Rattle.octets.specs.Numbers.{little, same_numbers}
use Rattle.format.specs.declared.Profile.{Profile}
use Rattle.format.specs.declared.Profile.TheVariants.{Strict}
use Rattle.format.specs.declared.Record.{Record}
use Rattle.format.specs.Numbers.{answer_number, answer_value}
use Rattle.format.specs.Tests.{place, no_place}
use Rattle.format.specs.Shortcut.{reading, no_header}
use Rattle.format.specs.Bodies.{local_slot}
use Rattle.format.specs.Writing.{write_answer, write_output}
use Rattle.format.specs.Listing.{Row, listing}
use Rattle.format.specs.Verdicts.{Verdict}

-- ---- the bytes

abbrev pub zeros : ℕ → List ℕ
zeros n = replicate n 0

-- a header with these LinkFlags and this HotKey, and all else zero
abbrev pub header_of : ℕ → ℕ → List ℕ
header_of flags hotkey =
    (0x4C ∷ 0 ∷ 0 ∷ 0 ∷ 0x01 ∷ 0x14 ∷ 0x02 ∷ 0 ∷ 0 ∷ 0 ∷ 0 ∷ 0 ∷ 0xC0 ∷ 0 ∷ 0 ∷ 0 ∷ 0 ∷ 0 ∷ 0 ∷ 0x46 ∷ [])
    ++ little 4 flags
    ++ zeros 40
    ++ little 2 hotkey
    ++ zeros 10

-- Z with flags and a section added to it
abbrev pub with_section : ℕ → List ℕ → List ℕ
with_section flags x = header_of flags 0 ++ x ++ zeros 4

abbrev pub Z : List ℕ
Z = with_section 0 []

-- P9's section: count 3, then 2D 00 67 00 31 00
abbrev pub dash_g1 : List ℕ
dash_g1 = 0x03 ∷ 0x00 ∷ 0x2D ∷ 0x00 ∷ 0x67 ∷ 0x00 ∷ 0x31 ∷ 0x00 ∷ []

-- P10's LinkInfo of size 0x1D, flags 0
abbrev pub small_info : ℕ → ℕ → List ℕ
small_info head suffix = little 4 0x1D ++ little 4 head ++ zeros 16 ++ little 4 suffix ++ zeros 1

-- P12's record: LinkFlags 2, LinkInfo flags 1, a local path of one zero byte, label and suffix empty
abbrev pub zero_path : Record
zero_path = record {
  header = record {
    flags = 2;
    attributes = 0;
    creation = 0;
    access = 0;
    write = 0;
    file_size = 0;
    icon_index = no_header.icon_index;
    command = 0;
    hotkey = 0;
  };
  link = record { flags = 1; long = false; drive = 0; serial = 0; label_unicode = false; network_flags = 0; provider = 0; network_unicode = false };
  places = set (replicate 17 no_place) local_slot (place 0 1);
}

-- ---- rows

-- reading a file answers a number and a value; the file's listing has these rows; writing a record over a body buffer into a lent buffer answers a number
-- and a value and leaves these bytes in it
pub data Probe : Type 0 where
  reads : List ℕ → ℕ → ℕ → Probe
  lists : List ℕ → List Row → Probe
  writes : Record → List ℕ → List ℕ → ℕ → ℕ → List ℕ → Probe

abbrev pub row_numbers : List Row → List ℕ
row_numbers [] = []
row_numbers (x ∷ xs) = x.name ∷ x.start ∷ x.len ∷ row_numbers xs

abbrev pub answers : Verdict → ℕ → ℕ → Bool
answers v number value = eqb (answer_number v) number && eqb (answer_value v) value

unfoldable pub holds : Profile → Probe → Bool
unfolding reading listing write_answer write_output answer_number answer_value
holds profile (reads s number value) = answers (reading profile s).verdict number value
holds profile (lists s rows) = same_numbers (row_numbers (listing profile s)) (row_numbers rows)
holds profile (writes r d out number value after) =
    answers (write_answer profile r d out) number value && same_numbers (write_output profile r d out) after

unfoldable pub all_hold : Profile → List Probe → Bool
unfolding holds
all_hold profile [] = true
all_hold profile (x ∷ xs) = holds profile x && all_hold profile xs

abbrev pub row_at : ℕ → ℕ → ℕ → Row
row_at k p n = record { name = k; start = p; len = n }

-- a lent buffer whose bytes are none of the shortcut's
abbrev pub lent : ℕ → List ℕ
lent n = replicate n 0xEE

unfoldable pub table : List Probe
unfolding reading little
table =
    -- P1 to P4
    reads [] 2 0
    ∷ reads Z 0 80
    ∷ lists Z (row_at 0 0 76 ∷ row_at 9 76 4 ∷ [])
    ∷ reads (header_of 0 0 ++ zeros 3) 2 76
    ∷ reads (Z ++ zeros 1) 9 80
    -- P5
    ∷ reads (header_of 0 0 ++ little 4 3) 0 80
    ∷ reads (header_of 0 0 ++ little 4 4) 8 76
    -- P6
    ∷ reads (with_section 0x08000000 []) 4 20
    ∷ reads (header_of 0 0x0646 ++ zeros 4) 0 80
    ∷ reads (header_of 0 0x0600 ++ zeros 4) 4 64
    -- P7, P8
    ∷ reads (with_section 1 (0x02 ∷ 0x00 ∷ 0x00 ∷ 0x00 ∷ [])) 0 84
    ∷ reads (with_section 1 (0x03 ∷ 0x00 ∷ 0x01 ∷ 0x00 ∷ 0x00 ∷ [])) 5 78
    -- P9
    ∷ reads (with_section 0xA0 dash_g1) 0 88
    ∷ lists (with_section 0xA0 dash_g1) (row_at 0 0 76 ∷ row_at 6 76 8 ∷ row_at 9 84 4 ∷ [])
    ∷ reads (with_section 0x20 dash_g1) 2 81
    -- P10
    ∷ reads (with_section 2 (small_info 0x1C 0x1C)) 0 109
    ∷ reads (with_section 2 (small_info 0x1C 0x1B)) 7 100
    ∷ reads (with_section 2 (small_info 0x20 0x1C)) 6 80
    -- P11, P12
    ∷ writes (reading Strict Z).held Z (lent 79) 12 0 (lent 79)
    ∷ writes (reading Strict Z).held Z (lent 80) 0 80 Z
    ∷ writes zero_path (0x00 ∷ []) [] 11 0 []
    ∷ writes zero_path (0x00 ∷ []) (lent 200) 11 0 (lent 200)
    ∷ []
