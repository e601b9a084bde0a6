-- Small shortcuts with heads of several lengths, by computation: the place of the head's further bytes, and what is written of them.
use mathlib.Core.Path.{◌≡◌, refl}
use mathlib.Core.List.{List, [], ◌∷◌, ◌++◌}
use mathlib.Core.Bool.{true, ◌&&◌}
use Prim.Native.Nat.{ℕ, ◌+◌}
use lib.ListN.{length, set}
use Rattle.octets.specs.Numbers.{number, number_at, little}
use Rattle.octets.specs.Characters.{units, before_zero}
use Rattle.octets.specs.Parts.{put}
use Rattle.format.specs.declared.Place.{Place}
use Rattle.format.specs.declared.Record.{Record}
use Rattle.format.specs.declared.Profile.TheVariants.{Strict, NinetyFive}
use Rattle.format.specs.Tests.{place, no_place}
use Rattle.format.specs.Numbers.{number_of, answer_number, answer_value}
use Rattle.format.specs.Header.{identifier_ok, signed}
use Rattle.format.specs.Items.{item_tests}
use Rattle.format.specs.Blocks.{slot_of, size_fits, inside_tests, blocks_from}
use Rattle.format.specs.Shortcut.{sections, shortcut, reading}
use Rattle.format.specs.Bodies.{further_slot, place_in, placed}
use Rattle.format.specs.Contents.{present, contents}
use Rattle.format.specs.Writing.{bits, header_bytes, items_bytes, volume_bytes, network_bytes, info_bytes, bytes_of_string, canonical, writable, writing, output_of, write_answer, write_output}
use Rattle.format.specs.Listing.{listing}
use Rattle.format.specs.Probes.{Probe, reads, writes, all_hold, zeros, with_section, small_info, Z, lent, holds}

-- a LinkInfo with these further bytes in its head and both suffixes empty, as it is written
abbrev long_info : List ℕ → List ℕ
long_info x =
    let head = 0x24 + length x in
    with_section 2 (little 4 (head + 3) ++ little 4 head ++ zeros 16 ++ little 4 head ++ little 4 0 ++ little 4 (head + 1) ++ x ++ zeros 3)

-- with gaps of one byte after the head and between the pieces
abbrev loose : List ℕ → List ℕ
loose x =
    let head = 0x24 + length x in
    with_section 2 (little 4 (head + 6) ++ little 4 head ++ zeros 16 ++ little 4 (head + 5) ++ little 4 0 ++ little 4 (head + 2) ++ x ++ zeros 6)

abbrev short_info : List ℕ
short_info = with_section 2 (small_info 0x1C 0x1C)

-- a vendor's eight bytes, a zero among them
abbrev eight : List ℕ
eight = 0x11 ∷ 0x22 ∷ 0 ∷ 0x44 ∷ 0x55 ∷ 0x66 ∷ 0x77 ∷ 0x88 ∷ []

abbrev held : List ℕ → Record
held s = (reading Strict s).held

abbrev further_of : List ℕ → Place
further_of s = place_in (held s) further_slot

-- the record of s with this place for the further bytes
abbrev with_further : List ℕ → Place → Record
with_further s b = record { header = (held s).header; link = (held s).link; places = set (held s).places further_slot b }

-- eight bytes; none, after a head of exactly 0x24; a short head; no LinkInfo
pub places_hold : further_of (long_info eight) ∷ further_of (long_info []) ∷ further_of short_info ∷ further_of Z ∷ []
    ≡ place 112 8 ∷ place 112 0 ∷ no_place ∷ no_place ∷ []
unfolding number number_at little units before_zero identifier_ok signed item_tests slot_of size_fits inside_tests blocks_from sections shortcut reading
places_hold = refl

-- they are written as they are, and the pieces stand after them; the room is counted with them; a head without them gets them; with a short head one byte is too many, and
-- its place counts, empty too; without LinkInfo neither does
abbrev pub rows : List Probe
rows =
    writes (held (long_info eight)) (long_info eight) (lent 127) 0 127 (long_info eight)
    ∷ writes (held (long_info eight)) (long_info eight) (lent 126) 12 0 (lent 126)
    ∷ writes (held (loose eight)) (loose eight) (lent 127) 0 127 (long_info eight)
    ∷ writes (held (long_info [])) (long_info []) (lent 119) 0 119 (long_info [])
    ∷ writes (with_further (long_info []) (place 0 2)) (long_info []) (lent 121) 0 121 (long_info (0x4C ∷ 0 ∷ []))
    ∷ writes (with_further (long_info []) (place 118 2)) (long_info []) (lent 121) 10 0 (lent 121)
    ∷ writes (with_further short_info (place 0 1)) short_info (lent 200) 11 0 (lent 200)
    ∷ writes (with_further short_info (place 109 0)) short_info (lent 109) 0 109 short_info
    ∷ writes (with_further short_info (place 110 0)) short_info (lent 109) 10 0 (lent 109)
    ∷ writes (with_further Z (place 110 9)) Z (lent 80) 0 80 Z
    ∷ reads (long_info eight) 0 127
    ∷ []

pub rows_hold : all_hold Strict rows && all_hold NinetyFive rows ≡ true
unfolding all_hold holds number number_at little units before_zero put number_of answer_number answer_value identifier_ok signed item_tests slot_of size_fits inside_tests blocks_from sections shortcut reading present placed contents bits header_bytes items_bytes volume_bytes network_bytes info_bytes bytes_of_string canonical writable writing output_of write_answer write_output listing
rows_hold = refl
