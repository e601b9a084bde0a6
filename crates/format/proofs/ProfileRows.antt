-- Small shortcuts with leftovers and with attribute bit 15, under each profile, by computation.
use mathlib.Core.Path.{◌≡◌, refl}
use mathlib.Core.List.{List, [], ◌∷◌, ◌++◌}
use mathlib.Core.Bool.{true, ◌&&◌}
use Prim.Native.Nat.{ℕ, ◌/◌, ◌%◌}
use lib.ListN.{length, set}
use Rattle.octets.specs.Numbers.{number, number_at, little}
use Rattle.octets.specs.Characters.{units, before_zero}
use Rattle.octets.specs.Parts.{put}
use Rattle.format.specs.declared.Profile.{Profile}
use Rattle.format.specs.declared.Profile.TheVariants.{Strict, NinetyFive}
use Rattle.format.specs.declared.Fault.TheVariants.{Head as HEAD, Info as INFO, Unwritable as UNWRITABLE}
use Rattle.format.specs.Tests.{Outcome, got, refused, section, spot_at}
use Rattle.format.specs.Numbers.{number_of, answer_number, answer_value}
use Rattle.format.specs.Header.{identifier_ok, signed}
use Rattle.format.specs.Items.{item_tests}
use Rattle.format.specs.Store.{part_tests, is_named, store_tests}
use Rattle.format.specs.Blocks.{slot_of, size_fits, inside_tests, blocks_from}
use Rattle.format.specs.Shortcut.{sections, shortcut, reading}
use Rattle.format.specs.Bodies.{placed}
use Rattle.format.specs.Contents.{present, contents}
use Rattle.format.specs.Writing.{bits, header_bytes, items_bytes, volume_bytes, network_bytes, info_bytes, bytes_of_string, canonical, writable, writing, output_of, write_answer, write_output}
use Rattle.format.specs.Listing.{listing}
use Rattle.format.specs.PathWriting.{path_block, blocks_in, with_block, with_path, path_writing, path_answer}
use Rattle.format.specs.Codepage.{windows1252, unit_of, byte_of, to_units, to_bytes}
use Rattle.format.specs.Moving.{in_unicode, in_bytes, moving, to_unicode, to_byte_strings}
use Rattle.format.specs.Probes.{Probe, reads, writes, holds, all_hold, zeros, with_section, lent}
use Rattle.format.specs.Verdicts.{Verdict, refused_at}
use Rattle.std.specs.Prelude.{Ok}

-- Z with these attributes
abbrev attributed : ℕ → List ℕ
attributed a = set (set (set (with_section 0 []) 24 (a % 256)) 25 (a / 256 % 256)) 26 (a / 65536)

-- a LinkInfo without parts but its suffix, whose offset fields of absent parts hold these
abbrev leftovers : ℕ → ℕ → ℕ → List ℕ
leftovers volume local network = with_section 2 (little 4 0x1D ++ little 4 0x1C ++ little 4 0 ++ little 4 volume ++ little 4 local ++ little 4 network ++ little 4 0x1C ++ zeros 1)

-- the same with the long head
abbrev long_leftover : ℕ → ℕ → List ℕ
long_leftover suffix local_unicode = with_section 2 (little 4 0x27 ++ little 4 0x24 ++ zeros 16 ++ little 4 suffix ++ little 4 local_unicode ++ little 4 0x25 ++ zeros 3)

-- a network link without a device, whose own offset of the device name holds this
abbrev device : ℕ → List ℕ
device o = with_section 2 (little 4 0x32 ++ little 4 0x1C ++ little 4 2 ++ zeros 8 ++ little 4 0x1C ++ little 4 0x31 ++ (little 4 0x15 ++ zeros 4 ++ little 4 0x14 ++ little 4 o ++ zeros 4 ++ zeros 1) ++ zeros 1)

-- the header's field, then LinkInfo's four; as offsets the leftovers lead nowhere, or to where the suffix stands
abbrev pub strict_rows : List Probe
strict_rows =
    reads (attributed 0x8000) 4 24
    ∷ reads (attributed 0x8020) 4 24
    ∷ reads (leftovers 0xFFFFFFFF 0 0) 6 88
    ∷ reads (leftovers 0 1 0) 6 92
    ∷ reads (leftovers 0 0 0x1C) 6 96
    ∷ reads (leftovers 0x1C 0x1C 0x1C) 6 88
    ∷ reads (long_leftover 0x24 0x24) 6 104
    ∷ reads (device 0x14) 7 116
    ∷ writes (reading NinetyFive (attributed 0x8000)).held (attributed 0x8000) (lent 80) 11 0 (lent 80)
    ∷ []

-- bit 15 alone is kept; the leftovers are no pieces and are written as zeros; the network link's own field and the suffix's are tested as before
abbrev pub rows95 : List Probe
rows95 =
    reads (attributed 0x8000) 0 80
    ∷ reads (attributed 0x8020) 0 80
    ∷ reads (attributed 0x8008) 4 24
    ∷ reads (attributed 0x8040) 4 24
    ∷ reads (attributed 0x10000) 4 24
    ∷ reads (leftovers 0xFFFFFFFF 0 0) 0 109
    ∷ reads (leftovers 0 1 0) 0 109
    ∷ reads (leftovers 0 0 0x1C) 0 109
    ∷ reads (leftovers 0x1C 0x1C 0x1C) 0 109
    ∷ reads (long_leftover 0x24 0x24) 0 119
    ∷ reads (long_leftover 0x23 0x24) 7 100
    ∷ reads (device 0x14) 7 116
    ∷ writes (reading NinetyFive (attributed 0x8000)).held (attributed 0x8000) (lent 80) 0 80 (attributed 0x8000)
    ∷ writes (reading NinetyFive (leftovers 0x1C 7 0xFFFFFFFF)).held (leftovers 0x1C 7 0xFFFFFFFF) (lent 109) 0 109 (leftovers 0 0 0)
    ∷ []

pub rows_hold : all_hold Strict strict_rows && all_hold NinetyFive rows95 ≡ true
unfolding all_hold holds number number_at little units before_zero put number_of answer_number answer_value identifier_ok signed item_tests slot_of size_fits inside_tests blocks_from sections shortcut reading present placed contents bits header_bytes items_bytes volume_bytes network_bytes info_bytes bytes_of_string canonical writable writing output_of write_answer write_output listing
rows_hold = refl

-- all of a shortcut, and how long it is
abbrev whole : List ℕ → Outcome (List ℕ)
whole s = got s (length s)

-- flag bit 7 beside LinkInfo's
abbrev in_units : List ℕ → List ℕ
in_units s = set s 20 0x82

-- a move keeps bit 15 and drops leftovers, there and home; a path block can be put beside bit 15 under 95 alone
pub call_rows : to_unicode Strict (attributed 0x8000) 80
    ∷ to_unicode NinetyFive (attributed 0x8000) 80
    ∷ to_unicode Strict (leftovers 0x1C 7 0xFFFFFFFF) 119
    ∷ to_unicode NinetyFive (leftovers 0x1C 7 0xFFFFFFFF) 119
    ∷ to_byte_strings Strict (in_units (long_leftover 0x24 0x24)) 109
    ∷ to_byte_strings NinetyFive (in_units (long_leftover 0x24 0x24)) 109
    ∷ []
    ≡ refused HEAD (spot_at (section 0 0) 24)
    ∷ whole (set (attributed 0x8000) 20 0x80)
    ∷ refused INFO (spot_at (section 2 76) 12)
    ∷ whole (in_units (long_leftover 0x24 0))
    ∷ refused INFO (spot_at (section 2 76) 28)
    ∷ whole (leftovers 0 0 0)
    ∷ []
unfolding number number_at little units before_zero identifier_ok signed item_tests slot_of size_fits inside_tests blocks_from sections shortcut present contents bits header_bytes items_bytes volume_bytes network_bytes info_bytes bytes_of_string canonical writable windows1252 unit_of byte_of to_units to_bytes in_unicode in_bytes moving to_unicode to_byte_strings
call_rows = refl

abbrev with_environment : Profile → Verdict
with_environment profile = path_answer profile (reading NinetyFive (attributed 0x8000)).held (attributed 0x8000) 0xA0000001 [] [] (lent 868)

pub path_rows : with_environment Strict ∷ with_environment NinetyFive ∷ [] ≡ refused_at UNWRITABLE 0 ∷ Ok 868 ∷ []
unfolding number number_at little units before_zero put identifier_ok signed item_tests part_tests is_named store_tests slot_of size_fits inside_tests blocks_from sections shortcut reading present placed contents bits header_bytes items_bytes volume_bytes network_bytes info_bytes bytes_of_string canonical writable path_block blocks_in with_block with_path path_writing path_answer
path_rows = refl
