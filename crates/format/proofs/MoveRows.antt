-- Small shortcuts moved there and back, by computation.
use mathlib.Core.Path.{◌≡◌, refl}
use mathlib.Core.List.{List, [], ◌∷◌, ◌++◌}
use Prim.Native.Nat.{ℕ, ◌+◌}
use lib.ListN.{length}
use Rattle.octets.specs.Numbers.{number, number_at, little}
use Rattle.octets.specs.Characters.{units, before_zero}
use Rattle.format.specs.declared.Profile.TheVariants.{Strict}
use Rattle.format.specs.declared.Fault.TheVariants.{Cut as CUT, Unwritable as UNWRITABLE, Room as ROOM, NoMap as NOMAP}
use Rattle.format.specs.Tests.{Outcome, got, refused, section, spot_at}
use Rattle.format.proofs.AnswerLaws.{nowhere}
use Rattle.format.specs.Header.{identifier_ok, signed}
use Rattle.format.specs.Items.{item_tests}
use Rattle.format.specs.Blocks.{slot_of, size_fits, inside_tests, blocks_from}
use Rattle.format.specs.Shortcut.{sections, shortcut}
use Rattle.format.specs.Contents.{present, contents}
use Rattle.format.specs.Writing.{bits, header_bytes, items_bytes, volume_bytes, network_bytes, info_bytes, bytes_of_string, canonical, writable}
use Rattle.format.specs.Codepage.{windows1252, unit_of, byte_of, to_units, to_bytes}
use Rattle.format.specs.Moving.{in_unicode, in_bytes, moving, to_unicode, to_byte_strings}
use Rattle.format.specs.Probes.{zeros, with_section, Z, dash_g1}

-- all of a shortcut, and how long it is
abbrev whole : List ℕ → Outcome (List ℕ)
whole s = got s (length s)

-- arguments of these bytes, and of these units
abbrev bytes : List ℕ → List ℕ
bytes x = with_section 0x20 (little 2 (length x) ++ x)

abbrev unicode : List ℕ → List ℕ
unicode x = with_section 0xA0 (little 2 (length (units x)) ++ x)

-- a drive without a label, 0x11 bytes; then the local path C and the suffix 80, the euro sign
abbrev drive : List ℕ
drive = little 4 0x11 ++ zeros 8 ++ little 4 0x10 ++ zeros 1 ++ 0x43 ∷ 0 ∷ 0x80 ∷ 0 ∷ []

-- LinkInfo around them, with the short head, and with a long one, these further bytes and these two Unicode texts
abbrev short : List ℕ
short = little 4 0x31 ++ little 4 0x1C ++ little 4 1 ++ little 4 0x1C ++ little 4 0x2D ++ zeros 4 ++ little 4 0x2F ++ drive

abbrev longer : List ℕ → List ℕ → List ℕ
longer x texts =
    let from : ℕ → List ℕ = λ o. little 4 (length x + o) in
    from 0x41 ++ from 0x24 ++ little 4 1 ++ from 0x24 ++ from 0x35 ++ zeros 4 ++ from 0x37 ++ from 0x39 ++ from 0x3D ++ x ++ drive ++ texts

abbrev long : List ℕ → List ℕ
long = longer []

-- a vendor's two bytes
abbrev two : List ℕ
two = 0x81 ∷ 0 ∷ []

abbrev translated : List ℕ
translated = 0x43 ∷ 0 ∷ 0 ∷ 0 ∷ 0xAC ∷ 0x20 ∷ 0 ∷ 0 ∷ []

abbrev other : List ℕ
other = 0x43 ∷ 0 ∷ 0 ∷ 0 ∷ 0x80 ∷ 0 ∷ 0 ∷ 0 ∷ []

-- Z; P9's arguments, and into a room one too small; a euro sign and a zero; 9F and FF; an unassigned byte; flag bit 7 set; LinkInfo with the short head;
-- with the long one, which stays, its further bytes too; a shortcut cut short
pub unicode_rows : to_unicode Strict Z 80
    ∷ to_unicode Strict (bytes (0x2D ∷ 0x67 ∷ 0x31 ∷ [])) 88
    ∷ to_unicode Strict (bytes (0x2D ∷ 0x67 ∷ 0x31 ∷ [])) 87
    ∷ to_unicode Strict (bytes (0x80 ∷ 0x00 ∷ [])) 100
    ∷ to_unicode Strict (bytes (0x9F ∷ 0xFF ∷ [])) 100
    ∷ to_unicode Strict (bytes (0x41 ∷ 0x81 ∷ [])) 100
    ∷ to_unicode Strict (with_section 0xA0 dash_g1) 100
    ∷ to_unicode Strict (with_section 2 short) 200
    ∷ to_unicode Strict (with_section 2 (long other)) 200
    ∷ to_unicode Strict (with_section 2 (longer two other)) 200
    ∷ to_unicode Strict (with_section 0x20 (0x09 ∷ 0x00 ∷ 0x2D ∷ [])) 100
    ∷ []
    ≡ whole (with_section 0x80 [])
    ∷ whole (with_section 0xA0 dash_g1)
    ∷ refused ROOM nowhere
    ∷ whole (unicode (0xAC ∷ 0x20 ∷ 0x00 ∷ 0x00 ∷ []))
    ∷ whole (unicode (0x78 ∷ 0x01 ∷ 0xFF ∷ 0x00 ∷ []))
    ∷ refused NOMAP nowhere
    ∷ refused NOMAP nowhere
    ∷ whole (with_section 0x82 (long translated))
    ∷ whole (with_section 0x82 (long other))
    ∷ whole (with_section 0x82 (longer two other))
    ∷ refused CUT (spot_at (section 6 76) 0)
    ∷ []
unfolding number number_at little units before_zero identifier_ok signed item_tests slot_of size_fits inside_tests blocks_from sections shortcut present contents bits header_bytes items_bytes volume_bytes network_bytes info_bytes bytes_of_string canonical writable windows1252 unit_of byte_of to_units to_bytes in_unicode in_bytes moving to_unicode to_byte_strings
unicode_rows = refl

-- the way back of the same; units that no byte has, the mark among them; flag bit 7 clear; a Unicode text that differs; further bytes, without room too,
-- and with a text that differs, which comes first
pub bytes_rows : to_byte_strings Strict (with_section 0x80 []) 80
    ∷ to_byte_strings Strict (with_section 0xA0 dash_g1) 85
    ∷ to_byte_strings Strict (with_section 0xA0 dash_g1) 84
    ∷ to_byte_strings Strict (unicode (0xAC ∷ 0x20 ∷ 0x00 ∷ 0x00 ∷ [])) 100
    ∷ to_byte_strings Strict (unicode (0x78 ∷ 0x01 ∷ 0xFF ∷ 0x00 ∷ [])) 100
    ∷ to_byte_strings Strict (unicode (0x81 ∷ 0x00 ∷ [])) 100
    ∷ to_byte_strings Strict (unicode (0xFF ∷ 0xFF ∷ [])) 100
    ∷ to_byte_strings Strict (unicode (0x00 ∷ 0x01 ∷ [])) 100
    ∷ to_byte_strings Strict Z 100
    ∷ to_byte_strings Strict (with_section 0x82 (long translated)) 200
    ∷ to_byte_strings Strict (with_section 0x82 (long other)) 200
    ∷ to_byte_strings Strict (with_section 0x82 short) 200
    ∷ to_byte_strings Strict (with_section 0x82 (longer two translated)) 200
    ∷ to_byte_strings Strict (with_section 0x82 (longer two translated)) 0
    ∷ to_byte_strings Strict (with_section 0x82 (longer two other)) 200
    ∷ []
    ≡ whole Z
    ∷ whole (bytes (0x2D ∷ 0x67 ∷ 0x31 ∷ []))
    ∷ refused ROOM nowhere
    ∷ whole (bytes (0x80 ∷ 0x00 ∷ []))
    ∷ whole (bytes (0x9F ∷ 0xFF ∷ []))
    ∷ refused NOMAP nowhere
    ∷ refused NOMAP nowhere
    ∷ refused NOMAP nowhere
    ∷ refused NOMAP nowhere
    ∷ whole (with_section 2 short)
    ∷ refused NOMAP nowhere
    ∷ whole (with_section 2 short)
    ∷ refused UNWRITABLE nowhere
    ∷ refused UNWRITABLE nowhere
    ∷ refused NOMAP nowhere
    ∷ []
unfolding number number_at little units before_zero identifier_ok signed item_tests slot_of size_fits inside_tests blocks_from sections shortcut present contents bits header_bytes items_bytes volume_bytes network_bytes info_bytes bytes_of_string canonical writable windows1252 unit_of byte_of to_units to_bytes in_unicode in_bytes moving to_unicode to_byte_strings
bytes_rows = refl
