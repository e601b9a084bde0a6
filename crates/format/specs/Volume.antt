-- FORMAT: VolumeID.
use Rattle.std.specs.Prelude.{ℕ, ◌+◌, List, ◌∷◌, Bool, true, false, cond, take, drop, leb, eqb}
use Rattle.octets.specs.Numbers.{u32_at}
use Rattle.format.specs.declared.Place.{Place}
use Rattle.format.specs.declared.Label.{Label}
use Rattle.format.specs.declared.Label.TheVariants.{Byte, Unicode}
use Rattle.format.specs.declared.Volume.{Volume}
use Rattle.format.specs.declared.Fault.TheVariants.{Piece as PIECE}
use Rattle.format.specs.Tests.{Test, ◌else◌at◌, place, no_place}
use Rattle.format.specs.Pieces.{Piece, text_piece, text_length, struct_tests, uncut, tests_of}

-- In what follows v is VolumeID's own bytes.
-- 0x14 at 12 is no offset: it says that the label is Unicode and has its offset at 16. Every other number there is a byte label's offset
abbrev pub label_unicode : List ℕ → Bool
label_unicode v = eqb (u32_at v 12) 0x14

abbrev pub label_field : List ℕ → ℕ
label_field v = cond (label_unicode v) 16 12

abbrev pub label_offset : List ℕ → ℕ
label_offset v = u32_at v (label_field v)

-- the label's least offset, where the offset fields end: 0x14 if it is Unicode, else 0x10
abbrev pub label_least : Bool → ℕ
label_least unicode = cond unicode 0x14 0x10

abbrev pub volume_size : List ℕ → ℕ
volume_size s = u32_at s 0

-- drive type at 4, 0 to 6; the field at 16, if it is used, and the label with its terminator after the offset fields lie inside the declared size
abbrev pub volume_rules : List ℕ → List Test
volume_rules v =
    leb (u32_at v 4) 6 else PIECE at 4
    ∷ uncut (label_unicode v) 0x14 v else PIECE at 16
    ∷ tests_of (label_least (label_unicode v)) (text_piece true (label_unicode v) v (label_field v) (label_offset v))

-- s is LinkInfo's bytes from VolumeID on, to which the field at i leads by the offset o; size at least 0x11
abbrev pub volume_tests : ℕ → ℕ → List ℕ → List Test
volume_tests i o s = struct_tests i o 0x11 volume_rules s

-- a structure counts with its declared size
abbrev pub volume_piece : Bool → List ℕ → ℕ → ℕ → Piece
volume_piece present l i o =
    record { present = present; field = i; offset = o; own = volume_tests i o (drop o l); size = volume_size (drop o l) }

abbrev pub label_of : Bool → Place → Label
label_of unicode b = cond unicode (Unicode b) (Byte b)

abbrev pub label_place : Label → Place
label_place (Byte b) = b
label_place (Unicode b) = b

abbrev pub label_kind : Label → Bool
label_kind (Byte b) = false
label_kind (Unicode b) = true

abbrev pub no_volume : Volume
no_volume = record { drive = 0; serial = 0; label = Byte no_place }

-- v starts at p in the file
abbrev pub volume_fields : ℕ → List ℕ → Volume
volume_fields p v = record {
  drive = u32_at v 4;
  serial = u32_at v 8;
  label = label_of (label_unicode v) (place (p + label_offset v) (text_length (label_unicode v) (drop (label_offset v) v)));
}

-- l starts at p in the file
abbrev pub volume_at : Bool → ℕ → List ℕ → ℕ → Volume
volume_at present p l o = cond present (volume_fields (p + o) (take (volume_size (drop o l)) (drop o l))) no_volume
