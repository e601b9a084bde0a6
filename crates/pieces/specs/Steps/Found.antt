-- What the functions of this crate find: what format's definitions say, where the tests hold; else the field of the first that fails.
use Rattle.std.specs.Prelude.{ℕ, ◌+◌, ◌≤◌, ◌≡◌, List, [], ◌∷◌, Bool, cond, length, take, drop, leb, Option, Some, None, Result, Ok, Err}
use Rattle.octets.specs.Numbers.{u32_at}
use Rattle.format.specs.declared.Place.{Place}
use Rattle.format.specs.declared.Network.{Network}
use Rattle.format.specs.declared.Fault.TheVariants.{Piece as PIECE}
use Rattle.format.specs.Tests.{Test, ◌else◌at◌, all, place}
use Rattle.format.specs.Numbers.{number_of}
use Rattle.format.specs.Steps.Wrong.{given}
use Rattle.format.specs.Pieces.{Piece, text_length, text_piece, struct_tests, tests_of, span, apart_tests}
use Rattle.format.specs.Volume.{volume_size, volume_piece, label_unicode, label_offset, volume_rules}
use Rattle.format.specs.Network.{network_size, network_rules, network_piece, network_fields}
use Rattle.pieces.specs.declared.Found.{Found}
use Rattle.pieces.specs.declared.NetworkTexts.{NetworkTexts}

-- a place that a file can hold, so that its end does not wrap
abbrev pub EndSmall : Place → Type 0
EndSmall x = x.at + x.len ≤ 65536

-- a field that is there, or 0
unfoldable pub field_if : Bool → List ℕ → ℕ → ℕ
field_if there l i = cond there (u32_at l i) 0

-- ---- a piece and what it says

abbrev pub piece_ok : ℕ → Piece → Bool
piece_ok head x = all (tests_of head x)

abbrev pub found : {A : Type 0} → Place → A → Found A
found x a = record { span = x; body = a }

-- its bytes, and what it says, a; or its first field at fault
abbrev pub piece_found : {A : Type 0} → ℕ → Piece → A → Result (Found A) ℕ
piece_found head x a = given (tests_of head x) (found (span x) a)

-- how many bytes the body of a string has; none where it is absent
abbrev pub body_length : Bool → Bool → List ℕ → ℕ → ℕ
body_length present unicode l o = cond present (text_length unicode (drop o l)) 0

-- the string at the offset o, where it passes its tests: whether it does is the same whichever field leads there
unfoldable pub text_found : Bool → Bool → List ℕ → ℕ → ℕ → Option (Found ℕ)
text_found present unicode l head o =
    cond (piece_ok head (text_piece present unicode l 0 o)) (Some (found (span (text_piece present unicode l 0 o)) (body_length present unicode l o))) None

-- of VolumeID's own bytes v
abbrev pub label_length : List ℕ → ℕ
label_length v = text_length (label_unicode v) (drop (label_offset v) v)

-- of VolumeID at the offset o
abbrev pub label_bytes : Bool → List ℕ → ℕ → ℕ
label_bytes present l o = cond present (label_length (take (volume_size (drop o l)) (drop o l))) 0

unfoldable pub volume_found : Bool → List ℕ → ℕ → Result (Found ℕ) ℕ
volume_found present l head = piece_found head (volume_piece present l 12 (u32_at l 12)) (label_bytes present l (u32_at l 12))

-- the lengths of a network link's bodies, in the order of the slots
abbrev pub network_lengths : Network → List ℕ
network_lengths n = n.net.len ∷ n.device.len ∷ n.net_unicode.len ∷ n.device_unicode.len ∷ []

abbrev pub no_texts : NetworkTexts
no_texts = record { net = 0; device = 0; net_unicode = 0; device_unicode = 0 }

-- the lengths of what the network link's own bytes v say
abbrev pub network_texts_in : List ℕ → NetworkTexts
network_texts_in v =
    let n = network_fields 0 v in
    record { net = n.net.len; device = n.device.len; net_unicode = n.net_unicode.len; device_unicode = n.device_unicode.len }

abbrev pub network_texts : Bool → List ℕ → ℕ → NetworkTexts
network_texts present l o = cond present (network_texts_in (take (network_size (drop o l)) (drop o l))) no_texts

unfoldable pub network_found : Bool → List ℕ → ℕ → Result (Found NetworkTexts) ℕ
network_found present l head = piece_found head (network_piece present l 20 (u32_at l 20)) (network_texts present l (u32_at l 20))

-- ---- structures

-- that a structure starts after the head and its size is right, before its own rules
abbrev pub frame_tests : List ℕ → ℕ → ℕ → ℕ → ℕ → List Test
frame_tests l head least i o = leb head o else PIECE at i ∷ struct_tests i o least (λ v. []) (drop o l)

-- where the structure at the offset o ends, to which the field at i leads
abbrev pub end_at : List ℕ → ℕ → ℕ → ℕ → ℕ → Result ℕ ℕ
end_at l head least i o = given (frame_tests l head least i o) (o + u32_at (drop o l) 0)

-- a structure that ends inside l: o is what the field at i holds, and v its own bytes
pub record OwnPart (l : List ℕ) (head least i o : ℕ) (v : List ℕ) : Type 0 where
  pub offset : o ≡ u32_at l i
  pub bytes : v ≡ take (u32_at (drop o l) 0) (drop o l)
  pub ends : end_at l head least i o ≡ Ok (o + length v)
  pub inside : o + length v ≤ length l
  pub enough : least ≤ length v

-- what n bytes at the offset o of it say, as the piece that they are
unfoldable pub placed : {A : Type 0} → ℕ → ℕ → Result A ℕ → Result (Found A) ℕ
placed o n (Ok a) = Ok (found (place o n) a)
placed o n (Err i) = Err (o + i)

unfoldable pub volume_in : List ℕ → Result ℕ ℕ
volume_in v = given (volume_rules v) (label_length v)

-- none of the four shares a byte with one before it; the field at `second` leads to b
unfoldable pub four_apart : ℕ → Place → Place → Place → Place → Result (Unit {0}) ℕ
four_apart second a b c d = given (apart_tests [] ((0, a) ∷ (second, b) ∷ (20, c) ∷ (24, d) ∷ [])) tt

-- the same of LinkInfo's six
unfoldable pub six_apart : Place → Place → Place → Place → Place → Place → Result (Unit {0}) ℕ
six_apart a b c d e f = given (apart_tests [] ((12, a) ∷ (16, b) ∷ (20, c) ∷ (24, d) ∷ (28, e) ∷ (32, f) ∷ [])) tt

unfoldable pub network_in : List ℕ → Result NetworkTexts ℕ
network_in v = given (network_rules v) (network_texts_in v)

-- ---- numbers and values of the answers

unfoldable pub end_number : Result ℕ ℕ → ℕ
end_number (Ok e) = 0
end_number (Err i) = number_of PIECE

-- where the structure ends, or the field at fault
unfoldable pub end_value : Result ℕ ℕ → ℕ
end_value (Ok e) = e
end_value (Err i) = i

unfoldable pub volume_number : Result ℕ ℕ → ℕ
volume_number (Ok n) = 0
volume_number (Err i) = number_of PIECE

-- the field at fault, of these two
unfoldable pub volume_value : Result ℕ ℕ → ℕ
volume_value (Ok n) = 0
volume_value (Err i) = i

unfoldable pub network_number : Result NetworkTexts ℕ → ℕ
network_number (Ok n) = 0
network_number (Err i) = number_of PIECE

unfoldable pub network_value : Result NetworkTexts ℕ → ℕ
network_value (Ok n) = 0
network_value (Err i) = i
