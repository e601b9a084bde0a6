-- FORMAT: Network link.
use Rattle.std.specs.Prelude.{ℕ, ◌+◌, List, [], ◌∷◌, ◌++◌, Bool, true, false, not, ◌||◌, cond, take, drop, leb, ltb}
use Rattle.octets.specs.Numbers.{u32_at}
use Rattle.format.specs.declared.Network.{Network}
use Rattle.format.specs.declared.Fault.TheVariants.{Piece as PIECE}
use Rattle.format.specs.Tests.{Test, ◌else◌at◌, no_place}
use Rattle.format.specs.Pieces.{Piece, text_piece, text_place, struct_tests, absent_zero, uncut, piece_tests}
use Rattle.format.specs.Presence.{device_there, provider_there, device_unicode_there}

-- In what follows v is the network link's own bytes.
abbrev pub network_flags : List ℕ → ℕ
network_flags v = u32_at v 4

-- Device names are present by bit 0
abbrev pub has_device : List ℕ → Bool
has_device v = device_there (network_flags v)

-- a NetNameOffset of more than 0x14 leaves room for two offset fields, at 20 and 24: the Unicode names
abbrev pub network_unicode : List ℕ → Bool
network_unicode v = ltb 0x14 (u32_at v 8)

abbrev pub has_device_unicode : List ℕ → Bool
has_device_unicode v = device_unicode_there (network_unicode v) (network_flags v)

-- the head ends after the last offset field
abbrev pub network_head : Bool → ℕ
network_head unicode = cond unicode 0x1C 0x14

abbrev pub network_size : List ℕ → ℕ
network_size s = u32_at s 0

abbrev pub network_pieces : List ℕ → List Piece
network_pieces v =
    text_piece true false v 8 (u32_at v 8)
    ∷ text_piece (has_device v) false v 12 (u32_at v 12)
    ∷ text_piece (network_unicode v) true v 20 (u32_at v 20)
    ∷ text_piece (has_device_unicode v) true v 24 (u32_at v 24)
    ∷ []

-- flags, NetNameOffset, the two Unicode offset fields inside the declared size, then the offsets of device names that are not there
abbrev pub network_head_tests : List ℕ → List Test
network_head_tests v =
    leb (network_flags v) 3 else PIECE at 4
    ∷ leb 0x14 (u32_at v 8) else PIECE at 8
    ∷ uncut (network_unicode v) 0x18 v else PIECE at 20
    ∷ uncut (network_unicode v) 0x1C v else PIECE at 24
    ∷ absent_zero (has_device v) (u32_at v 12) else PIECE at 12
    ∷ (not (network_unicode v) || absent_zero (has_device v) (u32_at v 24)) else PIECE at 24
    ∷ []

-- then those of its strings
abbrev pub network_rules : List ℕ → List Test
network_rules v = network_head_tests v ++ piece_tests (network_head (network_unicode v)) (network_pieces v)

-- s is LinkInfo's bytes from the network link on, to which the field at i leads by the offset o; size at least 0x14
abbrev pub network_tests : ℕ → ℕ → List ℕ → List Test
network_tests i o s = struct_tests i o 0x14 network_rules s

abbrev pub network_piece : Bool → List ℕ → ℕ → ℕ → Piece
network_piece present l i o =
    record { present = present; field = i; offset = o; own = network_tests i o (drop o l); size = network_size (drop o l) }

abbrev pub no_network : Network
no_network = record {
  flags = 0;
  provider = 0;
  unicode = false;
  net = no_place;
  device = no_place;
  net_unicode = no_place;
  device_unicode = no_place;
}

-- v starts at p in the file; without bit 1 the provider type at 16 is no more than an absent part (house: with it, every value is good)
abbrev pub network_fields : ℕ → List ℕ → Network
network_fields p v = record {
  flags = network_flags v;
  provider = cond (provider_there (network_flags v)) (u32_at v 16) 0;
  unicode = network_unicode v;
  net = text_place true false p v (u32_at v 8);
  device = text_place (has_device v) false p v (u32_at v 12);
  net_unicode = text_place (network_unicode v) true p v (u32_at v 20);
  device_unicode = text_place (has_device_unicode v) true p v (u32_at v 24);
}

-- l starts at p in the file
abbrev pub network_at : Bool → ℕ → List ℕ → ℕ → Network
network_at present p l o = cond present (network_fields (p + o) (take (network_size (drop o l)) (drop o l))) no_network
