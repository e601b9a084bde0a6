-- FORMAT: LinkInfo.
use Rattle.std.specs.Prelude.{ℕ, ◌+◌, ◌-◌, List, [], ◌∷◌, ◌++◌, Bool, true, false, not, ◌&&◌, ◌||◌, cond, length, take, leb, eqb}
use Rattle.octets.specs.Numbers.{u32_at}
use Rattle.format.specs.declared.Profile.{Profile}
use Rattle.format.specs.declared.Profile.TheVariants.{Strict, NinetyFive}
use Rattle.format.specs.declared.Place.{Place}
use Rattle.format.specs.declared.Info.{Info}
use Rattle.format.specs.declared.Link.{Link}
use Rattle.format.specs.declared.Fault.TheVariants.{Cut as CUT, Info as INFO}
use Rattle.format.specs.Tests.{Test, ◌else◌at◌, section, tests, got, Reader, place, no_place}
use Rattle.format.specs.Presence.{local_there, network_there, local_unicode_there}
use Rattle.format.specs.Pieces.{Piece, text_piece, text_place, absent_zero, piece_tests}
use Rattle.format.specs.Volume.{volume_piece, volume_at, no_volume, label_place, label_kind}
use Rattle.format.specs.Network.{network_piece, network_at, no_network}

abbrev pub info_size : List ℕ → ℕ
info_size s = u32_at s 0

-- In what follows l is LinkInfo's own bytes, from its start to its declared end.
abbrev pub info_head : List ℕ → ℕ
info_head l = u32_at l 4

abbrev pub long_head : List ℕ → Bool
long_head l = leb 0x24 (info_head l)

-- a head is short, 0x1C bytes, or long, 0x24 and more, and then no longer than LinkInfo
abbrev pub head_ok : List ℕ → Bool
head_ok l = eqb (info_head l) 0x1C || (long_head l && leb (info_head l) (length l))

abbrev pub info_flags : List ℕ → ℕ
info_flags l = u32_at l 8

-- bit 0 tells of VolumeID and local path, bit 1 of the network link; the suffix is there with every LinkInfo
abbrev pub has_local : List ℕ → Bool
has_local l = local_there (info_flags l)

abbrev pub has_network : List ℕ → Bool
has_network l = network_there (info_flags l)

abbrev pub has_local_unicode : List ℕ → Bool
has_local_unicode l = local_unicode_there (long_head l) (info_flags l)

-- a long head brings the Unicode suffix and, with bit 0, the Unicode local path (house); its bytes after the first 0x24 are kept, and no rule looks at them.
-- Offset fields: VolumeID at 12, LocalBasePath 16, network link 20, CommonPathSuffix 24; with a long head LocalBasePathUnicode 28, CommonPathSuffixUnicode 32
abbrev pub info_pieces : List ℕ → List Piece
info_pieces l =
    volume_piece (has_local l) l 12 (u32_at l 12)
    ∷ text_piece (has_local l) false l 16 (u32_at l 16)
    ∷ network_piece (has_network l) l 20 (u32_at l 20)
    ∷ text_piece true false l 24 (u32_at l 24)
    ∷ text_piece (has_local_unicode l) true l 28 (u32_at l 28)
    ∷ text_piece (long_head l) true l 32 (u32_at l 32)
    ∷ []

-- the offset field of an absent part is 0; under 95 it is ignored
abbrev pub leftover_ok : Profile → Bool → ℕ → Bool
leftover_ok Strict present o = absent_zero present o
leftover_ok NinetyFive present o = true

-- the fixed head, INFO: its size, its flags, then the offset fields of absent parts
abbrev pub info_head_tests : Profile → List ℕ → List Test
info_head_tests profile l =
    head_ok l else INFO at 4
    ∷ leb (info_flags l) 3 else INFO at 8
    ∷ leftover_ok profile (has_local l) (u32_at l 12) else INFO at 12
    ∷ leftover_ok profile (has_local l) (u32_at l 16) else INFO at 16
    ∷ leftover_ok profile (has_network l) (u32_at l 20) else INFO at 20
    ∷ (not (long_head l) || leftover_ok profile (has_local l) (u32_at l 28)) else INFO at 28
    ∷ []

-- then the pieces' tests, PIECE
abbrev pub info_rules : Profile → List ℕ → List Test
info_rules profile l = info_head_tests profile l ++ piece_tests (info_head l) (info_pieces l)

abbrev pub no_info : Info
no_info = record {
  flags = 0;
  long = false;
  volume = no_volume;
  local = no_place;
  network = no_network;
  suffix = no_place;
  local_unicode = no_place;
  suffix_unicode = no_place;
  further = no_place;
}

-- where the bytes of a long head that come after the first 0x24 stand in the file, in which l starts at p; zeros with a short head
abbrev pub further_place : ℕ → List ℕ → Place
further_place p l = cond (long_head l) (place (p + 0x24) (info_head l - 0x24)) no_place

-- l starts at p in the file
abbrev pub info_fields : ℕ → List ℕ → Info
info_fields p l = record {
  flags = info_flags l;
  long = long_head l;
  volume = volume_at (has_local l) p l (u32_at l 12);
  local = text_place (has_local l) false p l (u32_at l 16);
  network = network_at (has_network l) p l (u32_at l 20);
  suffix = text_place true false p l (u32_at l 24);
  local_unicode = text_place (has_local_unicode l) true p l (u32_at l 28);
  suffix_unicode = text_place (long_head l) true p l (u32_at l 32);
  further = further_place p l;
}

-- the size field is there (CUT), holds no less than a short head (INFO) and no more than is left (CUT); then the rules
abbrev pub info : Profile → Reader Info
info profile p s =
    tests (section 2 p)
    (leb 4 (length s) else CUT at 0
    ∷ leb 0x1C (info_size s) else INFO at 0
    ∷ leb (info_size s) (length s) else CUT at 0
    ∷ info_rules profile (take (info_size s) s))
    (got (info_fields p (take (info_size s) s)) (info_size s))

-- ---- what the record holds of it: its numbers and kinds, and its texts' places in the order of the slots

abbrev pub link_of : Info → Link
link_of i = record {
  flags = i.flags;
  long = i.long;
  drive = i.volume.drive;
  serial = i.volume.serial;
  label_unicode = label_kind i.volume.label;
  network_flags = i.network.flags;
  provider = i.network.provider;
  network_unicode = i.network.unicode;
}

abbrev pub info_places : Info → List Place
info_places i =
    label_place i.volume.label
    ∷ i.local
    ∷ i.network.net
    ∷ i.network.device
    ∷ i.network.net_unicode
    ∷ i.network.device_unicode
    ∷ i.suffix
    ∷ i.local_unicode
    ∷ i.suffix_unicode
    ∷ []
