-- The tests of each list, and the conditions of what can be written, by name, and both ways between the names and the list: whoever uses one picks it by its name.
use mathlib.Core.Path.{◌≡◌, refl, ap}
use mathlib.Core.List.{List, [], ◌∷◌, map}
use mathlib.Core.Bool.{true, false, not, ◌||◌}
use Prim.Native.Nat.{ℕ, ◌≤◌}
use lib.ListN.{length, take, drop}
use lib.Dec.{leb}
use borrow.Author.Tests.{leb-true, le-leb}
use Rattle.octets.specs.Numbers.{u16_at, u32_at}
use Rattle.format.specs.declared.Profile.{Profile}
use Rattle.format.specs.declared.Header.{Header}
use Rattle.format.specs.declared.Place.{Place}
use Rattle.format.specs.Tests.{Test}
use Rattle.format.specs.Header.{header_size_ok, identifier_ok, flags_ok, attributes_ok, zeros_from_66, header_rules}
use Rattle.format.specs.Hotkey.{hotkey_ok}
use Rattle.format.specs.Pieces.{Piece, text_ends, text_piece, struct_tests, absent_zero, uncut, tests_of, each_ok, span, led, apart_tests, piece_tests}
use Rattle.format.specs.Volume.{label_unicode, label_offset, label_least, volume_rules, volume_piece}
use Rattle.format.specs.Network.{network_flags, has_device, network_unicode, network_head, network_pieces, network_head_tests, network_piece, has_device_unicode}
use Rattle.format.specs.Info.{info_head, long_head, head_ok, info_flags, has_local, has_network, info_pieces, leftover_ok, info_head_tests, has_local_unicode}
use Rattle.format.specs.Presence.{local_there, network_there, local_unicode_there, device_there, device_unicode_there}
use Rattle.format.specs.Shortcut.{most}
use Rattle.format.specs.Contents.{NetworkContents, InfoContents, Contents}
use Rattle.format.specs.Writing.{every, canonical, writable, writable_if, writable_header, writable_text, writable_further, writable_link, writable_bodies}
use Rattle.format.specs.Steps.LinkInfo.{writable_volume, writable_network, writable_info}
use Rattle.format.proofs.Bools.{every_out, every_in}
use Rattle.format.proofs.Chains.{Pass, Pass-split, Pass-join, Pass-inside, inside-Pass}
use Rattle.format.proofs.Intervals.{all_apart, places_of, tests_apart, apart_tests_lem}

-- ---- the header

pub record HeaderHolds (profile : Profile) (l : List ℕ) : Type 0 where
  pub size : header_size_ok (u32_at l 0) ≡ true
  pub identifier : identifier_ok l ≡ true
  pub flags : flags_ok (u32_at l 20) ≡ true
  pub attributes : attributes_ok profile (u32_at l 24) ≡ true
  pub hotkey : hotkey_ok (u16_at l 64) ≡ true
  pub zeros : zeros_from_66 l ≡ true

pub header_holds : (profile : Profile) (l : List ℕ) → Pass (header_rules profile l) → HeaderHolds profile l
header_holds profile l (a, (b, (c, (d, (e, (f, z)))))) = record { size = a; identifier = b; flags = c; attributes = d; hotkey = e; zeros = f }

pub header_passes : (profile : Profile) (l : List ℕ) → HeaderHolds profile l → Pass (header_rules profile l)
header_passes profile l h = (h.size, (h.identifier, (h.flags, (h.attributes, (h.hotkey, (h.zeros, tt))))))

-- ---- a structure

pub record StructHolds (least : ℕ) (rules : List ℕ → List Test) (s : List ℕ) : Type 0 where
  pub field : 4 ≤ length s
  pub inside : u32_at s 0 ≤ length s
  pub enough : least ≤ u32_at s 0
  pub own : Pass (rules (take (u32_at s 0) s))

pub struct_holds : (i o least : ℕ) (rules : List ℕ → List Test) (s : List ℕ) → Pass (struct_tests i o least rules s) → StructHolds least rules s
struct_holds i o least rules s (a, (b, (c, d))) =
    record {
      field = leb-true 4 (length s) a;
      inside = leb-true (u32_at s 0) (length s) b;
      enough = leb-true least (u32_at s 0) c;
      own = inside-Pass o (rules (take (u32_at s 0) s)) d;
    }

pub struct_passes : (i o least : ℕ) (rules : List ℕ → List Test) (s : List ℕ) → StructHolds least rules s → Pass (struct_tests i o least rules s)
struct_passes i o least rules s h =
    (le-leb 4 (length s) h.field, (le-leb (u32_at s 0) (length s) h.inside, (le-leb least (u32_at s 0) h.enough, Pass-inside o (rules (take (u32_at s 0) s)) h.own)))

-- ---- pieces

-- each piece by itself
abbrev EachPass : ℕ → List Piece → Type 0
EachPass head [] = Unit {0}
EachPass head (x ∷ xs) = Pass (tests_of head x) × EachPass head xs

each_out : (head : ℕ) (xs : List Piece) → Pass (each_ok head xs) → EachPass head xs
each_out head [] c = tt
each_out head (x ∷ xs) c = let i = Pass-split (tests_of head x) (each_ok head xs) c in (i.0, each_out head xs i.1)

each_in : (head : ℕ) (xs : List Piece) → EachPass head xs → Pass (each_ok head xs)
each_in head [] h = tt
each_in head (x ∷ xs) h = Pass-join (tests_of head x) (each_ok head xs) h.0 (each_in head xs h.1)

spans : (xs : List Piece) → places_of (map led xs) ≡ map span xs
spans [] = refl
spans (x ∷ xs) = ap (λ (l : List Place). span x ∷ l) (spans xs)

pieces_out : (head : ℕ) (xs : List Piece) → Pass (piece_tests head xs) → EachPass head xs × (all_apart (map span xs) ≡ true)
pieces_out head xs c =
    let i = Pass-split (each_ok head xs) (apart_tests [] (map led xs)) c in
    (each_out head xs i.0, rw spans at (tests_apart [] (map led xs) i.1).1)

pieces_in : (head : ℕ) (xs : List Piece) → EachPass head xs → all_apart (map span xs) ≡ true → Pass (piece_tests head xs)
pieces_in head xs h e = Pass-join (each_ok head xs) (apart_tests [] (map led xs)) (each_in head xs h) (apart_tests_lem [] (map led xs) tt (rw spans e))

-- ---- VolumeID

pub record VolumeHolds (v : List ℕ) : Type 0 where
  pub drive : leb (u32_at v 4) 6 ≡ true
  pub offset_field : uncut (label_unicode v) 0x14 v ≡ true
  pub start : leb (label_least (label_unicode v)) (label_offset v) ≡ true
  pub ends : text_ends (label_unicode v) (drop (label_offset v) v) ≡ true

pub volume_holds : (v : List ℕ) → Pass (volume_rules v) → VolumeHolds v
volume_holds v (a, (b, (c, (d, z)))) = record { drive = a; offset_field = b; start = c; ends = d }

pub volume_passes : (v : List ℕ) → VolumeHolds v → Pass (volume_rules v)
volume_passes v h = (h.drive, (h.offset_field, (h.start, (h.ends, tt))))

-- ---- the network link

pub record NetworkHeadHolds (v : List ℕ) : Type 0 where
  pub flags : leb (network_flags v) 3 ≡ true
  pub net_offset : leb 0x14 (u32_at v 8) ≡ true
  pub net_unicode_field : uncut (network_unicode v) 0x18 v ≡ true
  pub device_unicode_field : uncut (network_unicode v) 0x1C v ≡ true
  pub device_offset : absent_zero (has_device v) (u32_at v 12) ≡ true
  pub device_unicode_offset : (not (network_unicode v) || absent_zero (has_device v) (u32_at v 24)) ≡ true

pub network_head_holds : (v : List ℕ) → Pass (network_head_tests v) → NetworkHeadHolds v
network_head_holds v (a, (b, (c, (d, (e, (f, z)))))) =
    record { flags = a; net_offset = b; net_unicode_field = c; device_unicode_field = d; device_offset = e; device_unicode_offset = f }

pub network_head_passes : (v : List ℕ) → NetworkHeadHolds v → Pass (network_head_tests v)
network_head_passes v h =
    (h.flags, (h.net_offset, (h.net_unicode_field, (h.device_unicode_field, (h.device_offset, (h.device_unicode_offset, tt))))))

pub record NetworkPiecesHold (v : List ℕ) : Type 0 where
  pub net : Pass (tests_of (network_head (network_unicode v)) (text_piece true false v 8 (u32_at v 8)))
  pub device : Pass (tests_of (network_head (network_unicode v)) (text_piece (has_device v) false v 12 (u32_at v 12)))
  pub net_unicode : Pass (tests_of (network_head (network_unicode v)) (text_piece (network_unicode v) true v 20 (u32_at v 20)))
  pub device_unicode : Pass (tests_of (network_head (network_unicode v)) (text_piece (has_device_unicode v) true v 24 (u32_at v 24)))
  pub apart : all_apart (map span (network_pieces v)) ≡ true

abbrev pub network_piece_tests : List ℕ → List Test
network_piece_tests v = piece_tests (network_head (network_unicode v)) (network_pieces v)

pub network_pieces_hold : (v : List ℕ) → Pass (network_piece_tests v) → NetworkPiecesHold v
network_pieces_hold v c =
    let ((a, (b, (d, (e, z)))), f) = pieces_out (network_head (network_unicode v)) (network_pieces v) c in
    record { net = a; device = b; net_unicode = d; device_unicode = e; apart = f }

pub network_pieces_Pass : (v : List ℕ) → NetworkPiecesHold v → Pass (network_piece_tests v)
network_pieces_Pass v h =
    pieces_in (network_head (network_unicode v)) (network_pieces v) (h.net, (h.device, (h.net_unicode, (h.device_unicode, tt)))) h.apart

-- ---- LinkInfo

pub record InfoHeadHolds (profile : Profile) (l : List ℕ) : Type 0 where
  pub head : head_ok l ≡ true
  pub flags : leb (info_flags l) 3 ≡ true
  pub volume_offset : leftover_ok profile (has_local l) (u32_at l 12) ≡ true
  pub local_offset : leftover_ok profile (has_local l) (u32_at l 16) ≡ true
  pub network_offset : leftover_ok profile (has_network l) (u32_at l 20) ≡ true
  pub local_unicode_offset : (not (long_head l) || leftover_ok profile (has_local l) (u32_at l 28)) ≡ true

pub info_head_holds : (profile : Profile) (l : List ℕ) → Pass (info_head_tests profile l) → InfoHeadHolds profile l
info_head_holds profile l (a, (b, (c, (d, (e, (f, z)))))) =
    record { head = a; flags = b; volume_offset = c; local_offset = d; network_offset = e; local_unicode_offset = f }

pub info_head_passes : (profile : Profile) (l : List ℕ) → InfoHeadHolds profile l → Pass (info_head_tests profile l)
info_head_passes profile l h = (h.head, (h.flags, (h.volume_offset, (h.local_offset, (h.network_offset, (h.local_unicode_offset, tt))))))

pub record InfoPiecesHold (l : List ℕ) : Type 0 where
  pub volume : Pass (tests_of (info_head l) (volume_piece (has_local l) l 12 (u32_at l 12)))
  pub local : Pass (tests_of (info_head l) (text_piece (has_local l) false l 16 (u32_at l 16)))
  pub network : Pass (tests_of (info_head l) (network_piece (has_network l) l 20 (u32_at l 20)))
  pub suffix : Pass (tests_of (info_head l) (text_piece true false l 24 (u32_at l 24)))
  pub local_unicode : Pass (tests_of (info_head l) (text_piece (has_local_unicode l) true l 28 (u32_at l 28)))
  pub suffix_unicode : Pass (tests_of (info_head l) (text_piece (long_head l) true l 32 (u32_at l 32)))
  pub apart : all_apart (map span (info_pieces l)) ≡ true

abbrev pub info_piece_tests : List ℕ → List Test
info_piece_tests l = piece_tests (info_head l) (info_pieces l)

pub info_pieces_hold : (l : List ℕ) → Pass (info_piece_tests l) → InfoPiecesHold l
info_pieces_hold l c =
    let ((a, (b, (d, (e, (f, (g, z)))))), h) = pieces_out (info_head l) (info_pieces l) c in
    record { volume = a; local = b; network = d; suffix = e; local_unicode = f; suffix_unicode = g; apart = h }

pub info_pieces_Pass : (l : List ℕ) → InfoPiecesHold l → Pass (info_piece_tests l)
info_pieces_Pass l h =
    pieces_in (info_head l) (info_pieces l) (h.volume, (h.local, (h.network, (h.suffix, (h.local_unicode, (h.suffix_unicode, tt)))))) h.apart

-- ---- what can be written

pub record HeaderWritable (profile : Profile) (h : Header) : Type 0 where
  pub flags : flags_ok h.flags ≡ true
  pub attributes : attributes_ok profile h.attributes ≡ true
  pub hotkey : hotkey_ok h.hotkey ≡ true

pub header_writable : (profile : Profile) (h : Header) → writable_header profile h ≡ true → HeaderWritable profile h
header_writable profile h e = let (a, (b, (c, z))) = every_out (_ ∷ _ ∷ _ ∷ []) e in record { flags = a; attributes = b; hotkey = c }

pub writable_header_lem : (profile : Profile) (h : Header) → HeaderWritable profile h → writable_header profile h ≡ true
writable_header_lem profile h w = every_in (_ ∷ _ ∷ _ ∷ []) (w.flags, (w.attributes, (w.hotkey, tt)))

pub record NetworkWritable (n : NetworkContents) : Type 0 where
  pub flags : leb n.flags 3 ≡ true
  pub net : writable_text false n.net ≡ true
  pub device : writable_if (device_there n.flags) (writable_text false) n.device ≡ true
  pub net_unicode : writable_if n.unicode (writable_text true) n.net_unicode ≡ true
  pub device_unicode : writable_if (device_unicode_there n.unicode n.flags) (writable_text true) n.device_unicode ≡ true

pub network_writable : (n : NetworkContents) → writable_network n ≡ true → NetworkWritable n
network_writable n e =
    let (a, (b, (c, (d, (f, z))))) = every_out (_ ∷ _ ∷ _ ∷ _ ∷ _ ∷ []) e in
    record { flags = a; net = b; device = c; net_unicode = d; device_unicode = f }

pub writable_network_lem : (n : NetworkContents) → NetworkWritable n → writable_network n ≡ true
writable_network_lem n w = every_in (_ ∷ _ ∷ _ ∷ _ ∷ _ ∷ []) (w.flags, (w.net, (w.device, (w.net_unicode, (w.device_unicode, tt)))))

pub record InfoWritable (i : InfoContents) : Type 0 where
  pub flags : leb i.flags 3 ≡ true
  pub volume : writable_if (local_there i.flags) writable_volume i.volume ≡ true
  pub local : writable_if (local_there i.flags) (writable_text false) i.local ≡ true
  pub network : writable_if (network_there i.flags) writable_network i.network ≡ true
  pub suffix : writable_text false i.suffix ≡ true
  pub local_unicode : writable_if (local_unicode_there i.long i.flags) (writable_text true) i.local_unicode ≡ true
  pub suffix_unicode : writable_if i.long (writable_text true) i.suffix_unicode ≡ true
  pub further : writable_further i.long i.further ≡ true

pub info_writable : (i : InfoContents) → writable_info i ≡ true → InfoWritable i
info_writable i e =
    let (a, (b, (c, (d, (f, (g, (h, (k, z)))))))) = every_out (_ ∷ _ ∷ _ ∷ _ ∷ _ ∷ _ ∷ _ ∷ _ ∷ []) e in
    record { flags = a; volume = b; local = c; network = d; suffix = f; local_unicode = g; suffix_unicode = h; further = k }

pub writable_info_lem : (i : InfoContents) → InfoWritable i → writable_info i ≡ true
writable_info_lem i w =
    every_in (_ ∷ _ ∷ _ ∷ _ ∷ _ ∷ _ ∷ _ ∷ _ ∷ [])
    (w.flags, (w.volume, (w.local, (w.network, (w.suffix, (w.local_unicode, (w.suffix_unicode, (w.further, tt))))))))

pub record Writable (profile : Profile) (c : Contents) : Type 0 where
  pub header : writable_header profile c.header ≡ true
  pub link : writable_link c.header.flags c.link ≡ true
  pub bodies : every (writable_bodies c) ≡ true
  pub short : leb (length (canonical c)) most ≡ true

pub all_writable : (profile : Profile) (c : Contents) → writable profile c ≡ true → Writable profile c
unfolding writable
all_writable profile c e = let (a, (b, (d, (f, z)))) = every_out (_ ∷ _ ∷ _ ∷ _ ∷ []) e in record { header = a; link = b; bodies = d; short = f }

pub writable_all : (profile : Profile) (c : Contents) → Writable profile c → writable profile c ≡ true
unfolding writable
writable_all profile c w = every_in (_ ∷ _ ∷ _ ∷ _ ∷ []) (w.header, (w.link, (w.bodies, (w.short, tt))))
