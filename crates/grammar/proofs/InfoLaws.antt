-- LinkInfo.
use mathlib.Core.Path.{◌≡◌, refl, sym, ap, subst, ◌∙◌}
use mathlib.Core.List.{List, [], ◌∷◌, ◌++◌, map}
use mathlib.Core.Bool.{Bool, true, false, not, ◌&&◌, ◌||◌, cond}
use Prim.Native.Nat.{ℕ, ◌+◌, ◌-◌, ◌≤◌}
use native.Mathlib.Omega.{arith}
use lib.ListN.{length, take, drop, get_or, take-append-drop, length-append, length-drop}
use lib.Seq.{length-take-le, take-take, take_at, take-length}
use lib.Dec.{leb, eqb}
use borrow.Author.Tests.{leb-true, le-leb, lt-leb, eqb-true, eq-eqb}
use Rattle.octets.specs.Numbers.{Bytes, u32_at}
use Rattle.octets.proofs.NumberLaws.{Bytes-take, number_same}
use Rattle.format.specs.declared.Profile.{Profile}
use Rattle.format.specs.declared.Fault.TheVariants.{Cut as CUT, Info as INFO}
use Rattle.format.specs.declared.Place.{Place}
use Rattle.format.specs.declared.Link.{Link}
use Rattle.format.specs.declared.Info.{Info}
use Rattle.format.specs.Tests.{Test, ◌else◌at◌, got, section, no_place}
use Rattle.format.specs.Pieces.{Piece, text_piece, text_place, span, tests_of}
use Rattle.format.specs.Volume.{volume_at, volume_piece, label_place}
use Rattle.format.specs.Network.{network_piece}
use Rattle.format.specs.Info.{info_size, info_head, long_head, head_ok, info_flags, has_local, has_network, has_local_unicode, info_pieces, leftover_ok, info_head_tests, info_rules, further_place, info_fields, info, link_of, info_places}
use Rattle.format.proofs.Bools.{or-true, or_left, or_right, clash}
use Rattle.format.proofs.Chains.{Pass, pass, Pass-split, Pass-join, tests_elim}
use Rattle.format.proofs.Holds.{InfoHeadHolds, InfoPiecesHold, info_piece_tests, info_head_holds, info_head_passes, info_pieces_hold, info_pieces_Pass}
use Rattle.format.proofs.Intervals.{all_apart}
use Rattle.grammar.specs.Grammar.{If, is_set, Fields, from, nowhere, Bodies, Unused, NoneShared, piece_span, TextPiece, InfoIs}
use Rattle.grammar.proofs.Agree.{Agrees}
use Rattle.grammar.proofs.FieldLaws.{long_rows, Fields-Told, Told-Fields, Fields-length}
use Rattle.grammar.proofs.PieceLaws.{none_shared_lem, shared_none, text_told, text_read, text_span, text_span_lem, text_Solid, text_or, or_text}
use Rattle.grammar.proofs.LinkLaws.{struct_at, Unused-told, Unused-read, volume_part, volume_span, part_volume, NetworkPlaces, network_part, network_span, part_network}

-- where its bodies stand
pub record Places (b : Bodies) (p : ℕ) (l : List ℕ) : Type 0 where
  pub label : label_place (volume_at (has_local l) p l (u32_at l 12)).label ≡ b.label
  pub local : text_place (has_local l) false p l (u32_at l 16) ≡ b.local
  pub network : NetworkPlaces (has_network l) b p l (u32_at l 20)
  pub suffix : text_place true false p l (u32_at l 24) ≡ b.suffix
  pub local_unicode : text_place (has_local_unicode l) true p l (u32_at l 28) ≡ b.local_unicode
  pub suffix_unicode : text_place (long_head l) true p l (u32_at l 32) ≡ b.suffix_unicode
  pub further : further_place p l ≡ b.further

abbrev spans : Bodies → List ℕ → List ℕ → List ℕ → List Place
spans b l volume network =
    piece_span (has_local l) (u32_at l 12) (length volume)
    ∷ text_span (has_local l) false (u32_at l 16) b.local
    ∷ piece_span (has_network l) (u32_at l 20) (length network)
    ∷ text_span true false (u32_at l 24) b.suffix
    ∷ text_span (has_local_unicode l) true (u32_at l 28) b.local_unicode
    ∷ text_span (long_head l) true (u32_at l 32) b.suffix_unicode
    ∷ []

spans_are : (b : Bodies) (p : ℕ) (l volume network : List ℕ) → Places b p l
    → span (volume_piece (has_local l) l 12 (u32_at l 12)) ≡ piece_span (has_local l) (u32_at l 12) (length volume)
    → span (network_piece (has_network l) l 20 (u32_at l 20)) ≡ piece_span (has_network l) (u32_at l 20) (length network)
    → map span (info_pieces l) ≡ spans b l volume network
spans_are b p l volume network n v w =
    rw (
      v,
      text_span_lem (has_local l) false p l 16 (u32_at l 16) b.local n.local,
      w,
      text_span_lem true false p l 24 (u32_at l 24) b.suffix n.suffix,
      text_span_lem (has_local_unicode l) true p l 28 (u32_at l 28) b.local_unicode n.local_unicode,
      text_span_lem (long_head l) true p l 32 (u32_at l 32) b.suffix_unicode n.suffix_unicode,
    )

-- ---- the head

-- its further bytes, and what comes after the head
abbrev further_in : Bool → List ℕ → List ℕ
further_in long l = cond long (take (info_head l - 0x24) (drop 0x24 l)) []

abbrev behind_head : Bool → List ℕ → List ℕ
behind_head long l = cond long (drop (info_head l - 0x24) (drop 0x24 l)) (drop 0x1C l)

abbrev head_rows : Bool → List ℕ → List (ℕ × ℕ)
head_rows long l =
    (4, length l) ∷ (4, info_head l) ∷ (4, info_flags l) ∷ (4, u32_at l 12) ∷ (4, u32_at l 16) ∷ (4, u32_at l 20) ∷ (4, u32_at l 24) ∷ long_rows long (u32_at l 28) (u32_at l 32)

record HeadTold (b : Bodies) (p : ℕ) (l : List ℕ) (long : Bool) : Type 0 where
  fields : Fields (head_rows long l) (further_in long l ++ behind_head long l) l
  is_head : If long
      ((info_head l ≡ 0x24 + length (further_in long l)) × (b.further ≡ from (p + 0x24) (length (further_in long l))))
      ((info_head l ≡ 0x1C) × ((further_in long l ≡ []) × (b.further ≡ nowhere)))

head_told : (b : Bodies) (p : ℕ) (l : List ℕ) (long : Bool) → long_head l ≡ long → Bytes l → u32_at l 0 ≡ length l → 0x1C ≤ length l → head_ok l ≡ true
    → further_place p l ≡ b.further → HeadTold b p l long
head_told b p l true e bs size low ok held =
    let o : 0x24 ≤ info_head l = leb-true 0x24 (info_head l) e in
    let i : info_head l ≤ length l
    = or-true (eqb (info_head l) 0x1C) (long_head l && leb (info_head l) (length l)) ok (λ x. let z = eqb-true (info_head l) 0x1C x in absurd (omega arith)) (λ x. leb-true (info_head l) (length l) (rw e at x)) in
    let f = Told-Fields (head_rows true l) l bs (omega arith) (size, (refl, (refl, (refl, (refl, (refl, (refl, (refl, (refl, tt))))))))) in
    let n : length (further_in true l) ≡ info_head l - 0x24 = length-take-le (info_head l - 0x24) (drop 0x24 l) (omega (arith, length-drop 0x24 l)) in
    record {
      fields = rw (take-append-drop (info_head l - 0x24) (drop 0x24 l)) f;
      is_head = (omega arith, sym (rw e at held) ∙ ap (from (p + 0x24)) (sym n));
    }
head_told b p l false e bs size low ok held =
    let f = Told-Fields (head_rows false l) l bs low (size, (refl, (refl, (refl, (refl, (refl, (refl, tt))))))) in
    let h : info_head l ≡ 0x1C
    = or-true (eqb (info_head l) 0x1C) (long_head l && leb (info_head l) (length l)) ok (λ x. eqb-true (info_head l) 0x1C x) (λ x. clash (rw e at x) refl) in
    record { fields = f; is_head = (h, (refl, sym (rw e at held))) }

-- ---- the whole, from reading

unicode_Unused : (profile : Profile) (long local : Bool) (o : ℕ) → (not long || leftover_ok profile local o) ≡ true → (long && local) ≡ false → If long (Unused profile o) (Unit {0})
unicode_Unused profile true local o h e = Unused-told profile local o h e
unicode_Unused profile false local o h e = tt

pub info_told : (profile : Profile) (b : Bodies) (p : ℕ) (l : List ℕ) → Bytes l → u32_at l 0 ≡ length l → 0x1C ≤ length l → InfoHeadHolds profile l → InfoPiecesHold l → Places b p l
    → InfoIs profile (link_of (info_fields p l)) b p l
info_told profile b p l bs size low h c n =
    let hd = head_told b p l (long_head l) refl bs size low h.head n.further in
    record {
      head = info_head l;
      volume_offset = u32_at l 12;
      local_offset = u32_at l 16;
      network_offset = u32_at l 20;
      suffix_offset = u32_at l 24;
      local_unicode_offset = u32_at l 28;
      suffix_unicode_offset = u32_at l 32;
      further = further_in (long_head l) l;
      rest = behind_head (long_head l) l;
      volume = struct_at l (u32_at l 12);
      network = struct_at l (u32_at l 20);
      fields = hd.fields;
      is_head = hd.is_head;
      few_flags = leb-true (info_flags l) 3 h.flags;
      is_volume = volume_part profile (has_local l) (info_head l) p l (u32_at l 12) b.label bs h.volume_offset c.volume n.label;
      is_local = text_or (Unused profile (u32_at l 16)) (has_local l) false (info_head l) p l 16 (u32_at l 16) b.local n.local c.local (Unused-told profile (has_local l) (u32_at l 16) h.local_offset);
      is_network = network_part profile (has_network l) (info_head l) p l (u32_at l 20) b bs h.network_offset c.network n.network;
      is_suffix = text_told true false (info_head l) p l 24 (u32_at l 24) b.suffix n.suffix c.suffix;
      is_local_unicode =
          text_or (If (long_head l) (Unused profile (u32_at l 28)) (Unit {0})) (has_local_unicode l) true (info_head l) p l 28 (u32_at l 28) b.local_unicode n.local_unicode c.local_unicode
          (unicode_Unused profile (long_head l) (has_local l) (u32_at l 28) h.local_unicode_offset);
      is_suffix_unicode = text_told (long_head l) true (info_head l) p l 32 (u32_at l 32) b.suffix_unicode n.suffix_unicode c.suffix_unicode;
      none_shared =
          subst NoneShared
          (spans_are b p l (struct_at l (u32_at l 12)) (struct_at l (u32_at l 20)) n (volume_span (has_local l) (info_head l) l (u32_at l 12) c.volume) (network_span (has_network l) (info_head l) l (u32_at l 20) c.network))
          (none_shared_lem (map span (info_pieces l)) c.apart);
    }

-- ---- and back: the head

record HeadRead (b : Bodies) (p : ℕ) (l : List ℕ) (long : Bool) (head flags volume local network suffix local_unicode suffix_unicode : ℕ) : Type 0 where
  size : u32_at l 0 ≡ length l
  enough : 0x1C ≤ length l
  is_head : info_head l ≡ head
  is_flags : info_flags l ≡ flags
  at12 : u32_at l 12 ≡ volume
  at16 : u32_at l 16 ≡ local
  at20 : u32_at l 20 ≡ network
  at24 : u32_at l 24 ≡ suffix
  at28 : long ≡ true → u32_at l 28 ≡ local_unicode
  at32 : long ≡ true → u32_at l 32 ≡ suffix_unicode
  is_long : long_head l ≡ long
  ok : head_ok l ≡ true
  further : further_place p l ≡ b.further

head_read : (b : Bodies) (p : ℕ) (l : List ℕ) (long : Bool) (head flags volume local network suffix local_unicode suffix_unicode : ℕ) (further rest : List ℕ)
    → Fields ((4, length l) ∷ (4, head) ∷ (4, flags) ∷ (4, volume) ∷ (4, local) ∷ (4, network) ∷ (4, suffix) ∷ long_rows long local_unicode suffix_unicode) (further ++ rest) l
    → If long ((head ≡ 0x24 + length further) × (b.further ≡ from (p + 0x24) (length further))) ((head ≡ 0x1C) × ((further ≡ []) × (b.further ≡ nowhere)))
    → HeadRead b p l long head flags volume local network suffix local_unicode suffix_unicode
head_read b p l true head flags volume local network suffix local_unicode suffix_unicode further rest f (h, w) =
    let rows : List (ℕ × ℕ)
    = (4, length l) ∷ (4, head) ∷ (4, flags) ∷ (4, volume) ∷ (4, local) ∷ (4, network) ∷ (4, suffix) ∷ long_rows true local_unicode suffix_unicode in
    let (size, (o4, (o8, (o12, (o16, (o20, (o24, (o28, (o32, z))))))))) = Fields-Told rows (further ++ rest) l f in
    let n : length l ≡ 0x24 + length (further ++ rest) = Fields-length rows (further ++ rest) l f in
    let m = length-append further rest in
    let e : long_head l ≡ true = le-leb 0x24 (info_head l) (omega arith) in
    let k : info_head l - 0x24 ≡ length further = omega arith in
    record {
      size = size;
      enough = omega arith;
      is_head = o4;
      is_flags = o8;
      at12 = o12;
      at16 = o16;
      at20 = o20;
      at24 = o24;
      at28 = λ t. o28;
      at32 = λ t. o32;
      is_long = e;
      ok = rw (e, le-leb (info_head l) (length l) (omega arith)) (or_right (eqb (info_head l) 0x1C) true refl);
      further = rw (e, k) (sym w);
    }
head_read b p l false head flags volume local network suffix local_unicode suffix_unicode further rest f (h, (x, w)) =
    let rows : List (ℕ × ℕ)
    = (4, length l) ∷ (4, head) ∷ (4, flags) ∷ (4, volume) ∷ (4, local) ∷ (4, network) ∷ (4, suffix) ∷ long_rows false local_unicode suffix_unicode in
    let (size, (o4, (o8, (o12, (o16, (o20, (o24, z))))))) = Fields-Told rows (further ++ rest) l f in
    let n : length l ≡ 0x1C + length (further ++ rest) = Fields-length rows (further ++ rest) l f in
    let e : long_head l ≡ false = lt-leb 0x24 (info_head l) (omega arith) in
    record {
      size = size;
      enough = omega arith;
      is_head = o4;
      is_flags = o8;
      at12 = o12;
      at16 = o16;
      at20 = o20;
      at24 = o24;
      at28 = λ t. clash t refl;
      at32 = λ t. clash t refl;
      is_long = e;
      ok = or_left (eqb (info_head l) 0x1C) (long_head l && leb (info_head l) (length l)) (eq-eqb (info_head l) 0x1C (o4 ∙ h));
      further = rw e (sym w);
    }

-- ---- the pieces that only a long head has

record LongText (there : Bool) (head p : ℕ) (l : List ℕ) (i o n : ℕ) (b : Place) : Type 0 where
  passes : Pass (tests_of head (text_piece there true l i o))
  held : text_place there true p l o ≡ b
  spans : text_span there true o b ≡ text_span there true n b

-- o is the field, n what it holds if the head is long
local_read : (profile : Profile) (long local : Bool) (head p : ℕ) (l : List ℕ) (o n : ℕ) (b : Place) → (long ≡ true → o ≡ n)
    → If (long && local) (TextPiece true head p l n b) (If long (Unused profile n) (Unit {0}) × (b ≡ nowhere))
    → LongText (long && local) head p l 28 o n b × ((not long || leftover_ok profile local o) ≡ true)
local_read profile true local head p l o n b e t =
    let x = or_text (Unused profile n) local true head p l 28 n b t in
    let q = e refl in
    (record { passes = rw q x.passes; held = rw q x.held; spans = rw q }, rw q (Unused-read profile local n x.unused))
local_read profile false local head p l o n b e t = (record { passes = tt; held = sym t.1; spans = refl }, refl)

suffix_read : (long : Bool) (head p : ℕ) (l : List ℕ) (o n : ℕ) (b : Place) → (long ≡ true → o ≡ n) → If long (TextPiece true head p l n b) (b ≡ nowhere) → LongText long head p l 32 o n b
suffix_read true head p l o n b e t =
    let x = text_read true head p l 32 n b t in
    let q = e refl in
    record { passes = rw q x.passes; held = rw q x.held; spans = rw q }
suffix_read false head p l o n b e t = record { passes = tt; held = sym t; spans = refl }

-- ---- the whole, from the grammar

pub record InfoRead (profile : Profile) (k : Link) (b : Bodies) (p : ℕ) (l : List ℕ) : Type 0 where
  pub size : u32_at l 0 ≡ length l
  pub enough : 0x1C ≤ length l
  pub head : InfoHeadHolds profile l
  pub pieces : InfoPiecesHold l
  pub link : link_of (info_fields p l) ≡ k
  pub places : Places b p l

pub info_read : (profile : Profile) (k : Link) (b : Bodies) (p : ℕ) (l : List ℕ) → InfoIs profile k b p l → InfoRead profile k b p l
info_read profile k b p l g =
    let x = head_read b p l k.long g.head k.flags g.volume_offset g.local_offset g.network_offset g.suffix_offset g.local_unicode_offset g.suffix_unicode_offset g.further g.rest g.fields g.is_head in
    let hd = x.is_head in
    let f = x.is_flags in
    let e = x.is_long in
    let o12 = x.at12 in
    let o16 = x.at16 in
    let o20 = x.at20 in
    let o24 = x.at24 in
    let lo : Bool = is_set 0 k.flags in
    let ne : Bool = is_set 1 k.flags in
    let volume = part_volume profile lo g.head k.drive k.serial k.label_unicode b.label p l g.volume_offset g.volume g.is_volume in
    let local = or_text (Unused profile g.local_offset) lo false g.head p l 16 g.local_offset b.local g.is_local in
    let network = part_network profile ne g.head k.network_flags k.provider k.network_unicode b p l g.network_offset g.network g.is_network in
    let suffix = text_read false g.head p l 24 g.suffix_offset b.suffix g.is_suffix in
    let local_u = local_read profile k.long lo g.head p l (u32_at l 28) g.local_unicode_offset b.local_unicode x.at28 g.is_local_unicode in
    let suffix_u = suffix_read k.long g.head p l (u32_at l 32) g.suffix_unicode_offset b.suffix_unicode x.at32 g.is_suffix_unicode in
    let places : Places b p l = record {
      label = rw (f, o12) volume.is_label;
      local = rw (f, o16) local.held;
      network = rw (f, o20) network.places;
      suffix = rw o24 suffix.held;
      local_unicode = rw (e, f) local_u.0.held;
      suffix_unicode = rw e suffix_u.held;
      further = x.further;
    } in
    let listed : List Place =
    piece_span lo g.volume_offset (length g.volume)
    ∷ text_span lo false g.local_offset b.local
    ∷ piece_span ne g.network_offset (length g.network)
    ∷ text_span true false g.suffix_offset b.suffix
    ∷ text_span (k.long && lo) true g.local_unicode_offset b.local_unicode
    ∷ text_span k.long true g.suffix_unicode_offset b.suffix_unicode
    ∷ [] in
    let same : spans b l g.volume g.network ≡ listed = rw (e, f, o12, o16, o20, o24, local_u.0.spans, suffix_u.spans) in
    let apart : all_apart (map span (info_pieces l)) ≡ true
    = subst (λ (y : List Place). all_apart y ≡ true)
    (sym (spans_are b p l g.volume g.network places (rw (f, o12) volume.is_span) (rw (f, o20) network.is_span) ∙ same))
    (shared_none listed
    (volume.solid, (text_Solid lo false g.local_offset b.local, (network.solid, (text_Solid true false g.suffix_offset b.suffix, (text_Solid (k.long && lo) true g.local_unicode_offset b.local_unicode, (text_Solid k.long true g.suffix_unicode_offset b.suffix_unicode, tt))))))
    g.none_shared) in
    record {
      size = x.size;
      enough = x.enough;
      head = record {
        head = x.ok;
        flags = le-leb (info_flags l) 3 (omega (arith, f, g.few_flags));
        volume_offset = rw (f, o12) volume.unused;
        local_offset = rw (f, o16) (Unused-read profile lo g.local_offset local.unused);
        network_offset = rw (f, o20) network.unused;
        local_unicode_offset = rw (e, f) local_u.1;
      };
      pieces = record {
        volume = rw (hd, f, o12) volume.passes;
        local = rw (hd, f, o16) local.passes;
        network = rw hd (subst (λ (q : Piece). Pass (tests_of g.head q)) (sym (ap (λ (n : ℕ). network_piece (is_set 1 n) l 20 (u32_at l 20)) f ∙ ap (network_piece ne l 20) o20)) network.passes);
        suffix = rw (hd, o24) suffix.passes;
        local_unicode = rw (e, hd, f) local_u.0.passes;
        suffix_unicode = rw (e, hd) suffix_u.passes;
        apart = apart;
      };
      link = rw (e, f, o12, o20, volume.is_drive, volume.is_serial, volume.is_kind, network.is_flags, network.is_provider, network.is_unicode);
      places = places;
    }

-- ---- the section

-- what the record has of it
pub record Holds (k : Link) (b : Bodies) (i : Info) : Type 0 where
  pub link : link_of i ≡ k
  pub places : info_places i ≡ b.label ∷ b.local ∷ b.net ∷ b.device ∷ b.net_unicode ∷ b.device_unicode ∷ b.suffix ∷ b.local_unicode ∷ b.suffix_unicode ∷ []
  pub further : i.further ≡ b.further

abbrev info_tests : Profile → List ℕ → List Test
info_tests profile s = leb 4 (length s) else CUT at 0 ∷ leb 0x1C (info_size s) else INFO at 0 ∷ leb (info_size s) (length s) else CUT at 0 ∷ info_rules profile (take (info_size s) s)

same_place : {x y : List Place} → x ≡ y → (j : ℕ) → get_or x j no_place ≡ get_or y j no_place
same_place e j = ap (λ (x : List Place). get_or x j no_place) e

section_told : (profile : Profile) (k : Link) (b : Bodies) (p : ℕ) (s : List ℕ) → Bytes s → Pass (info_tests profile s) → Holds k b (info_fields p (take (info_size s) s))
    → (info_size s ≤ length s) × InfoIs profile k b p (take (info_size s) s)
section_told profile k b p s bs (four, (low, (fits, rules))) h =
    let l : List ℕ = take (info_size s) s in
    let w : info_size s ≤ length s = leb-true (info_size s) (length s) fits in
    let m : 0x1C ≤ info_size s = leb-true 0x1C (info_size s) low in
    let n : length l ≡ info_size s = length-take-le (info_size s) s w in
    let z : u32_at l 0 ≡ length l = number_same 4 4 l s 0 (take-take 4 (info_size s) s (omega arith)) (omega arith) ∙ sym n in
    let i = Pass-split (info_head_tests profile l) (info_piece_tests l) rules in (
      w,
      subst (λ (y : Link). InfoIs profile y b p l) h.link
          (info_told profile b p l (Bytes-take (info_size s) s bs) z (omega arith) (info_head_holds profile l i.0) (info_pieces_hold l i.1) (record {
            label = same_place h.places 0;
            local = same_place h.places 1;
            network = record { net = same_place h.places 2; device = same_place h.places 3; net_unicode = same_place h.places 4; device_unicode = same_place h.places 5 };
            suffix = same_place h.places 6;
            local_unicode = same_place h.places 7;
            suffix_unicode = same_place h.places 8;
            further = h.further;
          })),
    )

section_read : (profile : Profile) (k : Link) (b : Bodies) (p : ℕ) (x r : List ℕ) → InfoIs profile k b p x → (info profile p (x ++ r) ≡ got (info_fields p x) (length x)) × Holds k b (info_fields p x)
section_read profile k b p x r g =
    let y = info_read profile k b p x g in
    let s : List ℕ = x ++ r in
    let n : length s ≡ length x + length r = length-append x r in
    let low = y.enough in
    let z : info_size s ≡ length x = number_same 4 (length x) s x 0 (take_at x r (length x) refl ∙ sym (take-length x)) (omega arith) ∙ y.size in
    let t : take (info_size s) s ≡ x = take_at x r (info_size s) (sym z) in
    let c : Pass (info_tests profile s)
    = (le-leb 4 (length s) (omega arith), (le-leb 0x1C (info_size s) (omega arith), (le-leb (info_size s) (length s) (omega arith), subst (λ (l : List ℕ). Pass (info_rules profile l)) (sym t) (Pass-join (info_head_tests profile x) (info_piece_tests x) (info_head_passes profile x y.head) (info_pieces_Pass x y.pieces))))) in
    let q = y.places in (
      pass (section 2 p) (info_tests profile s) (got (info_fields p (take (info_size s) s)) (info_size s)) c ∙ rw (t, z),
      record {
        link = y.link;
        places = rw (q.label, q.local, q.network.net, q.network.device, q.network.net_unicode, q.network.device_unicode, q.suffix, q.local_unicode, q.suffix_unicode);
        further = q.further;
      },
    )

pub info-Agrees : (profile : Profile) (k : Link) (b : Bodies) → Agrees (info profile) (λ p i. Holds k b i) (InfoIs profile k b)
info-Agrees profile k b = record {
  told = λ p s a n bs e.
      tests_elim (λ a n. Holds k b a → (n ≤ length s) × InfoIs profile k b p (take n s)) (section 2 p) (info_tests profile s) (info_fields p (take (info_size s) s)) (info_size s)
      (λ c h. section_told profile k b p s bs c h) a n e;
  read = λ p x r bs g. let y = section_read profile k b p x r g in record { value = info_fields p x; is = y.0; held = y.1 };
}
