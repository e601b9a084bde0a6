-- LinkInfo as it is put, head by head and slot by slot, is LinkInfo as it is written.
use mathlib.Core.Path.{◌≡◌, refl, sym, ap, ◌∙◌}
use mathlib.Core.List.{List, [], ◌++◌, append-nil, append_assoc}
use mathlib.Core.Bool.{Bool, true, false, ◌&&◌, cond}
use Prim.Native.Nat.{ℕ, ◌+◌, ◌<◌}
use native.Mathlib.Omega.{arith}
use lib.ListN.{length, get_or, length-append}
use Rattle.octets.proofs.NumberLaws.{length-little}
use Rattle.format.specs.declared.Link.{Link}
use Rattle.format.specs.declared.Record.{Record}
use Rattle.format.specs.Tests.{no_place}
use Rattle.format.specs.Presence.{info_there, name_bit, relative_bit, workdir_bit, arguments_bit, icon_bit, local_there, network_there, local_unicode_there, device_there, provider_there, device_unicode_there}
use Rattle.format.specs.Volume.{label_least}
use Rattle.format.specs.Network.{network_head}
use Rattle.format.specs.Bodies.{text_kind, items_slot, string_slot, label_slot, local_slot, net_slot, device_slot, net_unicode_slot, device_unicode_slot, suffix_slot, local_unicode_slot, suffix_unicode_slot, further_slot, body_table, table_of, along, written_head}
use Rattle.format.specs.Contents.{present_link, present, Contents, body_in, info_in, contents}
use Rattle.format.specs.Writing.{if_there, text_bytes, label_fields, volume_bytes, network_bytes, info_bytes, canonical}
use Rattle.format.specs.Steps.Shape.{shape_of, row_as, rows_from}
use Rattle.format.specs.Steps.Flat.{row_bytes, slot_bytes, slots_bytes, bodies_bytes, volume_head_bytes, network_head_bytes, info_head_bytes, info_flat, flat_bytes, contents_flat}
use Rattle.format.proofs.Bools.{choose_twice}
use Rattle.format.proofs.RowLaws.{along-contents}
use Rattle.format.proofs.FieldLaws.{length_two}
use Rattle.format.proofs.VolumeLaws.{length_volume}
use Rattle.format.proofs.NetworkLaws.{length_network}

-- a head that is there or not
abbrev pub head_if : Bool → List ℕ → List ℕ
head_if there x = cond there x []

-- the size of each of LinkInfo's slots is that of the text as written
pub record TextSizes (c : Contents) (sizes : List ℕ) : Type 0 where
  pub label : get_or sizes label_slot 0 ≡ length (if_there (local_there c.link.flags) (text_bytes c.link.label_unicode) (body_in c label_slot))
  pub local : get_or sizes local_slot 0 ≡ length (if_there (local_there c.link.flags) (text_bytes false) (body_in c local_slot))
  pub net : get_or sizes net_slot 0 ≡ length (if_there (network_there c.link.flags) (text_bytes false) (body_in c net_slot))
  pub device : get_or sizes device_slot 0 ≡ length (if_there (network_there c.link.flags && device_there c.link.network_flags) (text_bytes false) (body_in c device_slot))
  pub net_unicode : get_or sizes net_unicode_slot 0 ≡ length (if_there (network_there c.link.flags && c.link.network_unicode) (text_bytes true) (body_in c net_unicode_slot))
  pub device_unicode : get_or sizes device_unicode_slot 0 ≡ length (if_there (network_there c.link.flags && device_unicode_there c.link.network_unicode c.link.network_flags) (text_bytes true) (body_in c device_unicode_slot))
  pub suffix : get_or sizes suffix_slot 0 ≡ length (text_bytes false (body_in c suffix_slot))
  pub local_unicode : get_or sizes local_unicode_slot 0 ≡ length (if_there (local_unicode_there c.link.long c.link.flags) (text_bytes true) (body_in c local_unicode_slot))
  pub suffix_unicode : get_or sizes suffix_unicode_slot 0 ≡ length (if_there c.link.long (text_bytes true) (body_in c suffix_unicode_slot))
  pub further : get_or sizes further_slot 0 ≡ length (body_in c further_slot)

module _ (c : Contents) (sizes : List ℕ) where
  -- ---- VolumeID

  volume_flat : (b : Bool) → get_or sizes label_slot 0 ≡ length (if_there b (text_bytes c.link.label_unicode) (body_in c label_slot))
      → if_there b volume_bytes (info_in c).volume ≡ head_if b (volume_head_bytes c.link sizes) ++ if_there b (text_bytes c.link.label_unicode) (body_in c label_slot)
  unfolding volume_bytes volume_head_bytes
  volume_flat true e = rw e (simp (append_assoc, append-nil))
  volume_flat false e = refl

  volume_long : (b : Bool) → get_or sizes label_slot 0 ≡ length (if_there b (text_bytes c.link.label_unicode) (body_in c label_slot))
      → length (if_there b volume_bytes (info_in c).volume) ≡ cond b (label_least c.link.label_unicode) 0 + get_or sizes label_slot 0
  volume_long true e = rw e (length_volume (info_in c).volume)
  volume_long false e = rw e

  -- ---- the network link: b tells whether it is there

  record Names (b : Bool) : Type 0 where
    net : get_or sizes net_slot 0 ≡ length (if_there b (text_bytes false) (body_in c net_slot))
    device : get_or sizes device_slot 0 ≡ length (if_there (b && device_there c.link.network_flags) (text_bytes false) (body_in c device_slot))
    net_unicode : get_or sizes net_unicode_slot 0 ≡ length (if_there (b && c.link.network_unicode) (text_bytes true) (body_in c net_unicode_slot))
    device_unicode : get_or sizes device_unicode_slot 0 ≡ length (if_there (b && device_unicode_there c.link.network_unicode c.link.network_flags) (text_bytes true) (body_in c device_unicode_slot))

  network_flat : (b : Bool) → Names b
      → if_there b network_bytes (info_in c).network
      ≡ head_if b (network_head_bytes c.link sizes)
      ++ (if_there b (text_bytes false) (body_in c net_slot)
      ++ (if_there (b && device_there c.link.network_flags) (text_bytes false) (body_in c device_slot)
      ++ (if_there (b && c.link.network_unicode) (text_bytes true) (body_in c net_unicode_slot)
      ++ if_there (b && device_unicode_there c.link.network_unicode c.link.network_flags) (text_bytes true) (body_in c device_unicode_slot))))
  unfolding network_bytes network_head_bytes
  network_flat true n = rw (n.net, n.device, n.net_unicode, n.device_unicode) (simp (append_assoc, append-nil))
  network_flat false n = refl

  network_long : (b : Bool) → Names b
      → length (if_there b network_bytes (info_in c).network)
      ≡ cond b (network_head c.link.network_unicode) 0 + get_or sizes net_slot 0 + get_or sizes device_slot 0 + get_or sizes net_unicode_slot 0 + get_or sizes device_unicode_slot 0
  network_long true n = rw (n.net, n.device, n.net_unicode, n.device_unicode) (length_network (info_in c).network)
  network_long false n = rw (n.net, n.device, n.net_unicode, n.device_unicode)

  -- ---- LinkInfo

  names : TextSizes c sizes → Names (network_there c.link.flags)
  names t = record { net = t.net; device = t.device; net_unicode = t.net_unicode; device_unicode = t.device_unicode }

  -- what follows the head's fields
  abbrev pub pieces_flat : List ℕ
  pieces_flat =
      body_in c further_slot
      ++ (head_if (local_there c.link.flags) (volume_head_bytes c.link sizes)
      ++ (if_there (local_there c.link.flags) (text_bytes c.link.label_unicode) (body_in c label_slot)
      ++ (if_there (local_there c.link.flags) (text_bytes false) (body_in c local_slot)
      ++ (head_if (network_there c.link.flags) (network_head_bytes c.link sizes)
      ++ (if_there (network_there c.link.flags) (text_bytes false) (body_in c net_slot)
      ++ (if_there (network_there c.link.flags && device_there c.link.network_flags) (text_bytes false) (body_in c device_slot)
      ++ (if_there (network_there c.link.flags && c.link.network_unicode) (text_bytes true) (body_in c net_unicode_slot)
      ++ (if_there (network_there c.link.flags && device_unicode_there c.link.network_unicode c.link.network_flags) (text_bytes true) (body_in c device_unicode_slot)
      ++ (text_bytes false (body_in c suffix_slot)
      ++ (if_there (local_unicode_there c.link.long c.link.flags) (text_bytes true) (body_in c local_unicode_slot)
      ++ if_there c.link.long (text_bytes true) (body_in c suffix_unicode_slot)))))))))))

  info_flat_lem : TextSizes c sizes → info_bytes (info_in c) ≡ info_head_bytes c.link sizes ++ pieces_flat
  unfolding info_bytes info_head_bytes
  info_flat_lem t =
      let v = volume_flat (local_there c.link.flags) t.label in
      let n = network_flat (network_there c.link.flags) (names t) in
      let lv = volume_long (local_there c.link.flags) t.label in
      let ln = network_long (network_there c.link.flags) (names t) in
      rw (lv, ln, ← t.local, ← t.suffix, ← t.local_unicode, ← t.suffix_unicode, ← t.further, v, n) (simp (append_assoc, append-nil))

  -- ---- the whole

  -- the size of each slot is that of its body as written
  abbrev pub SizedOf : Type 0
  SizedOf = (k : ℕ) → k < 17 → get_or sizes k 0 ≡ length (get_or (along [] row_bytes 0 (body_table c.header.flags c.link) c.bodies) k [])

  sizes_there : info_there c.header.flags ≡ true → SizedOf → TextSizes c sizes
  sizes_there e m = record {
    label = rw e at (m label_slot (omega arith));
    local = rw e at (m local_slot (omega arith));
    net = rw e at (m net_slot (omega arith));
    device = rw e at (m device_slot (omega arith));
    net_unicode = rw e at (m net_unicode_slot (omega arith));
    device_unicode = rw e at (m device_unicode_slot (omega arith));
    suffix = rw e at (m suffix_slot (omega arith));
    local_unicode = rw e at (m local_unicode_slot (omega arith));
    suffix_unicode = rw e at (m suffix_unicode_slot (omega arith));
    further = rw e at (m further_slot (omega arith));
  }

  -- LinkInfo's bodies by their slots
  abbrev info_rows : List ℕ
  info_rows =
      info_head_bytes c.link sizes
      ++ (body_in c further_slot
      ++ (cond (local_there c.link.flags) (volume_head_bytes c.link sizes) []
      ++ (bodies_bytes c.bodies 1 (rows_from (row_as text_kind (shape_of c.header.flags c.link)) 1 2)
      ++ (cond (network_there c.link.flags) (network_head_bytes c.link sizes) [] ++ bodies_bytes c.bodies 3 (rows_from (row_as text_kind (shape_of c.header.flags c.link)) 3 7)))))

  contents_info : (i : Bool) → info_there c.header.flags ≡ i → SizedOf → if_there i info_bytes (info_in c) ≡ cond i info_rows []
  unfolding bodies_bytes shape_of
  contents_info true e m = info_flat_lem (sizes_there e m) ∙ rw e (simp (append_assoc, append-nil))
  contents_info false e m = refl

  -- the canonical form of contents is what is put of them
  pub contents_flat_lem : SizedOf → canonical c ≡ contents_flat c (shape_of c.header.flags c.link) sizes
  unfolding canonical contents_flat bodies_bytes shape_of
  contents_flat_lem m = rw (contents_info (info_there c.header.flags) refl m) (simp (append_assoc, append-nil))

-- ---- heads go by the record as by its zeros

volume_part_lem : (b u : Bool) → cond b (label_least (cond b u false)) 0 ≡ cond b (label_least u) 0
volume_part_lem true u = refl
volume_part_lem false u = refl

network_part_lem : (b u : Bool) → cond b (network_head (cond b u false)) 0 ≡ cond b (network_head u) 0
network_part_lem true u = refl
network_part_lem false u = refl

info_head : (l : Link) (sizes : List ℕ) → info_head_bytes (present_link l) sizes ≡ info_head_bytes l sizes
unfolding info_head_bytes
info_head l sizes = rw (volume_part_lem (local_there l.flags) l.label_unicode, network_part_lem (network_there l.flags) l.network_unicode)

module _ (l : Link) (sizes : List ℕ) where
  volume_head : (b : Bool) → local_there l.flags ≡ b → head_if b (volume_head_bytes (present_link l) sizes) ≡ head_if b (volume_head_bytes l sizes)
  unfolding volume_head_bytes
  volume_head true e = rw e
  volume_head false e = refl

  network_head_lem : (b : Bool) → network_there l.flags ≡ b → head_if b (network_head_bytes (present_link l) sizes) ≡ head_if b (network_head_bytes l sizes)
  unfolding network_head_bytes
  network_head_lem true e = rw (e, choose_twice (provider_there l.network_flags) l.provider 0)
  network_head_lem false e = refl

-- ---- the whole

module _ (d : List ℕ) (q : Record) (sizes : List ℕ) where
  abbrev pub Sized : Type 0
  Sized = (k : ℕ) → k < 17 → get_or sizes k 0 ≡ length (get_or (along no_place (slot_bytes d) 0 (table_of q) q.places) k [])

  slot_same : (k : ℕ) → get_or (along [] row_bytes 0 (table_of (present q)) (contents d q).bodies) k [] ≡ get_or (along no_place (slot_bytes d) 0 (table_of q) q.places) k []
  slot_same k = ap (λ (l : List (List ℕ)). get_or l k []) (along-contents row_bytes [] (λ k x. refl) d q)

  slot_Sized : Sized → (k : ℕ) → k < 17 → get_or sizes k 0 ≡ length (get_or (along [] row_bytes 0 (table_of (present q)) (contents d q).bodies) k [])
  slot_Sized m k h = m k h ∙ ap length (sym (slot_same k))

  -- where LinkInfo is there
  module _ (e : info_there q.header.flags ≡ true) where
    abbrev here : Contents
    here = record { header = (contents d q).header; link = present_link q.link; bodies = (contents d q).bodies }

    linked : (contents d q).link ≡ present_link q.link
    unfolding contents present
    linked = rw e

    text_sizes : Sized → TextSizes here sizes
    unfolding present
    text_sizes m = record {
      label = rw e at (slot_Sized m label_slot (omega arith));
      local = rw e at (slot_Sized m local_slot (omega arith));
      net = rw e at (slot_Sized m net_slot (omega arith));
      device = rw e at (slot_Sized m device_slot (omega arith));
      net_unicode = rw e at (slot_Sized m net_unicode_slot (omega arith));
      device_unicode = rw e at (slot_Sized m device_unicode_slot (omega arith));
      suffix = rw e at (slot_Sized m suffix_slot (omega arith));
      local_unicode = rw e at (slot_Sized m local_unicode_slot (omega arith));
      suffix_unicode = rw e at (slot_Sized m suffix_unicode_slot (omega arith));
      further = rw e at (slot_Sized m further_slot (omega arith));
    }

    info_there_lem : Sized → info_bytes (info_in (contents d q)) ≡ info_flat d q (shape_of q.header.flags q.link) sizes
    unfolding present info_flat slots_bytes shape_of
    info_there_lem m =
        let l = q.link in
        let x : info_in (contents d q) ≡ info_in here = ap (λ (y : Link). info_in (record { header = (contents d q).header; link = y; bodies = (contents d q).bodies })) linked in
        ap info_bytes x
        ∙ info_flat_lem here sizes (text_sizes m)
        ∙ rw (
          e,
          info_head l sizes,
          volume_head l sizes (local_there l.flags) refl,
          network_head_lem l sizes (network_there l.flags) refl,
          rw e at (slot_same label_slot),
          rw e at (slot_same local_slot),
          rw e at (slot_same net_slot),
          rw e at (slot_same device_slot),
          rw e at (slot_same net_unicode_slot),
          rw e at (slot_same device_unicode_slot),
          rw e at (slot_same suffix_slot),
          rw e at (slot_same local_unicode_slot),
          rw e at (slot_same suffix_unicode_slot),
          rw e at (slot_same further_slot),
        ) (simp (append_assoc, append-nil))

  info_part : (i : Bool) → info_there q.header.flags ≡ i → Sized → if_there i info_bytes (info_in (contents d q)) ≡ cond i (info_flat d q (shape_of q.header.flags q.link) sizes) []
  info_part true e m = info_there_lem e m
  info_part false e m = refl

  -- the canonical form is what is put
  pub canonical_flat : Sized → canonical (contents d q) ≡ flat_bytes d q (shape_of q.header.flags q.link) sizes
  unfolding canonical contents present flat_bytes slots_bytes shape_of
  canonical_flat m =
      rw (
        info_part (info_there q.header.flags) refl m,
        slot_same items_slot,
        slot_same (string_slot name_bit),
        slot_same (string_slot relative_bit),
        slot_same (string_slot workdir_bit),
        slot_same (string_slot arguments_bit),
        slot_same (string_slot icon_bit),
      ) (simp (append_assoc, append-nil))

-- ---- how long the heads are

pub length_info_head : (l : Link) (sizes : List ℕ) → length (info_head_bytes l sizes) ≡ written_head l.long
unfolding info_head_bytes
length_info_head l sizes = simp (length-append, length-little, length_two) (omega (arith, go l.long))
  where
    go : (u : Bool) → 28 + cond u 8 0 ≡ written_head u
    go true = refl
    go false = refl

pub length_volume_head : (l : Link) (sizes : List ℕ) → length (volume_head_bytes l sizes) ≡ label_least l.label_unicode
unfolding volume_head_bytes
length_volume_head l sizes = simp (length-append, length-little) (omega (arith, go l.label_unicode))
  where
    go : (u : Bool) → 12 + length (label_fields u) ≡ label_least u
    go true = simp (length-append, length-little)
    go false = simp length-little

pub length-network_head : (l : Link) (sizes : List ℕ) → length (network_head_bytes l sizes) ≡ network_head l.network_unicode
unfolding network_head_bytes
length-network_head l sizes = simp (length-append, length-little, length_two) (omega (arith, go l.network_unicode))
  where
    go : (u : Bool) → 20 + cond u 8 0 ≡ network_head u
    go true = refl
    go false = refl
