-- The record that reading gives, beside the contents: each section's places hold its contents, and so do those of the whole.
use mathlib.Core.Path.{◌≡◌, refl, sym, ap, ◌∙◌}
use mathlib.Core.List.{List, [], ◌∷◌, ◌++◌, map}
use mathlib.Core.Bool.{Bool, true, false, cond}
use Prim.Native.Nat.{ℕ, ◌+◌, ◌-◌, ◌≤◌}
use native.Mathlib.Omega.{arith}
use lib.ListN.{length, take, drop, replicate}
use lib.Seq.{drop-drop, length-take-le}
use lib.Dec.{leb, eqb}
use Rattle.octets.specs.Numbers.{u16_at, u32_at}
use Rattle.octets.specs.Characters.{bytes_of}
use Rattle.octets.proofs.NumberLaws.{part_inside}
use Rattle.format.specs.declared.Profile.{Profile}
use Rattle.format.specs.declared.Place.{Place}
use Rattle.format.specs.declared.Header.{Header}
use Rattle.format.specs.declared.Volume.{Volume}
use Rattle.format.specs.declared.Network.{Network}
use Rattle.format.specs.declared.Info.{Info}
use Rattle.format.specs.declared.Fault.TheVariants.{Long as LONG, Trail as TRAIL, Info as INFO}
use Rattle.format.specs.Tests.{Outcome, got, refused, place, no_place, tests, and_then, optional, section, no_section, spot_at, ◌else◌at◌}
use Rattle.format.specs.Presence.{items_there, info_there, name_bit, relative_bit, workdir_bit, arguments_bit, icon_bit, string_there, strings_unicode}
use Rattle.format.specs.Header.{header}
use Rattle.format.specs.Items.{items_length, items_rules, items}
use Rattle.format.specs.Volume.{label_unicode, label_offset, label_of, label_place, label_kind, volume_at}
use Rattle.format.specs.Network.{has_device, network_unicode, network_at, has_device_unicode}
use Rattle.format.specs.Info.{info_size, info_head, long_head, head_ok, has_local, has_network, further_place, info_head_tests, info_rules, info_fields, info, no_info, has_local_unicode, link_of, info_places}
use Rattle.format.specs.Strings.{string_length, string}
use Rattle.format.specs.Blocks.{blocks}
use Rattle.format.specs.Shortcut.{no_header, Section, Tail, Sections, found, string_section, tail, sections, shortcut, most, sum, record_of}
use Rattle.format.specs.Contents.{VolumeContents, NetworkContents, InfoContents, bytes_at, info_in, bodies_of}
use Rattle.format.proofs.Chains.{Pass-split, drop-take}
use Rattle.format.proofs.Holds.{info_piece_tests, info_head_holds}
use Rattle.format.proofs.Sized.{sized_tests, sized_holds}
use Rattle.format.proofs.ItemsLaws.{items_value}
use Rattle.format.proofs.VolumeLaws.{volume_value}
use Rattle.format.proofs.NetworkLaws.{network_value}
use Rattle.format.proofs.InfoLaws.{no_volume_c, no_network_c, further_in, info_value, head_inside}
use Rattle.format.proofs.BlockLaws.{blocks_r}
use Rattle.format.proofs.LinkLaws.{no_info_c}
use Rattle.format.proofs.WholeLaws.{items_r, info_r, string_r, TailC, tail-s, file_r, decode, to_contents}
use Rattle.format.proofs.PlaceLaws.{PartOf, part_of, part_within, text_placed, Placed, tests_placed, found-Placed, section_Placed, chain-Placed, then-Placed, mapped, both}

module _ (profile : Profile) (f : List ℕ) where
  header-Placed : Placed f (header profile) (λ h. h) (header profile)
  header-Placed = record { placed = λ p. same (header profile p (drop p f)) }
    where
      same : (r : Outcome Header) → mapped (λ h. h) r ≡ r
      same (got h n) = refl
      same (refused x y) = refl

  items-Placed : Placed f items (bytes_at f) items_r
  items-Placed = record {
    placed = λ p.
        let s : List ℕ = drop p f in
        let n : ℕ = items_length s in
        tests_placed f (bytes_at f) (section 1 p) (sized_tests 1 2 items_length (λ n. []) items_rules items_value s) (place (p + 2) (n - 4)) (items_value (take n s)) n
        (λ c.
        let l : length (take n s) ≡ n = length-take-le n s (sized_holds 1 2 items_length (λ n. []) items_rules items_value s c).within in
        sym (ap (λ (k : ℕ). take (k - 4) (drop 2 (take n s))) l ∙ part_inside 2 (n - 4) n s (omega arith) ∙ ap (take (n - 4)) (drop-drop 2 p f)));
  }

  string-Placed : (k : ℕ) (u : Bool) → Placed f (string k u) (bytes_at f) (string_r k u)
  string-Placed k u = record {
    placed = λ p.
        let s : List ℕ = drop p f in
        let n : ℕ = bytes_of u (u16_at s 0) in
        tests_placed f (bytes_at f) (section k p) (sized_tests k 2 (string_length u) (λ n. []) (λ l. []) (λ l. drop 2 l) s) (place (p + 2) n) (drop 2 (take (2 + n) s)) (2 + n)
        (λ c. sym (drop-take 2 n s ∙ ap (take n) (drop-drop 2 p f)));
  }

  -- ---- LinkInfo

  -- what stands at the places that its reader answers
  abbrev info_at : Info → InfoContents
  info_at i = info_in (record { header = no_header; link = link_of i; bodies = [] ∷ map (bytes_at f) (info_places i) ++ (replicate 6 [] ++ (bytes_at f i.further ∷ [])) })

  kind_of : (u : Bool) (b : Place) → label_kind (label_of u b) ≡ u
  kind_of true b = refl
  kind_of false b = refl

  place_of : (u : Bool) (b : Place) → label_place (label_of u b) ≡ b
  place_of true b = refl
  place_of false b = refl

  abbrev volume_here : Volume → VolumeContents
  volume_here v = record { drive = v.drive; serial = v.serial; unicode = label_kind v.label; label = bytes_at f (label_place v.label) }

  abbrev network_here : Network → NetworkContents
  network_here n = record {
    flags = n.flags;
    provider = n.provider;
    unicode = n.unicode;
    net = bytes_at f n.net;
    device = bytes_at f n.device;
    net_unicode = bytes_at f n.net_unicode;
    device_unicode = bytes_at f n.device_unicode;
  }

  module _ (p : ℕ) (l : List ℕ) (F : PartOf f p l) (o : ℕ) where
    volume_placed : (b : Bool) → volume_here (volume_at b p l o) ≡ cond b (volume_value (take (u32_at (drop o l) 0) (drop o l))) no_volume_c
    volume_placed true =
        let v : List ℕ = take (u32_at (drop o l) 0) (drop o l) in
        let G : PartOf f (p + o) v = part_within f p l o (u32_at (drop o l) 0) F in
        rw (kind_of (label_unicode v), place_of (label_unicode v), text_placed f (p + o) v true (label_unicode v) (label_offset v) G)
    volume_placed false = refl

    network_placed : (b : Bool) → network_here (network_at b p l o) ≡ cond b (network_value (take (u32_at (drop o l) 0) (drop o l))) no_network_c
    network_placed true =
        let v : List ℕ = take (u32_at (drop o l) 0) (drop o l) in
        let G : PartOf f (p + o) v = part_within f p l o (u32_at (drop o l) 0) F in
        rw (
          text_placed f (p + o) v true false (u32_at v 8) G,
          text_placed f (p + o) v (has_device v) false (u32_at v 12) G,
          text_placed f (p + o) v (network_unicode v) true (u32_at v 20) G,
          text_placed f (p + o) v (has_device_unicode v) true (u32_at v 24) G,
        )
    network_placed false = refl

  further_placed : (p : ℕ) (l : List ℕ) → PartOf f p l → head_ok l ≡ true → bytes_at f (further_place p l) ≡ further_in (info_head l) l
  further_placed p l F e = go (long_head l) (head_inside (info_head l) (length l) e)
    where
      go : (u : Bool) → (u ≡ true → info_head l ≤ length l) → bytes_at f (cond u (place (p + 0x24) (info_head l - 0x24)) no_place) ≡ cond u (take (info_head l - 0x24) (drop 0x24 l)) []
      go true h = sym (F.same 0x24 (info_head l - 0x24) (omega (arith, h refl)))
      go false h = refl

  info_value_lem : (p : ℕ) (l : List ℕ) → PartOf f p l → head_ok l ≡ true → info_at (info_fields p l) ≡ info_value l
  info_value_lem p l F e =
      rw (
        volume_placed p l F (u32_at l 12) (has_local l),
        text_placed f p l (has_local l) false (u32_at l 16) F,
        network_placed p l F (u32_at l 20) (has_network l),
        text_placed f p l true false (u32_at l 24) F,
        text_placed f p l (has_local_unicode l) true (u32_at l 28) F,
        text_placed f p l (long_head l) true (u32_at l 32) F,
        further_placed p l F e,
      )

  info-Placed : Placed f (info profile) info_at (info_r profile)
  info-Placed = record {
    placed = λ p.
        let s : List ℕ = drop p f in
        let n : ℕ = info_size s in
        tests_placed f info_at (section 2 p) (sized_tests 2 4 info_size (λ n. leb 0x1C n else INFO at 0 ∷ []) (info_rules profile) info_value s) (info_fields p (take n s)) (info_value (take n s)) n
        (λ c.
        let l : List ℕ = take n s in
        let g = sized_holds 2 4 info_size (λ n. leb 0x1C n else INFO at 0 ∷ []) (info_rules profile) info_value s c in
        info_value_lem p l (part_of f p n) (info_head_holds profile l (Pass-split (info_head_tests profile l) (info_piece_tests l) g.judged).0).head);
  }

  -- ---- blocks: all of them as one body

  abbrev blocks_place : Section (List ℕ) → Place
  blocks_place c = place c.start (sum c.read)

  blocks-Placed : Placed f (found blocks) (λ c. bytes_at f (blocks_place c)) blocks_r
  blocks-Placed = record { placed = λ p. go p (blocks p (drop p f)) refl }
    where
      go : (p : ℕ) (r : Outcome (List ℕ)) → blocks p (drop p f) ≡ r
          → mapped (λ c. bytes_at f (blocks_place c)) (and_then r (λ a n. got (record { there = true; start = p; len = n; read = a }) n)) ≡ blocks_r p (drop p f)
      go p (got ls n) i = rw i
      go p (refused x y) i = rw i

  -- ---- the whole

  abbrev string-section-placed : (flags k : ℕ) → Placed f (string_section flags k) (λ c. bytes_at f c.read) (optional (string_there k flags) [] (string_r (k + 1) (strings_unicode flags)))
  string-section-placed flags k = section_Placed f (string_there k flags) no_place [] refl (string-Placed (k + 1) (strings_unicode flags))

  abbrev view_tail : Tail → TailC
  view_tail =
      both (λ c. bytes_at f c.read) (both (λ c. info_at c.read) (both (λ c. bytes_at f c.read) (both (λ c. bytes_at f c.read)
      (both (λ c. bytes_at f c.read) (both (λ c. bytes_at f c.read) (both (λ c. bytes_at f c.read) (λ c. bytes_at f (blocks_place c))))))))

  tail-Placed : (flags : ℕ) → Placed f (tail profile flags) view_tail (tail-s profile flags).reader
  tail-Placed flags =
      then-Placed f (section_Placed f (items_there flags) no_place [] refl items-Placed)
      (then-Placed f (section_Placed f (info_there flags) no_info no_info_c refl info-Placed)
      (then-Placed f (string-section-placed flags name_bit)
      (then-Placed f (string-section-placed flags relative_bit)
      (then-Placed f (string-section-placed flags workdir_bit)
      (then-Placed f (string-section-placed flags arguments_bit)
      (then-Placed f (string-section-placed flags icon_bit) blocks-Placed))))))

  sections-Placed : Placed f (sections profile) (both (λ c. c.read) view_tail) (file_r profile)
  unfolding sections file_r
  sections-Placed = chain-Placed f (λ (h : Header). (tail-s profile h.flags).reader) (found-Placed f header-Placed) (λ a. tail-Placed a.read.flags)

-- reading for places and reading for contents answer alike
pub decode_is : (profile : Profile) (f : List ℕ) → decode profile f ≡ mapped (λ c. bodies_of f (record_of c)) (shortcut profile f)
unfolding decode shortcut
decode_is profile f = go (leb (length f) most) (sections profile 0 f) refl
  where
    go₂ : (r : Outcome Sections) → sections profile 0 f ≡ r
        → and_then (file_r profile 0 f) (λ c n. tests (section 9 (n - 4)) (eqb n (length f) else TRAIL at 4 ∷ []) (got (to_contents c) n))
        ≡ mapped (λ c. bodies_of f (record_of c)) (and_then r (λ c n. tests (section 9 (n - 4)) (eqb n (length f) else TRAIL at 4 ∷ []) (got c n)))
    go₂ (got c n) i =
        let e : file_r profile 0 f ≡ got (both (λ c. c.read) (view_tail profile f) c) n = sym ((sections-Placed profile f).placed 0) ∙ ap (mapped (both (λ c. c.read) (view_tail profile f))) i in
        rw e (go₃ (eqb n (length f)))
      where
        go₃ : (b : Bool) → cond b (got (to_contents (both (λ c. c.read) (view_tail profile f) c)) n) (refused TRAIL (spot_at (section 9 (n - 4)) 4))
            ≡ mapped (λ c. bodies_of f (record_of c)) (cond b (got c n) (refused TRAIL (spot_at (section 9 (n - 4)) 4)))
        go₃ true = refl
        go₃ false = refl
    go₂ (refused x y) i =
        let e : file_r profile 0 f ≡ refused x y = sym ((sections-Placed profile f).placed 0) ∙ ap (mapped (both (λ c. c.read) (view_tail profile f))) i in
        rw e

    go : (b : Bool) (r : Outcome Sections) → sections profile 0 f ≡ r
        → cond b (and_then (file_r profile 0 f) (λ c n. tests (section 9 (n - 4)) (eqb n (length f) else TRAIL at 4 ∷ []) (got (to_contents c) n))) (refused LONG (spot_at no_section most))
        ≡ mapped (λ c. bodies_of f (record_of c)) (cond b (and_then r (λ c n. tests (section 9 (n - 4)) (eqb n (length f) else TRAIL at 4 ∷ []) (got c n))) (refused LONG (spot_at no_section most)))
    go true r i = go₂ r i
    go false r i = refl
