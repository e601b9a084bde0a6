-- What reading gives: zeros for what is absent, the blocks of a walk, bodies inside the file, and sections end to end.
use mathlib.Core.Path.{◌≡◌, refl, ap}
use mathlib.Core.List.{List, [], ◌∷◌, ◌++◌}
use mathlib.Core.Bool.{Bool, true, false, ◌&&◌, cond}
use Prim.Native.Nat.{ℕ, ◌+◌, ◌-◌, ◌≤◌, ◌<◌}
use native.Mathlib.Omega.{arith}
use lib.ListN.{length, take, drop, length-take, length-drop}
use lib.Seq.{length-take-le, drop-drop}
use lib.Dec.{leb}
use borrow.Author.Tests.{leb-true, le-leb, ltb-true}
use Rattle.octets.specs.Numbers.{u16_at, u32_at}
use Rattle.octets.specs.Characters.{bytes_of, characters, before_zero}
use Rattle.octets.proofs.CharacterLaws.{characters_fit, bytes_of-le, bytes_of-add}
use Rattle.format.specs.declared.Profile.{Profile}
use Rattle.format.specs.declared.Place.{Place}
use Rattle.format.specs.declared.Info.{Info}
use Rattle.format.specs.declared.Header.{Header}
use Rattle.format.specs.declared.Volume.{Volume}
use Rattle.format.specs.declared.Network.{Network}
use Rattle.format.specs.declared.Fault.TheVariants.{Info as INFO}
use Rattle.format.specs.Tests.{got, place, no_place, ◌else◌at◌, Reader, chain, ◌then◌, section}
use Rattle.format.specs.Header.{header}
use Rattle.format.specs.Items.{items_length, items_rules, items}
use Rattle.format.specs.Pieces.{text_ends, text_length, text_piece, text_place, tests_of}
use Rattle.format.specs.Volume.{label_unicode, label_offset, label_of, label_place, label_kind, no_volume, volume_at, volume_fields, volume_rules, volume_piece}
use Rattle.format.specs.Network.{network_flags, has_device, network_unicode, network_head, network_at, network_fields, no_network, network_head_tests, network_rules, network_piece, has_device_unicode}
use Rattle.format.specs.Info.{info_size, info_head, long_head, head_ok, has_local, has_network, further_place, info_head_tests, info_rules, info_fields, info, no_info, has_local_unicode, link_of, info_places}
use Rattle.format.specs.Presence.{items_there, info_there, name_bit, relative_bit, workdir_bit, arguments_bit, icon_bit, string_there, strings_unicode, device_there, provider_there, device_unicode_there}
use Rattle.format.specs.Strings.{string_length, string}
use Rattle.format.specs.Blocks.{blocks}
use Rattle.format.specs.Shortcut.{no_link, Section, Tail, Sections, blocks_of, found, section_if, string_section, tail, sections, sum, record_of}
use Rattle.format.specs.Bodies.{body_table, zeroed, all_inside}
use Rattle.format.specs.Contents.{present_link, present}
use Rattle.format.specs.Listing.{Row, row, block_rows, rows_of, EndToEnd}
use Rattle.format.proofs.Bools.{choose_twice}
use Rattle.format.proofs.Chains.{Pass, Pass-split, tests_elim, chain_elim}
use Rattle.format.proofs.Holds.{struct_holds, volume_holds, network_piece_tests, network_pieces_hold, info_piece_tests, info_head_holds, info_pieces_hold}
use Rattle.format.proofs.Sized.{sized_tests, sized_holds}
use Rattle.format.proofs.HeaderLaws.{header_size}
use Rattle.format.proofs.ItemsLaws.{items_value}
use Rattle.format.proofs.InfoLaws.{info_value, head_inside}
use Rattle.format.proofs.BlockLaws.{blocks_Walked}
use Rattle.format.proofs.PlaceLaws.{found_elim, Always, chain-Always, then-Always, section_Always, Lies, chain-Lies, then-Lies, found-Lies, section_Lies, inside_append, inside_last, inside_without, inside_more}

-- ---- zeros for what is absent; the blocks of a walk

-- what belongs to a part that is there or not: d stands for the absent part
part_kept : {A B : Type 0} (b : Bool) (a d : A) (g : A → B) → cond b (g (cond b a d)) (g d) ≡ g (cond b a d)
part_kept true a d g = refl
part_kept false a d g = refl

inner_kept : {A B : Type 0} (b : Bool) (a d : A) (P : A → Bool) (g : A → B) → cond (P a) (g a) (g d) ≡ g a → cond (b && P (cond b a d)) (g (cond b a d)) (g d) ≡ g (cond b a d)
inner_kept true a d P g e = e
inner_kept false a d P g e = refl

module _ (p : ℕ) (l : List ℕ) where
  abbrev i : Info
  i = info_fields p l

  abbrev volume : Volume
  volume = volume_fields (p + u32_at l 12) (take (u32_at (drop (u32_at l 12) l) 0) (drop (u32_at l 12) l))

  abbrev volume-kept : {B : Type 0} (g : Volume → B) → cond (has_local l) (g i.volume) (g no_volume) ≡ g i.volume
  volume-kept g = part_kept (has_local l) volume no_volume g

  abbrev v : List ℕ
  v = take (u32_at (drop (u32_at l 20) l) 0) (drop (u32_at l 20) l)

  abbrev network : Network
  network = network_fields (p + u32_at l 20) v

  abbrev network-kept : {B : Type 0} (g : Network → B) → cond (has_network l) (g i.network) (g no_network) ≡ g i.network
  network-kept g = part_kept (has_network l) network no_network g

  abbrev name-kept : {B : Type 0} (P : Network → Bool) (g : Network → B) → cond (P network) (g network) (g no_network) ≡ g network
      → cond (has_network l && P i.network) (g i.network) (g no_network) ≡ g i.network
  name-kept P g e = inner_kept (has_network l) network no_network P g e

  link_present : present_link (link_of i) ≡ link_of i
  link_present =
      rw (
        volume-kept (λ v. v.drive),
        volume-kept (λ v. v.serial),
        volume-kept (λ v. label_kind v.label),
        network-kept (λ n. n.flags),
        name-kept (λ n. provider_there n.flags) (λ n. n.provider) (choose_twice (provider_there (network_flags v)) (u32_at v 16) 0),
        network-kept (λ n. n.unicode),
      )

-- LinkInfo's slots, with zeros for what is absent
abbrev kept_info : ℕ → Info → List Place
kept_info flags i = take 9 (drop 1 (zeroed (body_table flags (link_of i)) (no_place ∷ info_places i)))

places_present : (flags p : ℕ) (l : List ℕ) → info_there flags ≡ true → kept_info flags (info_fields p l) ≡ info_places (info_fields p l)
places_present flags p l e =
    let v : List ℕ = v p l in
    rw (
      e,
      volume-kept p l (λ v. label_place v.label),
      choose_twice (has_local l) (place (p + u32_at l 16) (text_length false (drop (u32_at l 16) l))) no_place,
      network-kept p l (λ n. n.net),
      name-kept p l (λ n. device_there n.flags) (λ n. n.device) (choose_twice (has_device v) _ no_place),
      name-kept p l (λ n. n.unicode) (λ n. n.net_unicode) (choose_twice (network_unicode v) _ no_place),
      name-kept p l (λ n. device_unicode_there n.unicode n.flags) (λ n. n.device_unicode) (choose_twice (has_device_unicode v) _ no_place),
      choose_twice (has_local_unicode l) (place (p + u32_at l 28) (text_length true (drop (u32_at l 28) l))) no_place,
      choose_twice (long_head l) (place (p + u32_at l 32) (text_length true (drop (u32_at l 32) l))) no_place,
    )

module _ (profile : Profile) (f : List ℕ) where
  abbrev Kept : Bool → Place → Type 0
  Kept there b = cond there b no_place ≡ b

  body_Always : (P : Reader Place) (b : Bool) → Always f (section_if b no_place P) (λ c. Kept b c.read)
  body_Always P b = section_Always f P b no_place (Kept b) (λ e. rw e) (λ e p a n i. rw e)

  abbrev string-always : (flags k : ℕ) → Always f (string_section flags k) (λ c. Kept (string_there k flags) c.read)
  string-always flags k = body_Always (string (k + 1) (strings_unicode flags)) (string_there k flags)

  abbrev KeptInfo : ℕ → Info → Type 0
  KeptInfo flags i = (cond (info_there flags) (present_link (link_of i)) no_link ≡ link_of i) × ((kept_info flags i ≡ info_places i) × Kept (info_there flags) i.further)

  info-Always : (flags : ℕ) → Always f (section_if (info_there flags) no_info (info profile)) (λ c. KeptInfo flags c.read)
  info-Always flags =
      section_Always f (info profile) (info_there flags) no_info (KeptInfo flags) (λ e. (rw e, (rw e, rw e))) (λ e p a n.
      let s : List ℕ = drop p f in
      let l : List ℕ = take (info_size s) s in
      tests_elim (λ a n. KeptInfo flags a) (section 2 p) (sized_tests 2 4 info_size (λ n. leb 0x1C n else INFO at 0 ∷ []) (info_rules profile) info_value s)
      (info_fields p l) (info_size s) (λ c. (rw e (link_present p l), (places_present flags p l e, rw e))) a n)

  -- the blocks are what a walk from their start on gives
  abbrev Walk : Section (List ℕ) → Type 0
  Walk c = blocks c.start (drop c.start f) ≡ got c.read c.len

  blocks-Always : Always f (found blocks) Walk
  blocks-Always = record { always = λ p c n e. found_elim blocks p (drop p f) (λ c n. Walk c) (λ ls n i. i) c n e }

  abbrev Known : ℕ → Tail → Type 0
  Known flags c =
      let (items, (info, (name, (relative, (workdir, (arguments, (icon, blocks))))))) = c in
      Kept (items_there flags) items.read
      × (KeptInfo flags info.read
      × (Kept (string_there name_bit flags) name.read
      × (Kept (string_there relative_bit flags) relative.read
      × (Kept (string_there workdir_bit flags) workdir.read
      × (Kept (string_there arguments_bit flags) arguments.read
      × (Kept (string_there icon_bit flags) icon.read × Walk blocks))))))

  tail-Always : (flags : ℕ) → Always f (tail profile flags) (Known flags)
  tail-Always flags =
      then-Always f (body_Always items (items_there flags))
      (then-Always f (info-Always flags)
      (then-Always f (string-always flags name_bit)
      (then-Always f (string-always flags relative_bit)
      (then-Always f (string-always flags workdir_bit)
      (then-Always f (string-always flags arguments_bit)
      (then-Always f (string-always flags icon_bit) blocks-Always))))))

  header-Always : Always f (found (header profile)) (λ c. Unit {0})
  header-Always = record { always = λ p a n e. tt }

  Known-Always : Always f (chain (found (header profile)) (λ h. tail profile h.read.flags)) (λ c. Unit {0} × Known c.0.read.flags c.1)
  Known-Always =
      chain-Always f (λ (h : Section Header). tail profile h.read.flags) (λ (h : Section Header). Known h.read.flags) header-Always (λ h. tail-Always h.read.flags)

  -- reading puts zeros there: what it gives is what is present
  pub read_present : (c : Sections) (n : ℕ) → sections profile 0 f ≡ got c n → present (record_of c) ≡ record_of c
  unfolding sections present
  read_present c n e =
      let (z, (items, (info, (name, (relative, (workdir, (arguments, (icon, walk)))))))) = Known-Always.always 0 c n e in
      let places = ap (λ (ps : List Place). c.1.0.read ∷ ps ++ drop 10 (record_of c).places) info.1.0 in
      rw (items, name, relative, workdir, arguments, icon, info.1.1, info.0) (ap (λ (ps : List Place). record { header = c.0.read; link = link_of c.1.1.0.read; places = ps }) places)

  -- and its blocks are those of a walk
  pub read_Walk : (c : Sections) (n : ℕ) → sections profile 0 f ≡ got c n → Walk (blocks_of c)
  unfolding sections
  read_Walk c n e =
      let (z, (items, (info, (name, (relative, (workdir, (arguments, (icon, walk)))))))) = Known-Always.always 0 c n e in
      walk

-- ---- the blocks begin after the header

-- the section that is read last begins no earlier than the reader does
record Late {A : Type 0} (P : Reader A) (last : A → ℕ) : Type 0 where
  late : (p : ℕ) (s : List ℕ) (a : A) (n : ℕ) → P p s ≡ got a n → p ≤ last a

then-Late : {A B : Type 0} (P : Reader A) {Q : Reader B} {last : B → ℕ} → Late Q last → Late (P then Q) (λ c. last c.1)
then-Late P {Q} {last} L = record {
  late = λ p s c k e.
      chain_elim P (λ a. Q) p s (λ c k. p ≤ last c.1) (λ a n b m i j. omega (arith, L.late (p + n) (drop n s) b m j)) c k e;
}

blocks_last : Late (found blocks) (λ c. c.start)
blocks_last = record { late = λ p s c n e. found_elim blocks p s (λ c n. p ≤ c.start) (λ ls n i. omega arith) c n e }

tail-Late : (profile : Profile) (flags : ℕ) → Late (tail profile flags) (λ c. c.1.1.1.1.1.1.1.start)
tail-Late profile flags =
    then-Late (section_if (items_there flags) no_place items)
    (then-Late (section_if (info_there flags) no_info (info profile))
    (then-Late (string_section flags name_bit)
    (then-Late (string_section flags relative_bit)
    (then-Late (string_section flags workdir_bit)
    (then-Late (string_section flags arguments_bit)
    (then-Late (string_section flags icon_bit) blocks_last))))))

pub blocks_late : (profile : Profile) (s : List ℕ) (c : Sections) (n : ℕ) → sections profile 0 s ≡ got c n → 76 ≤ (blocks_of c).start
unfolding sections
blocks_late profile s c n e =
    chain_elim (found (header profile)) (λ (h : Section Header). tail profile h.read.flags) 0 s (λ c n. 76 ≤ (blocks_of c).start)
    (λ a k b m i j.
    let z : 76 ≤ k = found_elim (header profile) 0 s (λ a k. 76 ≤ k) (λ h k x. omega (arith, header_size profile 0 s h k x)) a k i in
    omega (arith, (tail-Late profile a.read.flags).late (0 + k) (drop k s) b m j))
    c n e

-- ---- bodies inside

-- a text that ends within l
text_within : (u : Bool) (l : List ℕ) (o : ℕ) → text_ends u (drop o l) ≡ true → o + text_length u (drop o l) ≤ length l
text_within u l o e =
    let c : List ℕ = characters u (drop o l) in
    let h : before_zero c < length c = ltb-true _ _ e in
    let a = characters_fit u (drop o l) in
    let g : bytes_of u (before_zero c + 1) ≤ bytes_of u (length c) = bytes_of-le u (omega arith) in
    let d = bytes_of-add u (before_zero c) 1 in
    let o1 : 0 < bytes_of u 1 = some u in
    omega (arith, length-drop o l)
  where
    some : (u : Bool) → 0 < bytes_of u 1
    some true = omega arith
    some false = omega arith

abbrev Inside : ℕ → Place → Type 0
Inside n b = leb (b.at + b.len) n ≡ true

text_Inside : (h p : ℕ) (l : List ℕ) (b u : Bool) (i o n : ℕ) → p + length l ≤ n → Pass (tests_of h (text_piece b u l i o)) → Inside n (text_place b u p l o)
text_Inside h p l true u i o n k e =
    le-leb (p + o + text_length u (drop o l)) n (omega (arith, text_within u l o e.1.0))
text_Inside h p l false u i o n k e = le-leb (0 + 0) n (omega arith)

place_of : (u : Bool) (b : Place) → label_place (label_of u b) ≡ b
place_of true b = refl
place_of false b = refl

volume_Inside : (h p : ℕ) (l : List ℕ) (b : Bool) (i o n : ℕ) → p + length l ≤ n → Pass (tests_of h (volume_piece b l i o)) → Inside n (label_place (volume_at b p l o).label)
volume_Inside h p l true i o n k e =
    let c = struct_holds i o 0x11 volume_rules (drop o l) e.1 in
    let m : ℕ = u32_at (drop o l) 0 in
    let v : List ℕ = take m (drop o l) in
    let r : length v ≡ m = length-take-le m (drop o l) c.inside in
    let t = text_within (label_unicode v) v (label_offset v) (volume_holds v c.own).ends in
    rw (place_of (label_unicode v))
    (le-leb (p + o + label_offset v + text_length (label_unicode v) (drop (label_offset v) v)) n (omega (arith, length-drop o l)))
volume_Inside h p l false i o n k e = le-leb (0 + 0) n (omega arith)

record NetworkInside (n : ℕ) (k : Network) : Type 0 where
  net : Inside n k.net
  device : Inside n k.device
  net_unicode : Inside n k.net_unicode
  device_unicode : Inside n k.device_unicode

network_inside : (h p : ℕ) (l : List ℕ) (b : Bool) (i o n : ℕ) → p + length l ≤ n → Pass (tests_of h (network_piece b l i o)) → NetworkInside n (network_at b p l o)
network_inside h p l true i o n k e =
    let c = struct_holds i o 0x14 network_rules (drop o l) e.1 in
    let m : ℕ = u32_at (drop o l) 0 in
    let v : List ℕ = take m (drop o l) in
    let r : length v ≡ m = length-take-le m (drop o l) c.inside in
    let j : p + o + length v ≤ n = omega (arith, length-drop o l) in
    let g : ℕ = network_head (network_unicode v) in
    let d = network_pieces_hold v (Pass-split (network_head_tests v) (network_piece_tests v) c.own).1 in
    record {
      net = text_Inside g (p + o) v true false 8 (u32_at v 8) n j d.net;
      device = text_Inside g (p + o) v (has_device v) false 12 (u32_at v 12) n j d.device;
      net_unicode = text_Inside g (p + o) v (network_unicode v) true 20 (u32_at v 20) n j d.net_unicode;
      device_unicode = text_Inside g (p + o) v (has_device_unicode v) true 24 (u32_at v 24) n j d.device_unicode;
    }
network_inside h p l false i o n k e =
    let z : Inside n no_place = le-leb (0 + 0) n (omega arith) in
    record { net = z; device = z; net_unicode = z; device_unicode = z }

further_Inside : (p : ℕ) (l : List ℕ) (n : ℕ) → p + length l ≤ n → head_ok l ≡ true → Inside n (further_place p l)
further_Inside p l n k e = go (long_head l) refl
  where
    go : (u : Bool) → long_head l ≡ u → Inside n (cond u (place (p + 0x24) (info_head l - 0x24)) no_place)
    go true t = le-leb (p + 0x24 + (info_head l - 0x24)) n (omega (arith, head_inside (info_head l) (length l) e t, leb-true 0x24 (info_head l) t))
    go false t = le-leb (0 + 0) n (omega arith)

-- LinkInfo's bodies: its further bytes, then the texts
abbrev info_bodies : Info → List Place
info_bodies i = i.further ∷ info_places i

-- ten places, each inside
ten : (n : ℕ) (i : Info) → Inside n (label_place i.volume.label) → Inside n i.local → NetworkInside n i.network → Inside n i.suffix
    → Inside n i.local_unicode → Inside n i.suffix_unicode → Inside n i.further → all_inside n (info_bodies i) ≡ true
ten n i a b c d e g h = rw (h, a, b, c.net, c.device, c.net_unicode, c.device_unicode, d, e, g)

info_inside : (profile : Profile) (f : List ℕ) (p : ℕ) (i : Info) (n : ℕ) → info profile p (drop p f) ≡ got i n → all_inside (p + n) (info_bodies i) ≡ true
info_inside profile f p i n =
    let s : List ℕ = drop p f in
    let m : ℕ = info_size s in
    let l : List ℕ = take m s in
    tests_elim (λ i n. all_inside (p + n) (info_bodies i) ≡ true) (section 2 p) (sized_tests 2 4 info_size (λ n. leb 0x1C n else INFO at 0 ∷ []) (info_rules profile) info_value s) (info_fields p l) m
    (λ c.
    let k : p + length l ≤ p + m = omega (arith, length-take m s) in
    let g = sized_holds 2 4 info_size (λ n. leb 0x1C n else INFO at 0 ∷ []) (info_rules profile) info_value s c in
    let (head, pieces) = Pass-split (info_head_tests profile l) (info_piece_tests l) g.judged in
    let d = info_pieces_hold l pieces in
    let h : ℕ = info_head l in
    ten (p + m) (info_fields p l)
    (volume_Inside h p l (has_local l) 12 (u32_at l 12) (p + m) k d.volume)
    (text_Inside h p l (has_local l) false 16 (u32_at l 16) (p + m) k d.local)
    (network_inside h p l (has_network l) 20 (u32_at l 20) (p + m) k d.network)
    (text_Inside h p l true false 24 (u32_at l 24) (p + m) k d.suffix)
    (text_Inside h p l (has_local_unicode l) true 28 (u32_at l 28) (p + m) k d.local_unicode)
    (text_Inside h p l (long_head l) true 32 (u32_at l 32) (p + m) k d.suffix_unicode)
    (further_Inside p l (p + m) k (info_head_holds profile l head).head))
    i n

one : (n : ℕ) (b : Place) → Inside n b → all_inside n (b ∷ []) ≡ true
one n b e = rw e

items_inside : (f : List ℕ) (p : ℕ) (b : Place) (n : ℕ) → items p (drop p f) ≡ got b n → all_inside (p + n) (b ∷ []) ≡ true
items_inside f p b n =
    let s : List ℕ = drop p f in
    let m : ℕ = items_length s in
    tests_elim (λ b n. all_inside (p + n) (b ∷ []) ≡ true) (section 1 p) (sized_tests 1 2 items_length (λ n. []) items_rules items_value s) (place (p + 2) (m - 4)) m
    (λ c. one (p + m) (place (p + 2) (m - 4)) (le-leb (p + 2 + (m - 4)) (p + m) (omega arith)))
    b n

string_inside : (f : List ℕ) (k : ℕ) (u : Bool) (p : ℕ) (b : Place) (n : ℕ) → string k u p (drop p f) ≡ got b n → all_inside (p + n) (b ∷ []) ≡ true
string_inside f k u p b n =
    let s : List ℕ = drop p f in
    let m : ℕ = bytes_of u (u16_at s 0) in
    tests_elim (λ b n. all_inside (p + n) (b ∷ []) ≡ true) (section k p) (sized_tests k 2 (string_length u) (λ n. []) (λ l. []) (λ l. drop 2 l) s) (place (p + 2) m) (2 + m)
    (λ c. one (p + (2 + m)) (place (p + 2) m) (le-leb (p + 2 + m) (p + (2 + m)) (omega arith)))
    b n

-- ---- the whole

block_rows_lem : (p q : ℕ) (lengths : List ℕ) → p + sum lengths + 4 ≡ q → EndToEnd p (block_rows p lengths) q
block_rows_lem p q [] e = (refl, omega arith)
block_rows_lem p q (n ∷ ns) e = (refl, block_rows_lem (p + n) q ns (omega arith))

module _ (profile : Profile) (f : List ℕ) where
  blocks-Lies : Lies f (found blocks) (λ c. block_rows c.start c.read) (λ c. place c.start (sum c.read) ∷ [])
  blocks-Lies = record {
    listed = λ p c n e.
        found_elim blocks p (drop p f) (λ c n. EndToEnd p (block_rows c.start c.read) (p + n))
        (λ ls n i. block_rows_lem p (p + n) ls (omega (arith, (blocks_Walked [] p (drop p f) ls n i).adds)))
        c n e;
    inside = λ p c n e.
        found_elim blocks p (drop p f) (λ c n. all_inside (p + n) (place c.start (sum c.read) ∷ []) ≡ true)
        (λ ls n i. one (p + n) (place p (sum ls)) (le-leb (p + sum ls) (p + n) (omega (arith, (blocks_Walked [] p (drop p f) ls n i).adds))))
        c n e;
  }

  none_inside : (n : ℕ) → all_inside n (no_place ∷ []) ≡ true
  none_inside n = one n no_place (le-leb (0 + 0) n (omega arith))

  no_info_inside : (n : ℕ) → all_inside n (info_bodies no_info) ≡ true
  no_info_inside n =
      let z : Inside n no_place = le-leb (0 + 0) n (omega arith) in
      ten n no_info z z (record { net = z; device = z; net_unicode = z; device_unicode = z }) z z z z

  string_Lies : (flags k j : ℕ) → Lies f (string_section flags k) (row j) (λ c. c.read ∷ [])
  string_Lies flags k j = section_Lies f (string (k + 1) (strings_unicode flags)) j (λ b. b ∷ []) (string_there k flags) no_place none_inside (string_inside f (k + 1) (strings_unicode flags))

  abbrev tail_rows : Tail → List Row
  tail_rows c =
      let (items, (info, (name, (relative, (workdir, (arguments, (icon, blocks))))))) = c in
      row 1 items
      ++ (row 2 info
      ++ (row 3 name
      ++ (row 4 relative
      ++ (row 5 workdir
      ++ (row 6 arguments
      ++ (row 7 icon ++ block_rows blocks.start blocks.read))))))

  abbrev tail_bodies : Tail → List Place
  tail_bodies c =
      let (items, (info, (name, (relative, (workdir, (arguments, (icon, blocks))))))) = c in
      (items.read ∷ [])
      ++ (info_bodies info.read
      ++ ((name.read ∷ [])
      ++ ((relative.read ∷ [])
      ++ ((workdir.read ∷ [])
      ++ ((arguments.read ∷ [])
      ++ ((icon.read ∷ []) ++ (place blocks.start (sum blocks.read) ∷ [])))))))

  tail-Lies : (flags : ℕ) → Lies f (tail profile flags) tail_rows tail_bodies
  tail-Lies flags =
      then-Lies f (section_Lies f items 1 (λ b. b ∷ []) (items_there flags) no_place none_inside (items_inside f))
      (then-Lies f (section_Lies f (info profile) 2 info_bodies (info_there flags) no_info no_info_inside (info_inside profile f))
      (then-Lies f (string_Lies flags name_bit 3)
      (then-Lies f (string_Lies flags relative_bit 4)
      (then-Lies f (string_Lies flags workdir_bit 5)
      (then-Lies f (string_Lies flags arguments_bit 6)
      (then-Lies f (string_Lies flags icon_bit 7) blocks-Lies))))))

  sections_lie : Lies f (sections profile) rows_of (λ c. tail_bodies c.1)
  unfolding sections
  sections_lie = chain-Lies f (λ h. tail profile h.read.flags) (found-Lies f (header profile) 0 (λ h. []) (λ p a n e. refl)) (λ h. tail-Lies h.read.flags)

  -- the sections lie end to end
  pub read_EndToEnd : (c : Sections) (n : ℕ) → sections profile 0 f ≡ got c n → EndToEnd 0 (rows_of c) n
  read_EndToEnd c n e =
      let z : 0 + n ≡ n = omega arith in
      rw z at (sections_lie.listed 0 c n e)

  -- the bodies lie inside
  pub read_inside : (c : Sections) (n : ℕ) → sections profile 0 f ≡ got c n → n ≤ length f → all_inside (length f) (record_of c).places ≡ true
  read_inside c n e h =
      inside_last (length f) c.1.0.read c.1.1.0.read.further (drop 2 (tail_bodies c.1))
      (inside_more (0 + n) (length f) (tail_bodies c.1) (omega arith) (sections_lie.inside 0 c n e))

-- ---- the bodies before the blocks end before the blocks start

-- `last` is where the blocks start
record Before {A : Type 0} (f : List ℕ) (P : Reader A) (last : A → ℕ) (bodies : A → List Place) : Type 0 where
  late : (p : ℕ) (a : A) (n : ℕ) → P p (drop p f) ≡ got a n → p ≤ last a
  before : (p : ℕ) (a : A) (n : ℕ) → P p (drop p f) ≡ got a n → all_inside (last a) (bodies a) ≡ true

module _ (f : List ℕ) where
  chain-Before : {A B : Type 0} {P : Reader A} (Q : A → Reader B) {R : A → List Row} {K : A → List Place} {last : B → ℕ} {L : B → List Place}
      → Lies f P R K → ((a : A) → Before f (Q a) last L) → Before f (chain P Q) (λ c. last c.1) (λ c. K c.0 ++ L c.1)
  chain-Before {P = P} Q {K = K} {last = last} {L = L} F G = record {
    late = λ p c k e.
        chain_elim P Q p (drop p f) (λ c k. p ≤ last c.1) (λ a n b m i j. omega (arith, (G a).late (p + n) b m (rw drop-drop at j))) c k e;
    before = λ p c k e.
        chain_elim P Q p (drop p f) (λ c k. all_inside (last c.1) (K c.0 ++ L c.1) ≡ true)
        (λ a n b m i j.
        let h : Q a (p + n) (drop (p + n) f) ≡ got b m = rw drop-drop at j in
        inside_append (last b) (K a) (L b) (inside_more (p + n) (last b) (K a) ((G a).late (p + n) b m h) (F.inside p a n i)) ((G a).before (p + n) b m h))
        c k e;
  }

  then-Before : {A B : Type 0} {P : Reader A} {Q : Reader B} {R : A → List Row} {K : A → List Place} {last : B → ℕ} {L : B → List Place}
      → Lies f P R K → Before f Q last L → Before f (P then Q) (λ c. last c.1) (λ c. K c.0 ++ L c.1)
  then-Before {Q = Q} F G = chain-Before (λ a. Q) F (λ a. G)

  blocks-Before : Before f (found blocks) (λ c. c.start) (λ c. [])
  blocks-Before = record { late = λ p c n e. blocks_last.late p (drop p f) c n e; before = λ p c n e. refl }

  abbrev front_bodies : Tail → List Place
  front_bodies c =
      let (items, (info, (name, (relative, (workdir, (arguments, (icon, blocks))))))) = c in
      (items.read ∷ [])
      ++ (info_bodies info.read ++ ((name.read ∷ []) ++ ((relative.read ∷ []) ++ ((workdir.read ∷ []) ++ ((arguments.read ∷ []) ++ ((icon.read ∷ []) ++ []))))))

  tail-Before : (profile : Profile) (flags : ℕ) → Before f (tail profile flags) (λ c. c.1.1.1.1.1.1.1.start) front_bodies
  tail-Before profile flags =
      then-Before (section_Lies f items 1 (λ b. b ∷ []) (items_there flags) no_place (none_inside profile f) (items_inside f))
      (then-Before (section_Lies f (info profile) 2 info_bodies (info_there flags) no_info (no_info_inside profile f) (info_inside profile f))
      (then-Before (string_Lies profile f flags name_bit 3)
      (then-Before (string_Lies profile f flags relative_bit 4)
      (then-Before (string_Lies profile f flags workdir_bit 5) (then-Before (string_Lies profile f flags arguments_bit 6) (then-Before (string_Lies profile f flags icon_bit 7) blocks-Before))))))

  -- the slots before that of the blocks
  pub read_before : (profile : Profile) (c : Sections) (n : ℕ) → sections profile 0 f ≡ got c n → all_inside (blocks_of c).start (take 15 (record_of c).places) ≡ true
  unfolding sections
  read_before profile c n e =
      inside_without (blocks_of c).start c.1.0.read c.1.1.0.read.further (drop 2 (front_bodies c.1))
      ((chain-Before (λ (h : Section Header). tail profile h.read.flags) (found-Lies f (header profile) 0 (λ h. []) (λ p a n e. refl)) (λ h. tail-Before profile h.read.flags)).before 0 c n e)
