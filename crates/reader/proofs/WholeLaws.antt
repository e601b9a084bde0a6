-- What is known of an accepted shortcut by where its sections end: its record, and that LinkInfo keeps its rules.
use mathlib.Core.Path.{◌≡◌, refl, sym, ap, subst, ◌∙◌}
use mathlib.Core.List.{List, [], ◌∷◌, ◌++◌}
use mathlib.Core.Bool.{Bool, true, false, ◌||◌, cond}
use Prim.Native.Nat.{ℕ, zero, ◌+◌, ◌≤◌, ◌-◌}
use native.Mathlib.Omega.{arith}
use lib.ListN.{length, take, drop, set, replicate, length-take, length-drop}
use lib.Seq.{take-take}
use lib.Dec.{leb}
use borrow.Author.Tests.{leb-true}
use Rattle.octets.specs.Numbers.{Bytes, number_at, u16_at, u32_at}
use Rattle.octets.specs.Characters.{bytes_of}
use Rattle.octets.proofs.NumberLaws.{number_same, number_drop}
use Rattle.format.specs.declared.Profile.{Profile}
use Rattle.format.specs.declared.Fault.{Fault}
use Rattle.format.specs.declared.Fault.TheVariants.{Cut as CUT, Info as INFO}
use Rattle.format.specs.declared.Header.{Header}
use Rattle.format.specs.declared.Record.{Record}
use Rattle.format.specs.declared.Place.{Place}
use Rattle.format.specs.declared.Info.{Info}
use Rattle.format.specs.declared.Link.{Link}
use Rattle.format.specs.Bodies.{place_in, items_slot, local_slot, net_slot, suffix_slot, string_slot, blocks_slot}
use Rattle.format.specs.Tests.{got, ◌else◌at◌, section, place, no_place, all}
use Rattle.format.specs.Presence.{items_there, info_there, local_there, network_there, name_bit, relative_bit, workdir_bit, arguments_bit, icon_bit, string_there, strings_unicode}
use Rattle.format.specs.Header.{header, header_fields, header_rules}
use Rattle.format.specs.Items.{items, item_tests, items_length, items_rules}
use Rattle.format.specs.Strings.{string, string_length}
use Rattle.format.specs.Info.{info, no_info, link_of, info_places, info_fields, info_flags, has_local, has_network, info_size, info_rules, info_head_tests, head_ok, info_head, info_pieces}
use Rattle.format.specs.Pieces.{piece_tests}
use Rattle.format.specs.Writing.{bits}
use Rattle.format.specs.Shortcut.{Section, Sections, blocks_of, most, record_of, reading, sum}
use Rattle.format.proofs.Chains.{Pass, tests_elim, no_true, Pass-split, Pass-all}
use Rattle.format.proofs.BlockLaws.{blocks_Walked}
use Rattle.format.proofs.FitsLaws.{accepted_fits}
use Rattle.info.specs.Steps.Found.{text_lengths}
use Rattle.info.specs.Steps.Putting.{Right, info_part}
use Rattle.fields.specs.Steps.Putting.{with_place}
use Rattle.fields.specs.Fields.{numbers_of, fields_of, are_record, record_from as fields_record}
use Rattle.fields.proofs.RoundTrip.{fields_record_lem, record_back}
use Rattle.reader.specs.declared.SectionEnds.{SectionEnds}
use Rattle.reader.specs.Steps.Finish.{ends_in, info_own, lengths_in, Whole}
use Rattle.reader.specs.Steps.Numbers.{with_header, with_strings}
use Rattle.reader.proofs.Found.{FoundAt, StringAt}
use Rattle.reader.proofs.OutlineLaws.{Reads, whole_held, sectioned, accepted, lengths_held}

-- ---- each section by where it starts and ends

string_body : (k : ℕ) (u : Bool) (p : ℕ) (l : List ℕ) {b : Place} {n : ℕ} → string k u p l ≡ got b n → (b ≡ place (p + 2) (n - 2)) × (2 ≤ n)
string_body k u p l {b} {n} e =
    let z : 2 + bytes_of u (u16_at l 0) - 2 ≡ bytes_of u (u16_at l 0) = omega arith in
    tests_elim (λ b n. (b ≡ place (p + 2) (n - 2)) × (2 ≤ n)) (section k p)
    (leb 2 (length l) else CUT at 0 ∷ leb (string_length u l) (length l) else CUT at 0 ∷ []) (place (p + 2) (bytes_of u (u16_at l 0))) (string_length u l) (λ h. (ap (place (p + 2)) (sym z), omega arith)) b n e

-- the place of a string that stands from p to q: after its count
abbrev pub body_between : Bool → ℕ → ℕ → Place
body_between b p q = cond b (place (p + 2) (q - p - 2)) no_place

record StringStands (b : Bool) (p q : ℕ) (held : Place) : Type 0 where
  after : p ≤ q
  least : b ≡ true → p + 2 ≤ q
  is : held ≡ body_between b p q

string_stands : {s : List ℕ} (flags k : ℕ) {p : ℕ} {v : Section Place} → StringAt s flags k p v → StringStands (string_there k flags) p (p + v.len) v.read
string_stands {s} flags k {p} {v} F = go (string_there k flags) F
  where
    u : Bool
    u = strings_unicode flags

    go : (b : Bool) → FoundAt s (string (k + 1) u) b no_place p v → StringStands b p (p + v.len) v.read
    go true F =
        let x = string_body (k + 1) u p (drop p s) (F.there refl) in
        let least : 2 ≤ v.len = x.1 in
        let n : p + v.len - p - 2 ≡ v.len - 2 = omega arith in
        record { after = omega arith; least = λ z. omega arith; is = rw n x.0 }
    go false F = record { after = omega arith; least = λ z. no_true z; is = (F.lacking refl).0 }

-- an item list has the two zero bytes at its end
two_left : (f : Fault) (i : ℕ) (l : List ℕ) → Pass (item_tests f i zero l) → 2 ≤ length l
unfolding item_tests
two_left f i [] h = no_true h.0
two_left f i (a ∷ []) h = no_true h.0
two_left f i (a ∷ b ∷ l) h = omega arith

items_body : (p : ℕ) (l : List ℕ) {b : Place} {n : ℕ} → items p l ≡ got b n → (b ≡ place (p + 2) (n - 4)) × (4 ≤ n)
items_body p l {b} {n} e =
    tests_elim (λ b n. (b ≡ place (p + 2) (n - 4)) × (4 ≤ n)) (section 1 p)
    (leb 2 (length l) else CUT at 0 ∷ leb (items_length l) (length l) else CUT at 0 ∷ items_rules (take (items_length l) l)) (place (p + 2) (items_length l - 4)) (items_length l)
    (λ h. let two = two_left _ 2 (drop 2 (take (items_length l) l)) h.1.1 in (refl, omega (arith, length-drop 2 (take (items_length l) l), length-take (items_length l) l)))
    b n e

record InfoKeeps (p : ℕ) (l : List ℕ) (i : Info) (n : ℕ) : Type 0 where
  least : 0x1C ≤ n
  inside : n ≤ length l
  head : head_ok (take n l) ≡ true
  pieces : all (piece_tests (info_head (take n l)) (info_pieces (take n l))) ≡ true
  is : i ≡ info_fields p (take n l)

info_keeps : (profile : Profile) (p : ℕ) (l : List ℕ) {i : Info} {n : ℕ} → info profile p l ≡ got i n → InfoKeeps p l i n
info_keeps profile p l {i} {n} e =
    let own = take (info_size l) l in
    tests_elim (InfoKeeps p l) (section 2 p)
    (leb 4 (length l) else CUT at 0 ∷ leb 0x1C (info_size l) else INFO at 0 ∷ leb (info_size l) (length l) else CUT at 0 ∷ info_rules profile own) (info_fields p own) (info_size l)
    (λ h.
    let rules = Pass-split (info_head_tests profile own) (piece_tests (info_head own) (info_pieces own)) h.1.1.1 in
    record {
      least = leb-true 0x1C (info_size l) h.1.0;
      inside = leb-true (info_size l) (length l) h.1.1.0;
      head = rules.0.0;
      pieces = Pass-all (piece_tests (info_head own) (info_pieces own)) rules.1;
      is = refl;
    })
    i n e

-- the header's numbers stand in the first 76 bytes
header_inside : (s : List ℕ) → header_fields (take 76 s) ≡ header_fields s
header_inside s =
    let same : (w i : ℕ) → i + w ≤ 76 → number_at w (take 76 s) i ≡ number_at w s i = λ w i h. number_same w 76 (take 76 s) s i (take-take 76 76 s (omega arith)) h in
    rw (
      same 4 20 (omega arith),
      same 4 24 (omega arith),
      same 8 28 (omega arith),
      same 8 36 (omega arith),
      same 8 44 (omega arith),
      same 4 52 (omega arith),
      same 4 56 (omega arith),
      same 4 60 (omega arith),
      same 2 64 (omega arith),
    )

header_said : (profile : Profile) (s : List ℕ) {h : Header} {n : ℕ} → header profile 0 s ≡ got h n → (h ≡ header_fields s) × (76 ≤ length s)
header_said profile s {h} {n} e =
    tests_elim (λ h n. (h ≡ header_fields s) × (76 ≤ length s)) (section 0 0) (leb 76 (length s) else CUT at 0 ∷ header_rules profile (take 76 s)) (header_fields (take 76 s)) 76
    (λ k. (header_inside s, leb-true 76 (length s) k.0))
    h n e

-- ---- the whole

-- the record's parts one by one
unfoldable pub record_from : Header → Place → Info → List Place → Place → Record
record_from h items info strings blocks = record { header = h; link = link_of info; places = items ∷ info_places info ++ (strings ++ blocks ∷ info.further ∷ []) }

-- the record r of s, whose sections end at e, and which LinkInfo it holds
pub record Laid (s : List ℕ) (r : Record) (e : SectionEnds) (texts : List ℕ) : Type 0 where
  pub small : length s ≤ 65536
  pub long : 76 ≤ length s
  pub flags : r.header.flags ≡ u32_at s 20
  pub read : Info
  pub held :
      r
      ≡ record_from (header_fields s) (cond (items_there r.header.flags) (place 78 (e.items - 80)) no_place) read
      (body_between (string_there name_bit r.header.flags) e.info e.name
      ∷ body_between (string_there relative_bit r.header.flags) e.name e.relative
      ∷ body_between (string_there workdir_bit r.header.flags) e.relative e.workdir
      ∷ body_between (string_there arguments_bit r.header.flags) e.workdir e.arguments
      ∷ body_between (string_there icon_bit r.header.flags) e.arguments e.icon
      ∷ [])
      (place e.icon (length s - 4 - e.icon))
  pub items : items_there r.header.flags ≡ true → 80 ≤ e.items
  pub info : (e.items ≤ e.info) × (e.info ≤ length s)
  pub name : (string_there name_bit r.header.flags ≡ true → e.info + 2 ≤ e.name) × (e.name ≤ 65536)
  pub relative : (string_there relative_bit r.header.flags ≡ true → e.name + 2 ≤ e.relative) × (e.relative ≤ 65536)
  pub workdir : (string_there workdir_bit r.header.flags ≡ true → e.relative + 2 ≤ e.workdir) × (e.workdir ≤ 65536)
  pub arguments : (string_there arguments_bit r.header.flags ≡ true → e.workdir + 2 ≤ e.arguments) × (e.arguments ≤ 65536)
  pub icon : (string_there icon_bit r.header.flags ≡ true → e.arguments + 2 ≤ e.icon) × (e.icon ≤ 65536)
  pub blocks : e.icon + 4 ≤ length s
  pub right : info_there r.header.flags ≡ true → Right e.items (info_own s e) texts
  pub said : info_there r.header.flags ≡ true → read ≡ info_fields e.items (info_own s e)
  pub lacking : info_there r.header.flags ≡ false → read ≡ no_info

info_lengths : (h : Header) (items : Place) (i : Info) (strings : List Place) (blocks : Place) → lengths_in (record_from h items i strings blocks) ≡ text_lengths i
unfolding lengths_in record_from text_lengths
info_lengths h items i strings blocks = refl

record_parts : (c : Sections)
    → record_of c
    ≡ record_from c.0.read c.1.0.read c.1.1.0.read (c.1.1.1.0.read ∷ c.1.1.1.1.0.read ∷ c.1.1.1.1.1.0.read ∷ c.1.1.1.1.1.1.0.read ∷ c.1.1.1.1.1.1.1.0.read ∷ [])
    (place (blocks_of c).start (sum (blocks_of c).read))
unfolding record_from
record_parts c = refl

lay : (profile : Profile) (s : List ℕ) (c : Sections) (texts : List ℕ) → length s ≤ most → Reads profile s c (length s) → texts ≡ lengths_in (record_of c) → Laid s (record_of c) (ends_in c) texts
lay profile s c texts small R lengths =
    let e = ends_in c in
    let f = c.0.read.flags in
    let T = R.tail in
    let (header, long) = header_said profile s R.header in
    let name = string_stands f name_bit T.name in
    let relative = string_stands f relative_bit T.relative in
    let workdir = string_stands f workdir_bit T.workdir in
    let arguments = string_stands f arguments_bit T.arguments in
    let icon = string_stands f icon_bit T.icon in
    let blocks = T.blocks in
    let walked = blocks_Walked [] e.icon (drop e.icon s) _ _ blocks.is in
    let adds = walked.adds in
    let last : e.icon + (blocks_of c).len ≡ length s = blocks.last in
    let sums : sum (blocks_of c).read ≡ length s - 4 - e.icon = omega arith in
    let own : c.1.1.0.len ≡ e.info - e.items = omega arith in
    let inside : e.info ≤ length s = omega (arith, name.after, relative.after, workdir.after, arguments.after, icon.after) in
    let size : length (info_own s e) ≡ c.1.1.0.len = omega (arith, length-take (e.info - e.items) (drop e.items s), length-drop e.items s) in
    let told : info_there f ≡ true → InfoKeeps e.items (drop e.items s) c.1.1.0.read c.1.1.0.len = λ z. info_keeps profile e.items (drop e.items s) (T.info.there z) in
    record {
      small = small;
      long = long;
      flags = ap (λ (h : Header). h.flags) header;
      read = c.1.1.0.read;
      held = record_parts c ∙ same _ header (items_is (items_there f) T.items) name.is relative.is workdir.is arguments.is icon.is (rw (blocks.start, sums));
      items = λ z. omega (arith, (items_body c.0.len (drop c.0.len s) (T.items.there z)).1, R.head);
      info = (omega arith, inside);
      name = (name.least, omega (arith, relative.after, workdir.after, arguments.after, icon.after));
      relative = (relative.least, omega (arith, workdir.after, arguments.after, icon.after));
      workdir = (workdir.least, omega (arith, arguments.after, icon.after));
      arguments = (arguments.least, omega (arith, icon.after));
      icon = (icon.least, omega arith);
      blocks = omega arith;
      right = λ z. record {
        least = omega (arith, (told z).least);
        small = omega arith;
        head = rw own at (told z).head;
        pieces = subst (λ (n : ℕ). all (piece_tests (info_head (take n (drop e.items s))) (info_pieces (take n (drop e.items s)))) ≡ true) own (told z).pieces;
        lengths = lengths ∙ ap lengths_in (record_parts c) ∙ info_lengths _ _ _ _ _ ∙ ap text_lengths (rw own at (told z).is);
      };
      said = λ z. rw own at (told z).is;
      lacking = λ z. (T.info.lacking z).0;
    }
  where
    items_is : (b : Bool) → FoundAt s items b no_place c.0.len c.1.0 → c.1.0.read ≡ cond b (place 78 (c.0.len + c.1.0.len - 80)) no_place
    items_is true F =
        let x = items_body c.0.len (drop c.0.len s) (F.there refl) in
        let least : 4 ≤ c.1.0.len = x.1 in
        let head : c.0.len ≡ 76 = R.head in
        let from : c.0.len + 2 ≡ 78 = omega arith in
        let n : c.1.0.len - 4 ≡ c.0.len + c.1.0.len - 80 = omega arith in
        x.0 ∙ rw (from, n)
    items_is false F = (F.lacking refl).0

    same : (i : Info) {h h' : Header} {a b c d x y z a' b' c' d' x' y' z' : Place} → h ≡ h' → a ≡ a' → b ≡ b' → c ≡ c' → d ≡ d' → x ≡ x' → y ≡ y' → z ≡ z'
        → record_from h a i (b ∷ c ∷ d ∷ x ∷ y ∷ []) z ≡ record_from h' a' i (b' ∷ c' ∷ d' ∷ x' ∷ y' ∷ []) z'
    same i o p q r t u v x = rw (o, p, q, r, t, u, v, x)

pub laid : {profile : Profile} {s : List ℕ} {e : SectionEnds} {texts : List ℕ} → Whole profile s e texts → Laid s (reading profile s).held e texts
laid {profile} {s} {e} {texts} w =
    let S = sectioned w in
    let c = S.sections in
    let held : (reading profile s).held ≡ record_of c = whole_held S.whole in
    rw (S.ends, held) (lay profile s c texts S.whole.small S.whole.reads (lengths_held w ∙ ap lengths_in held))

-- ---- for the code

-- the record that s reads as
abbrev read_of : Profile → List ℕ → Record
read_of profile s = (reading profile s).held

module _ {profile : Profile} {s : List ℕ} {e : SectionEnds} {texts : List ℕ} (w : Whole profile s e texts) where
  pub flags_held : (read_of profile s).header.flags ≡ u32_at s 20
  flags_held = (laid w).flags

  link_held : (read_of profile s).link ≡ link_of (laid w).read
  unfolding record_from
  link_held = ap (λ (r : Record). r.link) (laid w).held

  -- LinkInfo has a head at least
  pub info_head_inside : info_there (read_of profile s).header.flags ≡ true → e.items + 0x1C ≤ length s
  info_head_inside there =
      let least = ((laid w).right there).least in
      let inside = (laid w).info in
      omega (arith, length-take (e.info - e.items) (drop e.items s), length-drop e.items s)

  pub link_flags_held : {n : ℕ} → info_there (read_of profile s).header.flags ≡ true → n ≡ u32_at s (e.items + 8) → n ≡ (read_of profile s).link.flags
  link_flags_held there k =
      let n = e.info - e.items in
      let l = drop e.items s in
      let least = ((laid w).right there).least in
      let own : u32_at (info_own s e) 8 ≡ u32_at l 8 = number_same 4 n (info_own s e) l 8 (take-take n n l (omega arith)) (omega (arith, length-take n l)) in
      let said = ap (λ (i : Info). i.flags) ((laid w).said there) in
      k ∙ sym (ap (λ (x : Link). x.flags) link_held ∙ said ∙ own ∙ number_drop 4 e.items s 8)

  pub link_flags_lacking : info_there (read_of profile s).header.flags ≡ false → 0 ≡ (read_of profile s).link.flags
  link_flags_lacking k = sym (ap (λ (x : Link). x.flags) link_held ∙ ap (λ (i : Info). i.flags) ((laid w).lacking k))

  pub items_held : place_in (read_of profile s) items_slot ≡ cond (items_there (read_of profile s).header.flags) (place 78 (e.items - 80)) no_place
  unfolding record_from
  items_held = ap (λ (r : Record). place_in r items_slot) (laid w).held

  pub name_held : place_in (read_of profile s) (string_slot name_bit) ≡ body_between (string_there name_bit (read_of profile s).header.flags) e.info e.name
  unfolding record_from
  name_held = ap (λ (r : Record). place_in r (string_slot name_bit)) (laid w).held

  pub relative_held : place_in (read_of profile s) (string_slot relative_bit) ≡ body_between (string_there relative_bit (read_of profile s).header.flags) e.name e.relative
  unfolding record_from
  relative_held = ap (λ (r : Record). place_in r (string_slot relative_bit)) (laid w).held

  pub workdir_held : place_in (read_of profile s) (string_slot workdir_bit) ≡ body_between (string_there workdir_bit (read_of profile s).header.flags) e.relative e.workdir
  unfolding record_from
  workdir_held = ap (λ (r : Record). place_in r (string_slot workdir_bit)) (laid w).held

  pub arguments_held : place_in (read_of profile s) (string_slot arguments_bit) ≡ body_between (string_there arguments_bit (read_of profile s).header.flags) e.workdir e.arguments
  unfolding record_from
  arguments_held = ap (λ (r : Record). place_in r (string_slot arguments_bit)) (laid w).held

  pub icon_held : place_in (read_of profile s) (string_slot icon_bit) ≡ body_between (string_there icon_bit (read_of profile s).header.flags) e.arguments e.icon
  unfolding record_from
  icon_held = ap (λ (r : Record). place_in r (string_slot icon_bit)) (laid w).held

  -- LinkInfo's flags tell of its texts
  kinds_held : info_there (read_of profile s).header.flags ≡ true → (read_of profile s).link.flags ≡ info_flags (info_own s e)
  kinds_held there = ap (λ (x : Link). x.flags) link_held ∙ ap (λ (i : Info). i.flags) ((laid w).said there)

  pub either_there : info_there (read_of profile s).header.flags ≡ true → local_there (read_of profile s).link.flags || network_there (read_of profile s).link.flags ≡ true
      → has_local (info_own s e) || has_network (info_own s e) ≡ true
  either_there there k = subst (λ (f : ℕ). local_there f || network_there f ≡ true) (kinds_held there) k

  pub first_text_held : info_there (read_of profile s).header.flags ≡ true
      → cond (local_there (read_of profile s).link.flags) (place_in (read_of profile s) local_slot) (place_in (read_of profile s) net_slot)
      ≡ cond (has_local (info_own s e)) (info_fields e.items (info_own s e)).local (info_fields e.items (info_own s e)).network.net
  unfolding record_from
  first_text_held there =
      let said = (laid w).said there in
      let local = ap (λ (r : Record). place_in r local_slot) (laid w).held ∙ ap (λ (i : Info). i.local) said in
      let net = ap (λ (r : Record). place_in r net_slot) (laid w).held ∙ ap (λ (i : Info). i.network.net) said in
      chosen (ap local_there (kinds_held there)) local net
    where
      chosen : {a b : Bool} {x y x' y' : Place} → a ≡ b → x ≡ x' → y ≡ y' → cond a x y ≡ cond b x' y'
      chosen p q r = rw (p, q, r)

  pub suffix_held : info_there (read_of profile s).header.flags ≡ true → place_in (read_of profile s) suffix_slot ≡ (info_fields e.items (info_own s e)).suffix
  unfolding record_from
  suffix_held there = ap (λ (r : Record). place_in r suffix_slot) (laid w).held ∙ ap (λ (i : Info). i.suffix) ((laid w).said there)

-- ---- the record's numbers

pub header_put : (f : List ℕ) (h : Header) {x : ℕ} → x ≡ bits h.icon_index
    → set (set (set (set (set (set (set (set (set f 0 h.flags) 1 h.attributes) 2 h.creation) 3 h.access) 4 h.write) 5 h.file_size) 6 x) 7 h.command) 8 h.hotkey
    ≡ with_header f h
unfolding with_header
header_put f h e = rw e

-- LinkInfo's part, then the header, the items, the strings and the blocks make all 51
numbers_put : (h : Header) (items : Place) (i : Info) (a b c d x : Place) (blocks : Place)
    → with_place (with_strings (with_place (with_header (info_part i) h) items_slot items) (record_from h items i (a ∷ b ∷ c ∷ d ∷ x ∷ []) blocks)) blocks_slot blocks
    ≡ fields_of (record_from h items i (a ∷ b ∷ c ∷ d ∷ x ∷ []) blocks)
unfolding with_place with_strings with_header info_part record_from fields_of numbers_of
numbers_put h items i a b c d x blocks = refl

nothing_put : replicate 51 0 ≡ info_part no_info
unfolding info_part
nothing_put = refl

pub strings_put : (f : List ℕ) (r : Record) {x₁ x₂ x₃ x₄ x₅ : List ℕ} {b₁ b₂ b₃ b₄ b₅ : Place}
    → x₁ ≡ with_place f 10 b₁ → b₁ ≡ place_in r 10
    → x₂ ≡ with_place x₁ 11 b₂ → b₂ ≡ place_in r 11
    → x₃ ≡ with_place x₂ 12 b₃ → b₃ ≡ place_in r 12
    → x₄ ≡ with_place x₃ 13 b₄ → b₄ ≡ place_in r 13
    → x₅ ≡ with_place x₄ 14 b₅ → b₅ ≡ place_in r 14
    → x₅ ≡ with_strings f r
unfolding with_strings
strings_put f r p₁ q₁ p₂ q₂ p₃ q₃ p₄ q₄ p₅ q₅ = p₅ ∙ rw (p₄, p₃, p₂, p₁, q₁, q₂, q₃, q₄, q₅)

module _ {profile : Profile} {s : List ℕ} {e : SectionEnds} {texts : List ℕ} (w : Whole profile s e texts) where
  -- LinkInfo's part where it is there, and zeros where it is not
  pub info_part_put : {x : List ℕ} → info_there (read_of profile s).header.flags ≡ true → x ≡ info_part (info_fields e.items (info_own s e)) → x ≡ info_part (laid w).read
  info_part_put there k = k ∙ ap info_part (sym ((laid w).said there))

  pub no_info_part : {x : List ℕ} → info_there (read_of profile s).header.flags ≡ false → x ≡ replicate 51 0 → x ≡ info_part (laid w).read
  no_info_part lacking k = k ∙ nothing_put ∙ ap info_part (sym ((laid w).lacking lacking))

  pub whole_put : {f₀ f₁ f₂ f₃ f₄ : List ℕ} {h : Header} {items blocks : Place} → f₀ ≡ info_part (laid w).read
      → h ≡ header_fields s → f₁ ≡ with_header f₀ h
      → items ≡ place_in (read_of profile s) items_slot → f₂ ≡ with_place f₁ items_slot items
      → f₃ ≡ with_strings f₂ (reading profile s).held
      → blocks ≡ place e.icon (length s - 4 - e.icon) → f₄ ≡ with_place f₃ blocks_slot blocks
      → f₄ ≡ fields_of (reading profile s).held
  unfolding record_from
  whole_put p₀ h p₁ items p₂ p₃ blocks p₄ =
      p₄
      ∙ rw (p₃, p₂, p₁, p₀, h, items, blocks)
      (subst (λ (r : Record). with_place (with_strings (with_place (with_header (info_part (laid w).read) (header_fields s)) items_slot (place_in r items_slot)) r) blocks_slot (place e.icon (length s - 4 - e.icon)) ≡ fields_of r)
      (sym (laid w).held)
      (numbers_put (header_fields s) _ (laid w).read _ _ _ _ _ _))

  row_counted : length (reading profile s).held.places ≡ 17
  unfolding record_from
  row_counted = ap (λ (r : Record). length r.places) (laid w).held

  -- the 51 numbers are a record, and that one
  pub numbers_fit : {f : List ℕ} → Bytes s → f ≡ fields_of (reading profile s).held → are_record f ≡ true
  numbers_fit bs k = ap are_record k ∙ fields_record_lem (reading profile s).held (accepted_fits profile s _ (accepted w) bs)

  pub numbers_back : {f : List ℕ} {r : Record} → Bytes s → f ≡ fields_of (reading profile s).held → r ≡ fields_record f → r ≡ (reading profile s).held
  numbers_back bs k q = q ∙ ap fields_record k ∙ record_back (reading profile s).held (accepted_fits profile s _ (accepted w) bs) row_counted
