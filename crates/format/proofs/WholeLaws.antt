-- The whole shortcut, read for its contents: the sections' laws composed.
use mathlib.Core.Path.{◌≡◌, refl, sym, ap, ◌∙◌}
use mathlib.Core.List.{List, [], ◌∷◌, ◌++◌, append-nil}
use mathlib.Core.Bool.{Bool, true, false, cond}
use Prim.Native.Nat.{ℕ, ◌+◌, ◌-◌, ◌≤◌, ◌<◌}
use native.Mathlib.Omega.{arith}
use lib.ListN.{length, take, drop, length-take}
use lib.Dec.{leb, eqb}
use borrow.Author.Tests.{leb-true, le-leb, eqb-true, eq-eqb}
use Rattle.octets.specs.Numbers.{Bytes}
use Rattle.format.specs.declared.Profile.{Profile}
use Rattle.format.specs.declared.Header.{Header}
use Rattle.format.specs.declared.Link.{Link}
use Rattle.format.specs.declared.Fault.TheVariants.{Long as LONG, Trail as TRAIL, Info as INFO}
use Rattle.format.specs.Tests.{Outcome, got, refused, ◌else◌at◌, tests, Reader, and_then, chain, optional, section, no_section}
use Rattle.format.specs.Presence.{items_there, info_there, name_bit, relative_bit, workdir_bit, arguments_bit, icon_bit, string_there, strings_unicode}
use Rattle.format.specs.Header.{header}
use Rattle.format.specs.Items.{items_length, items_rules}
use Rattle.format.specs.Info.{info_size, info_rules}
use Rattle.format.specs.Strings.{string_length}
use Rattle.format.specs.Shortcut.{most, no_link}
use Rattle.format.specs.Bodies.{items_kind, BodyRow, body_row, string_row, body_table, items_slot, string_slot, blocks_slot, along}
use Rattle.format.specs.Contents.{present_link, InfoContents, Contents, body_in, info_in}
use Rattle.format.specs.Writing.{if_there, header_bytes, items_bytes, info_bytes, bytes_of_string, blocks_bytes, canonical, writable, writable_body, writable_row, writable_bodies}
use Rattle.format.proofs.Ranges.{FitsHeader, FitsLink}
use Rattle.format.proofs.Bools.{clash, Every, every_out, every_in}
use Rattle.format.proofs.RowLaws.{Each, Each-with, Each-test, slots_are}
use Rattle.format.proofs.Chains.{passed, got_elim, no_value, CutBy, Law, Ok, IfThere, Ok-there, there_Ok, optional-Law, chain_e, ChainV, chain-Law}
use Rattle.format.proofs.Holds.{all_writable, writable_all}
use Rattle.format.proofs.Sized.{sized_r}
use Rattle.format.proofs.HeaderLaws.{HeaderV, header-Law}
use Rattle.format.proofs.ItemsLaws.{ItemsV, items_value, items_Law}
use Rattle.format.proofs.StringLaws.{StringV, string_Law}
use Rattle.format.proofs.InfoLaws.{info_value, InfoV, info_Law}
use Rattle.format.proofs.LinkLaws.{no_info_c, info_valid, info_can}
use Rattle.format.proofs.BlockLaws.{blocks_r, BlocksV, blocks_Law}

-- ---- readers of contents

abbrev pub items_r : Reader (List ℕ)
items_r = sized_r 1 2 items_length (λ n. []) items_rules items_value

abbrev pub info_r : Profile → Reader InfoContents
info_r profile = sized_r 2 4 info_size (λ n. leb 0x1C n else INFO at 0 ∷ []) (info_rules profile) info_value

abbrev pub string_r : ℕ → Bool → Reader (List ℕ)
string_r k u = sized_r k 2 (string_length u) (λ n. []) (λ l. []) (λ l. drop 2 l)

-- ---- a reader, its writer and its condition, as one; and how they compose

pub record Sect (A : Type 0) : Type 1 where
  pub reader : Reader A
  pub writer : A → List ℕ
  pub Valid : A → Type 0
  pub law : Law reader writer Valid

abbrev opt : {A : Type 0} → Bool → A → Sect A → Sect A
opt b d S = record {
  reader = optional b d S.reader;
  writer = if_there b S.writer;
  Valid = IfThere b d S.Valid;
  law = optional-Law b d S.law;
}

abbrev by_value : {A B : Type 0} → Sect A → (A → Sect B) → Sect (A × B)
by_value S T = record {
  reader = chain S.reader (λ a. (T a).reader);
  writer = chain_e S.writer (λ a. (T a).writer);
  Valid = ChainV S.Valid (λ a. (T a).Valid);
  law = chain-Law S.law (λ a. (T a).law);
}

infixr 60 ◌and◌
abbrev ◌and◌ : {A B : Type 0} → Sect A → Sect B → Sect (A × B)
S and T = by_value S (λ a. T)

abbrev header-s : Profile → Sect Header
header-s profile = record { reader = header profile; writer = header_bytes; Valid = HeaderV profile; law = header-Law profile }

abbrev items-s : Sect (List ℕ)
items-s = record { reader = items_r; writer = items_bytes; Valid = ItemsV; law = items_Law }

abbrev info-s : Profile → Sect InfoContents
info-s profile = record { reader = info_r profile; writer = info_bytes; Valid = InfoV; law = info_Law profile }

abbrev string-s : ℕ → ℕ → Sect (List ℕ)
string-s flags k = opt (string_there k flags) [] (record { reader = string_r (k + 1) (strings_unicode flags); writer = bytes_of_string (strings_unicode flags); Valid = StringV (strings_unicode flags); law = string_Law (k + 1) (strings_unicode flags) })

abbrev blocks-s : Sect (List ℕ)
blocks-s = record { reader = blocks_r; writer = blocks_bytes; Valid = BlocksV; law = blocks_Law }

abbrev pub TailC : Type 0
TailC = List ℕ × (InfoContents × (List ℕ × (List ℕ × (List ℕ × (List ℕ × (List ℕ × List ℕ))))))

abbrev pub tail-s : Profile → ℕ → Sect TailC
tail-s profile flags =
    opt (items_there flags) [] items-s
    and opt (info_there flags) no_info_c (info-s profile)
    and string-s flags name_bit
    and string-s flags relative_bit
    and string-s flags workdir_bit
    and string-s flags arguments_bit
    and string-s flags icon_bit
    and blocks-s

abbrev pub file-s : Profile → Sect (Header × TailC)
file-s profile = by_value (header-s profile) (λ h. tail-s profile h.flags)

-- ---- the contents: the way back from what LinkInfo's bytes say, and from the slots

abbrev link_in : InfoContents → Link
link_in i = record {
  flags = i.flags;
  long = i.long;
  drive = i.volume.drive;
  serial = i.volume.serial;
  label_unicode = i.volume.unicode;
  network_flags = i.network.flags;
  provider = i.network.provider;
  network_unicode = i.network.unicode;
}

abbrev info_bodies : InfoContents → List (List ℕ)
info_bodies i =
    i.volume.label
    ∷ i.local
    ∷ i.network.net
    ∷ i.network.device
    ∷ i.network.net_unicode
    ∷ i.network.device_unicode
    ∷ i.suffix
    ∷ i.local_unicode
    ∷ i.suffix_unicode
    ∷ []

abbrev pub to_contents : Header × TailC → Contents
to_contents c =
    let (header, (items, (info, (name, (relative, (workdir, (arguments, (icon, blocks)))))))) = c in
    record {
      header = header;
      link = link_in info;
      bodies = items ∷ info_bodies info ++ (name ∷ relative ∷ workdir ∷ arguments ∷ icon ∷ blocks ∷ info.further ∷ []);
    }

abbrev string_in : Contents → ℕ → List ℕ
string_in c k = body_in c (string_slot k)

abbrev from_contents : Contents → Header × TailC
from_contents c = (
  c.header,
  (
    body_in c items_slot,
    (info_in c, (string_in c name_bit, (string_in c relative_bit, (string_in c workdir_bit, (string_in c arguments_bit, (string_in c icon_bit, body_in c blocks_slot)))))),
  ),
)

whole_row : (c : Contents) → length c.bodies ≡ 17 → to_contents (from_contents c) ≡ c
whole_row c e = ap (λ (bs : List (List ℕ)). record { header = c.header; link = c.link; bodies = bs }) (slots_are [] 17 0 c.bodies e)

-- ---- reading for contents

unfoldable pub file_r : Profile → Reader (Header × TailC)
file_r profile = (file-s profile).reader

unfoldable pub decode : Profile → List ℕ → Outcome Contents
unfolding file_r
decode profile s =
    tests no_section (leb (length s) most else LONG at most ∷ [])
    (and_then (file_r profile 0 s) (λ c n. tests (section 9 (n - 4)) (eqb n (length s) else TRAIL at 4 ∷ []) (got (to_contents c) n)))

unfoldable pub Valid : Profile → Contents → Type 0
Valid profile c = (length c.bodies ≡ 17) × (file-s profile).Valid (from_contents c)

-- end to end is one section after another
canonical_is : (profile : Profile) (c : Contents) → canonical c ≡ (file-s profile).writer (from_contents c)
unfolding canonical
canonical_is profile c = simp append-nil

pub decode_elim {ℓ} : (profile : Profile) (s : List ℕ) (X : Contents → ℕ → Type ℓ)
    → (length s ≤ most → (c : Header × TailC) → file_r profile 0 s ≡ got c (length s) → X (to_contents c) (length s))
    → (c : Contents) (n : ℕ) → decode profile s ≡ got c n → X c n
unfolding decode
decode_elim profile s X f c n e =
    let i = passed no_section (leb (length s) most else LONG at most ∷ []) _ e in
    go (leb-true _ _ i.0.0) (file_r profile 0 s) refl i.1
  where
    go : length s ≤ most → (r : Outcome (Header × TailC)) → file_r profile 0 s ≡ r
        → and_then r (λ c n. tests (section 9 (n - 4)) (eqb n (length s) else TRAIL at 4 ∷ []) (got (to_contents c) n)) ≡ got c n → X c n
    go l (got a k) i h =
        let j = passed (section 9 (k - 4)) (eqb k (length s) else TRAIL at 4 ∷ []) (got (to_contents a) k) h in
        let q : k ≡ length s = eqb-true k (length s) j.0.0 in
        got_elim X (ap (got (to_contents a)) (sym q) ∙ j.1) (f l a (i ∙ ap (got a) q))
    go l (refused x y) i h = no_value h

-- ---- the laws

-- a written shortcut reads back as what it was written from
pub read_back : (profile : Profile) (c : Contents) → Valid profile c → length (canonical c) ≤ most → decode profile (canonical c) ≡ got c (length (canonical c))
unfolding decode Valid file_r
read_back profile c v h =
    let l : List ℕ = canonical c in
    let q = canonical_is profile c in
    let e : file_r profile 0 l ≡ got (from_contents c) (length l)
    = ap (file_r profile 0) (q ∙ sym (append-nil ((file-s profile).writer (from_contents c)))) ∙ (file-s profile).law.back (from_contents c) v.1 (rw q at h) 0 [] ∙ ap (λ (x : List ℕ). got (from_contents c) (length x)) (sym q) in
    rw (le-leb _ _ h, e, eq-eqb (length l) (length l) refl) (ap (λ (x : Contents). got x (length l)) (whole_row c v.0))

pub canonical-Bytes : (profile : Profile) (c : Contents) → Valid profile c → Bytes (canonical c)
unfolding Valid
canonical-Bytes profile c v = rw (canonical_is profile c) ((file-s profile).law.bytes (from_contents c) v.1)

pub record Shortest (profile : Profile) (s : List ℕ) (c : Contents) (n : ℕ) : Type 0 where
  pub valid : Valid profile c
  pub short : length (canonical c) ≤ length s
  pub all : n ≡ length s
  pub limit : length s ≤ most

-- what an accepted shortcut reads as can be written, and no longer than it
pub shortest : (profile : Profile) (s : List ℕ) (c : Contents) (n : ℕ) → Bytes s → decode profile s ≡ got c n → Shortest profile s c n
unfolding Valid file_r
shortest profile s c n bs e =
    decode_elim profile s (λ c n. Shortest profile s c n)
    (λ l a i.
    let f = (file-s profile).law.fits 0 s a (length s) i bs in
    record { valid = (refl, f.valid); short = rw (canonical_is profile (to_contents a)) f.short; all = refl; limit = l })
    c n e

-- an accepted shortcut without its end is cut
pub beginning : (profile : Profile) (s : List ℕ) (c : Contents) (n : ℕ) → decode profile s ≡ got c n → (k : ℕ) → k < length s → CutBy k (decode profile (take k s))
unfolding decode file_r
beginning profile s c n e k h =
    decode_elim profile s (λ c n. CutBy k (decode profile (take k s)))
    (λ l a i.
    let z = (file-s profile).law.cut 0 s a (length s) i k h in
    record {
      spot = z.spot;
      early = omega (arith, z.early);
      is = rw (le-leb (length (take k s)) most (omega (arith, length-take k s)), z.is);
    })
    c n e

-- ---- what can be written, as a test

abbrev rows : Contents → List BodyRow
rows c = body_table c.header.flags c.link

pub record Typed (c : Contents) : Type 0 where
  pub header : FitsHeader c.header
  pub fits : FitsLink c.link
  pub zeros : cond (info_there c.header.flags) (present_link c.link) no_link ≡ c.link
  pub row : length c.bodies ≡ 17
  pub bodies : Each [] (λ b. IfThere b.there [] Bytes) 0 (rows c) c.bodies

abbrev RowV : BodyRow → List ℕ → Type 0
RowV b = IfThere b.there [] (Ok Bytes (writable_body b.kind))

-- both of one row
row_valid : (b : BodyRow) (x : List ℕ) → IfThere b.there [] Bytes x → writable_row b x ≡ true → RowV b x
row_valid b x = Ok-there Bytes (writable_body b.kind) b.there [] x

pub can_Valid : (profile : Profile) (c : Contents) → Typed c → writable profile c ≡ true → Valid profile c × (length (canonical c) ≤ most)
unfolding Valid
can_Valid profile c t e =
    let can = all_writable profile c e in
    let (flags, (drive, (network_flags, z))) = every_out (_ ∷ _ ∷ _ ∷ []) can.link in
    let (items, (label, (local, (net, (device, (net_unicode, (device_unicode, (suffix, (local_unicode, (suffix_unicode, strings))))))))))
    = Each-with [] row_valid 0 (rows c) c.bodies t.bodies (Each-test [] writable_row 0 (rows c) c.bodies can.bodies) in
    let (name, (relative, (workdir, (arguments, (icon, (blocks, (further, y))))))) = strings in
    let info = info_valid c t.fits (info_there c.header.flags) t.zeros (record { flags = flags; drive = drive; network_flags = network_flags }) (record {
      label = label;
      local = local;
      net = net;
      device = device;
      net_unicode = net_unicode;
      device_unicode = device_unicode;
      suffix = suffix;
      local_unicode = local_unicode;
      suffix_unicode = suffix_unicode;
      further = further;
    }) in (
      (t.row, (record { typed = t.header; can = can.header }, (items, (info, (name, (relative, (workdir, (arguments, (icon, blocks))))))))),
      leb-true _ _ can.short,
    )

row_can : (b : BodyRow) (x : List ℕ) → RowV b x → writable_row b x ≡ true
row_can b x v = (there_Ok Bytes (writable_body b.kind) b.there [] x v).1

pub Valid-can : (profile : Profile) (c : Contents) → Valid profile c → length (canonical c) ≤ most → writable profile c ≡ true
unfolding Valid
Valid-can profile c v h =
    let f = c.header.flags in
    let (header, (items, (info, (name, (relative, (workdir, (arguments, (icon, blocks)))))))) = v.1 in
    let (n, t) = info_can c (info_there f) info in
    let string : (k : ℕ) → RowV (string_row f c.link k) (string_in c k) → writable_row (string_row f c.link k) (string_in c k) ≡ true
    = λ k. row_can (string_row f c.link k) (string_in c k) in
    let strings : Every (along [] writable_row 10 (drop 10 (rows c)) c.bodies)
    = (string name_bit name, (string relative_bit relative, (string workdir_bit workdir, (string arguments_bit arguments, (string icon_bit icon, (blocks.can, (t.further, tt))))))) in
    writable_all profile c (record {
      header = header.can;
      link = every_in (_ ∷ _ ∷ _ ∷ []) (n.flags, (n.drive, (n.network_flags, tt)));
      bodies =
          every_in (writable_bodies c) (
            row_can (body_row (items_there f) items_kind) (body_in c items_slot) items,
            (t.label, (t.local, (t.net, (t.device, (t.net_unicode, (t.device_unicode, (t.suffix, (t.local_unicode, (t.suffix_unicode, strings))))))))),
          );
      short = le-leb (length (canonical c)) most h;
    })

-- the writer refuses exactly what no accepted shortcut reads as
pub writes : (profile : Profile) (c : Contents) → Typed c → writable profile c ≡ true → decode profile (canonical c) ≡ got c (length (canonical c))
writes profile c t e = let v = can_Valid profile c t e in read_back profile c v.0 v.1

pub refuses : (profile : Profile) (c : Contents) → writable profile c ≡ false → (s : List ℕ) (n : ℕ) → Bytes s → decode profile s ≡ got c n → ⊥
refuses profile c e s n bs d =
    let q = shortest profile s c n bs d in
    clash (Valid-can profile c q.valid (omega (arith, q.short, q.limit))) e
