-- FORMAT: Bodies. The bodies of a record in one row of slots: what makes each present, its kind, and its place. The order is that of the fields at the boundary.
use Rattle.std.specs.Prelude.{ℕ, ◌+◌, List, [], ◌∷◌, Bool, true, false, ◌&&◌, cond, get_or, leb}
use Rattle.format.specs.declared.Place.{Place}
use Rattle.format.specs.declared.Link.{Link}
use Rattle.format.specs.declared.Record.{Record}
use Rattle.format.specs.Tests.{no_place}
use Rattle.format.specs.Presence.{items_there, info_there, name_bit, relative_bit, workdir_bit, arguments_bit, icon_bit, string_there, strings_unicode, local_there, network_there, local_unicode_there, device_there, device_unicode_there}

-- ---- the table

-- items; a text with its terminator, a string after its count, each of bytes or of Unicode; blocks; the further bytes of a head that is long or short
pub data BodyKind : Type 0 where
  items_kind : BodyKind
  text_kind : Bool → BodyKind
  string_kind : Bool → BodyKind
  blocks_kind : BodyKind
  further_kind : Bool → BodyKind

pub record BodyRow : Type 0 where
  pub there : Bool
  pub kind : BodyKind

abbrev pub body_row : Bool → BodyKind → BodyRow
body_row there kind = record { there = there; kind = kind }

-- what belongs to LinkInfo is there only if LinkInfo is, and what belongs to its network link only if that is
abbrev pub in_info : ℕ → Bool → Bool
in_info flags there = info_there flags && there

abbrev pub in_network : ℕ → Link → Bool → Bool
in_network flags l there = in_info flags (network_there l.flags && there)

-- by LinkFlags, and by LinkInfo's numbers and kinds
module _ (flags : ℕ) (l : Link) where
  abbrev pub string_row : ℕ → BodyRow
  string_row k = body_row (string_there k flags) (string_kind (strings_unicode flags))

  -- items; label, local path; net name, device name and their Unicode twins; suffix, Unicode local path, Unicode suffix; the strings; blocks; the head's further bytes, there with every LinkInfo
  abbrev pub body_table : List BodyRow
  body_table =
      body_row (items_there flags) items_kind
      ∷ body_row (in_info flags (local_there l.flags)) (text_kind l.label_unicode)
      ∷ body_row (in_info flags (local_there l.flags)) (text_kind false)
      ∷ body_row (in_info flags (network_there l.flags)) (text_kind false)
      ∷ body_row (in_network flags l (device_there l.network_flags)) (text_kind false)
      ∷ body_row (in_network flags l l.network_unicode) (text_kind true)
      ∷ body_row (in_network flags l (device_unicode_there l.network_unicode l.network_flags)) (text_kind true)
      ∷ body_row (info_there flags) (text_kind false)
      ∷ body_row (in_info flags (local_unicode_there l.long l.flags)) (text_kind true)
      ∷ body_row (in_info flags l.long) (text_kind true)
      ∷ string_row name_bit
      ∷ string_row relative_bit
      ∷ string_row workdir_bit
      ∷ string_row arguments_bit
      ∷ string_row icon_bit
      ∷ body_row true blocks_kind
      ∷ body_row (info_there flags) (further_kind l.long)
      ∷ []

abbrev pub table_of : Record → List BodyRow
table_of r = body_table r.header.flags r.link

-- ---- the slots by name

abbrev pub items_slot : ℕ
items_slot = 0

abbrev pub label_slot : ℕ
label_slot = 1

abbrev pub local_slot : ℕ
local_slot = 2

abbrev pub net_slot : ℕ
net_slot = 3

abbrev pub device_slot : ℕ
device_slot = 4

abbrev pub net_unicode_slot : ℕ
net_unicode_slot = 5

abbrev pub device_unicode_slot : ℕ
device_unicode_slot = 6

abbrev pub suffix_slot : ℕ
suffix_slot = 7

abbrev pub local_unicode_slot : ℕ
local_unicode_slot = 8

abbrev pub suffix_unicode_slot : ℕ
suffix_unicode_slot = 9

-- of the string with this flag bit
abbrev pub string_slot : ℕ → ℕ
string_slot k = 8 + k

abbrev pub blocks_slot : ℕ
blocks_slot = 15

abbrev pub further_slot : ℕ
further_slot = 16

-- what the record holds there, present or not
abbrev pub place_in : Record → ℕ → Place
place_in r k = get_or r.places k no_place

-- ---- the whole row

-- the table beside what a record or its contents hold, slot by slot from k on; d stands for what they lack
abbrev pub along : {A B : Type 0} → A → (BodyRow → A → B) → ℕ → List BodyRow → List A → List B
along d f k [] xs = []
along d f k (b ∷ bs) xs = f b (get_or xs k d) ∷ along d f (k + 1) bs xs

-- zeros for what is absent
abbrev pub kept : BodyRow → Place → Place
kept b p = cond b.there p no_place

abbrev pub zeroed : List BodyRow → List Place → List Place
zeroed bs ps = along no_place kept 0 bs ps

abbrev pub all_inside : ℕ → List Place → Bool
all_inside n [] = true
all_inside n (b ∷ bs) = leb (b.at + b.len) n && all_inside n bs

-- no present body's place plus its length exceeds n, the body buffer's length
unfoldable pub placed : ℕ → Record → Bool
placed n r = all_inside n (zeroed (table_of r) r.places)

-- ---- the lengths, as written

-- LinkInfo's head as written, 0x1C bytes, or 0x24 with Unicode; its further bytes come after them
abbrev pub written_head : Bool → ℕ
written_head long = cond long 0x24 0x1C
