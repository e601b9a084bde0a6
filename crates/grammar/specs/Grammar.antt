-- What a shortcut of a record is, told without reading it: sections put end to end, each of fields put end to end, with conditions on them.
-- A record says that there are such bytes and numbers, and what holds of them. Headings are those of FORMAT; docs/GRAMMAR.md has its rules beside these lines.
use Rattle.std.specs.Prelude.{ℕ, suc, ◌+◌, ◌*◌, ◌/◌, ◌%◌, ◌^◌, ◌≤◌, ◌<◌, ◌≡◌, List, [], ◌∷◌, ◌++◌, Bool, true, false, ◌&&◌, cond, length, replicate, eqb, ℤ, pos, negsuc}
use Rattle.octets.specs.Numbers.{little}
use Rattle.format.specs.declared.Profile.{Profile}
use Rattle.format.specs.declared.Profile.TheVariants.{Strict, NinetyFive}
use Rattle.format.specs.declared.Place.{Place}
use Rattle.format.specs.declared.Header.{Header}
use Rattle.format.specs.declared.Link.{Link}
use Rattle.format.specs.declared.Record.{Record}

abbrev pub If : Bool → Type 0 → Type 0 → Type 0
If true X Y = X
If false X Y = Y

abbrev pub EachOf {ℓ} : {A : Type ℓ} → (A → Type 0) → List A → Type 0
EachOf P [] = Unit {0}
EachOf P (x ∷ xs) = P x × EachOf P xs

-- ---- Bytes and numbers

-- bit k of a number is set
abbrev pub is_set : ℕ → ℕ → Bool
is_set k n = eqb (n / 2 ^ k % 2) 1

-- fields put end to end, each of so many bytes and with this number in them
abbrev pub field_bytes : List (ℕ × ℕ) → List ℕ
field_bytes [] = []
field_bytes ((w, n) ∷ rows) = little w n ++ field_bytes rows

-- s is these fields, and then the rest
pub record Fields (rows : List (ℕ × ℕ)) (rest s : List ℕ) : Type 0 where
  pub fit : EachOf (λ (w, n). n < 256 ^ w) rows
  pub is : s ≡ field_bytes rows ++ rest

-- x stands in l, o bytes after its start
pub record StandsAt (x l : List ℕ) (o : ℕ) : Type 0 where
  pub before : List ℕ
  pub after : List ℕ
  pub is : l ≡ before ++ (x ++ after)
  pub start : length before ≡ o

-- the place of n bytes with p bytes before them, and that of what is absent
abbrev pub from : ℕ → ℕ → Place
from p n = record { at = p; len = n }

abbrev pub nowhere : Place
nowhere = from 0 0

-- ---- Characters and texts

abbrev pub width : Bool → ℕ
width unicode = cond unicode 2 1

-- characters of one byte or, in Unicode, of two, none of them zero
unfoldable pub NoZero : Bool → List ℕ → Type 0
NoZero unicode [] = Unit {0}
NoZero false (a ∷ l) = (0 < a) × NoZero false l
NoZero true (a ∷ []) = ⊥
NoZero true (a ∷ b ∷ l) = (0 < a + 256 * b) × NoZero true l

-- a text of n bytes in l from o on, and the zero character after it
pub record Text (unicode : Bool) (l : List ℕ) (o n : ℕ) : Type 0 where
  pub body : List ℕ
  pub no_zero : NoZero unicode body
  pub long : length body ≡ n
  pub stands : StandsAt (body ++ replicate (width unicode) 0) l o

-- ---- Layout

-- a part of the file, by how many bytes stand before it and its own bytes
abbrev pub FilePart : Type 1
FilePart = ℕ → List ℕ → Type 0

pub record Joined (P Q : FilePart) (p : ℕ) (s : List ℕ) : Type 0 where
  pub first : List ℕ
  pub second : List ℕ
  pub is : s ≡ first ++ second
  pub is_first : P p first
  pub is_second : Q (p + length first) second

-- parts put end to end, and nothing after the last
abbrev pub AllJoined : List FilePart → FilePart
AllJoined [] p s = s ≡ []
AllJoined (P ∷ Ps) p s = Joined P (AllJoined Ps) p s

-- an absent part has no bytes, and the record has zeros for it
abbrev pub PartIf : Bool → FilePart → Type 0 → FilePart
PartIf there P Zeros p s = If there (P p s) ((s ≡ []) × Zeros)

-- ---- Header

-- 32 bits as a signed number, in two's complement; negsuc n is the number -(n + 1)
abbrev pub Signed : ℤ → ℕ → Type 0
Signed (pos n) x = (x ≡ n) × (n < 2 ^ 31)
Signed (negsuc n) x = (x + suc n ≡ 2 ^ 32) × (n < 2 ^ 31)

pub data KeyByte (k : ℕ) : Type 0 where
  digit_key : 0x30 ≤ k → k ≤ 0x39 → KeyByte k
  letter_key : 0x41 ≤ k → k ≤ 0x5A → KeyByte k
  function_key_byte : 0x70 ≤ k → k ≤ 0x87 → KeyByte k
  num_lock_key : k ≡ 0x90 → KeyByte k
  scroll_lock_key : k ≡ 0x91 → KeyByte k

-- a key, and which of SHIFT, CTRL and ALT are held with it, if any
pub data HotkeyIs (h : ℕ) : Type 0 where
  no_key : h ≡ 0 → HotkeyIs h
  held_key : (key held : ℕ) → h ≡ key + 256 * held → KeyByte key → held < 8 → HotkeyIs h

-- bits 15 to 31 are clear, under 95 bits 16 to 31
abbrev pub attributes_below : Profile → ℕ
attributes_below Strict = 2 ^ 15
attributes_below NinetyFive = 2 ^ 16

abbrev pub class_bytes : List ℕ
class_bytes = 0x01 ∷ 0x14 ∷ 0x02 ∷ 0x00 ∷ 0x00 ∷ 0x00 ∷ 0x00 ∷ 0x00 ∷ 0xC0 ∷ 0x00 ∷ 0x00 ∷ 0x00 ∷ 0x00 ∷ 0x00 ∷ 0x00 ∷ 0x46 ∷ []

pub record HeaderIs (profile : Profile) (h : Header) (p : ℕ) (s : List ℕ) : Type 0 where
  pub numbers : List ℕ
  pub icon_bits : ℕ
  pub is : s ≡ little 4 0x4C ++ (class_bytes ++ numbers)
  pub fields : Fields
      ((4, h.flags) ∷ (4, h.attributes) ∷ (8, h.creation) ∷ (8, h.access) ∷ (8, h.write) ∷ (4, h.file_size) ∷ (4, icon_bits) ∷ (4, h.command) ∷ (2, h.hotkey) ∷ []) (replicate 10 0) numbers
  pub icon : Signed h.icon_index icon_bits
  pub flags : h.flags < 2 ^ 27
  pub bit3 : is_set 3 h.attributes ≡ false
  pub bit6 : is_set 6 h.attributes ≡ false
  pub attributes : h.attributes < attributes_below profile
  pub hotkey : HotkeyIs h.hotkey

-- ---- Item list

-- parts put end to end, each with its size of w bytes before it, which counts itself
abbrev pub sized_parts : ℕ → List (List ℕ) → List ℕ
sized_parts w [] = []
sized_parts w (x ∷ xs) = little w (w + length x) ++ (x ++ sized_parts w xs)

-- such parts, each as it should be, and a size of 0
pub record PartList (w : ℕ) (Own : List ℕ → Type 0) (s : List ℕ) : Type 0 where
  pub parts : List (List ℕ)
  pub is : s ≡ sized_parts w parts ++ little w 0
  pub each : EachOf (λ x. (w + length x < 256 ^ w) × Own x) parts

-- what an item holds is free
abbrev pub ItemList : List ℕ → Type 0
ItemList s = PartList 2 (λ x. Unit {0}) s

-- the list's size, which does not count itself, and the list; the body is the items alone
pub record ItemsIs (body : Place) (p : ℕ) (s : List ℕ) : Type 0 where
  pub list : List ℕ
  pub is : s ≡ little 2 (length list) ++ list
  pub fits : length list < 256 ^ 2
  pub items : ItemList list
  pub place : body ≡ from (p + 2) (length (sized_parts 2 items.parts))

-- ---- LinkInfo pieces

-- byte k belongs to it
abbrev pub Within : ℕ → Place → Type 0
Within k x = (x.at ≤ k) × (k < x.at + x.len)

-- no byte belongs to two
abbrev pub NoneShared : List Place → Type 0
NoneShared [] = Unit {0}
NoneShared (x ∷ xs) = EachOf (λ y. (k : ℕ) → Within k x → Within k y → ⊥) xs × NoneShared xs

-- the n bytes of a piece at the offset o; none of an absent one
abbrev pub piece_span : Bool → ℕ → ℕ → Place
piece_span there o n = cond there (from o n) nowhere

-- a text of l that starts at o, after the head; l has p bytes before it
pub record TextPiece (unicode : Bool) (head p : ℕ) (l : List ℕ) (o : ℕ) (body : Place) : Type 0 where
  pub outside : head ≤ o
  pub text : Text unicode l o body.len
  pub place : body.at ≡ p + o

-- LinkInfo's offset field of an absent piece: 0, under 95 anything
abbrev pub Unused : Profile → ℕ → Type 0
Unused Strict o = o ≡ 0
Unused NinetyFive o = Unit {0}

-- ---- Bodies

pub record Bodies : Type 0 where
  pub items : Place
  pub label : Place
  pub local : Place
  pub net : Place
  pub device : Place
  pub net_unicode : Place
  pub device_unicode : Place
  pub suffix : Place
  pub local_unicode : Place
  pub suffix_unicode : Place
  pub name : Place
  pub relative : Place
  pub workdir : Place
  pub arguments : Place
  pub icon : Place
  pub blocks : Place
  pub further : Place

-- the row of the record
abbrev pub row_of : Bodies → List Place
row_of b =
    b.items ∷ b.label ∷ b.local ∷ b.net ∷ b.device ∷ b.net_unicode ∷ b.device_unicode ∷ b.suffix ∷ b.local_unicode
    ∷ b.suffix_unicode ∷ b.name ∷ b.relative ∷ b.workdir ∷ b.arguments ∷ b.icon ∷ b.blocks ∷ b.further ∷ []

-- ---- VolumeID: v is its bytes, with p bytes before them

-- 0x14 at 12 says that the label is Unicode and has its offset at 16; every other number there is a byte label's offset
pub record VolumeIs (drive serial : ℕ) (unicode : Bool) (label : Place) (p : ℕ) (v : List ℕ) : Type 0 where
  pub label_offset : ℕ
  pub rest : List ℕ
  pub fields : Fields ((4, length v) ∷ (4, drive) ∷ (4, serial) ∷ cond unicode ((4, 0x14) ∷ (4, label_offset) ∷ []) ((4, label_offset) ∷ [])) rest v
  pub drive_type : drive ≤ 6
  pub kind : If unicode (Unit {0}) (label_offset ≡ 0x14 → ⊥)
  pub is_label : TextPiece unicode (cond unicode 0x14 0x10) p v label_offset label

abbrev pub NoVolume : Link → Place → Type 0
NoVolume k label = (k.drive ≡ 0) × ((k.serial ≡ 0) × ((k.label_unicode ≡ false) × (label ≡ nowhere)))

-- ---- Network link: v is its bytes, with p bytes before them

pub record NetworkIs (flags provider : ℕ) (unicode : Bool) (b : Bodies) (p : ℕ) (v : List ℕ) : Type 0 where
  pub head : ℕ
  pub net_offset : ℕ
  pub device_offset : ℕ
  pub provider_type : ℕ
  pub net_unicode_offset : ℕ
  pub device_unicode_offset : ℕ
  pub rest : List ℕ
  pub fields : Fields ((4, length v) ∷ (4, flags) ∷ (4, net_offset) ∷ (4, device_offset) ∷ (4, provider_type) ∷ cond unicode ((4, net_unicode_offset) ∷ (4, device_unicode_offset) ∷ []) []) rest v
  pub few_flags : flags ≤ 3
  pub is_head : If unicode ((head ≡ 0x1C) × (0x14 < net_offset)) ((head ≡ 0x14) × (net_offset ≡ 0x14))
  pub is_provider : provider ≡ cond (is_set 1 flags) provider_type 0
  pub is_net : TextPiece false head p v net_offset b.net
  pub is_device : If (is_set 0 flags) (TextPiece false head p v device_offset b.device) ((device_offset ≡ 0) × (b.device ≡ nowhere))
  pub is_net_unicode : If unicode (TextPiece true head p v net_unicode_offset b.net_unicode) (b.net_unicode ≡ nowhere)
  pub is_device_unicode : If (unicode && is_set 0 flags)
      (TextPiece true head p v device_unicode_offset b.device_unicode) (If unicode (device_unicode_offset ≡ 0) (Unit {0}) × (b.device_unicode ≡ nowhere))
  pub none_shared : NoneShared
      (piece_span true net_offset (b.net.len + 1)
      ∷ piece_span (is_set 0 flags) device_offset (b.device.len + 1)
      ∷ piece_span unicode net_unicode_offset (b.net_unicode.len + 2)
      ∷ piece_span (unicode && is_set 0 flags) device_unicode_offset (b.device_unicode.len + 2) ∷ [])

abbrev pub NoNetwork : Link → Bodies → Type 0
NoNetwork k b =
    (k.network_flags ≡ 0) × ((k.provider ≡ 0) × ((k.network_unicode ≡ false) × EachOf (λ x. x ≡ nowhere) (b.net ∷ b.device ∷ b.net_unicode ∷ b.device_unicode ∷ [])))

-- ---- LinkInfo: l is its bytes, with p bytes before them

pub record InfoIs (profile : Profile) (k : Link) (b : Bodies) (p : ℕ) (l : List ℕ) : Type 0 where
  pub head : ℕ
  pub volume_offset : ℕ
  pub local_offset : ℕ
  pub network_offset : ℕ
  pub suffix_offset : ℕ
  pub local_unicode_offset : ℕ
  pub suffix_unicode_offset : ℕ
  pub further : List ℕ
  pub rest : List ℕ
  pub volume : List ℕ
  pub network : List ℕ
  pub fields : Fields
      ((4, length l) ∷ (4, head) ∷ (4, k.flags) ∷ (4, volume_offset) ∷ (4, local_offset) ∷ (4, network_offset) ∷ (4, suffix_offset)
      ∷ cond k.long ((4, local_unicode_offset) ∷ (4, suffix_unicode_offset) ∷ []) []) (further ++ rest) l
  pub is_head : If k.long
      ((head ≡ 0x24 + length further) × (b.further ≡ from (p + 0x24) (length further)))
      ((head ≡ 0x1C) × ((further ≡ []) × (b.further ≡ nowhere)))
  pub few_flags : k.flags ≤ 3
  pub is_volume : If (is_set 0 k.flags)
      ((head ≤ volume_offset) × (StandsAt volume l volume_offset × VolumeIs k.drive k.serial k.label_unicode b.label (p + volume_offset) volume))
      (Unused profile volume_offset × NoVolume k b.label)
  pub is_local : If (is_set 0 k.flags) (TextPiece false head p l local_offset b.local) (Unused profile local_offset × (b.local ≡ nowhere))
  pub is_network : If (is_set 1 k.flags)
      ((head ≤ network_offset) × (StandsAt network l network_offset × NetworkIs k.network_flags k.provider k.network_unicode b (p + network_offset) network))
      (Unused profile network_offset × NoNetwork k b)
  pub is_suffix : TextPiece false head p l suffix_offset b.suffix
  pub is_local_unicode : If (k.long && is_set 0 k.flags)
      (TextPiece true head p l local_unicode_offset b.local_unicode) (If k.long (Unused profile local_unicode_offset) (Unit {0}) × (b.local_unicode ≡ nowhere))
  pub is_suffix_unicode : If k.long (TextPiece true head p l suffix_unicode_offset b.suffix_unicode) (b.suffix_unicode ≡ nowhere)
  pub none_shared : NoneShared
      (piece_span (is_set 0 k.flags) volume_offset (length volume)
      ∷ piece_span (is_set 0 k.flags) local_offset (b.local.len + 1)
      ∷ piece_span (is_set 1 k.flags) network_offset (length network)
      ∷ piece_span true suffix_offset (b.suffix.len + 1)
      ∷ piece_span (k.long && is_set 0 k.flags) local_unicode_offset (b.local_unicode.len + 2)
      ∷ piece_span k.long suffix_unicode_offset (b.suffix_unicode.len + 2) ∷ [])

abbrev pub NoInfo : Link → Bodies → Type 0
NoInfo k b =
    (k.flags ≡ 0) × ((k.long ≡ false) × (NoVolume k b.label × (NoNetwork k b × EachOf (λ x. x ≡ nowhere) (b.local ∷ b.suffix ∷ b.local_unicode ∷ b.suffix_unicode ∷ b.further ∷ []))))

-- ---- Strings

-- a count of characters, then so many of them; nothing ends a string but its count
pub record StringIs (unicode : Bool) (body : Place) (p : ℕ) (s : List ℕ) : Type 0 where
  pub count : ℕ
  pub characters : List ℕ
  pub is : s ≡ little 2 count ++ characters
  pub fits : count < 256 ^ 2
  pub many : length characters ≡ width unicode * count
  pub place : body ≡ from (p + 2) (length characters)

-- ---- Property store

-- {D5CDD505-2E9C-101B-9397-08002B2CF9AE}
abbrev pub named_bytes : List ℕ
named_bytes = 0x05 ∷ 0xD5 ∷ 0xCD ∷ 0xD5 ∷ 0x9C ∷ 0x2E ∷ 0x1B ∷ 0x10 ∷ 0x93 ∷ 0x97 ∷ 0x08 ∷ 0x00 ∷ 0x2B ∷ 0x2C ∷ 0xF9 ∷ 0xAE ∷ []

-- a value without its size: a name's length or a number, a zero byte, the name or none, raw bytes
pub record ValueIs (named : Bool) (v : List ℕ) : Type 0 where
  pub field : ℕ
  pub name : List ℕ
  pub raw : List ℕ
  pub is : v ≡ little 4 field ++ (0 ∷ (name ++ raw))
  pub fits : field < 256 ^ 4
  pub name_length : length name ≡ cond named field 0

-- a storage without its size: the version, a format identifier, the values; named ones only under the named format
pub record StorageIs (v : List ℕ) : Type 0 where
  pub identifier : List ℕ
  pub values : List ℕ
  pub named : Bool
  pub is : v ≡ little 4 0x53505331 ++ (identifier ++ values)
  pub sixteen : length identifier ≡ 16
  pub is_named : If named (identifier ≡ named_bytes) (identifier ≡ named_bytes → ⊥)
  pub is_values : PartList 4 (ValueIs named) values

-- ---- Blocks

-- two texts, in 260 bytes and in 260 units; what follows an end is free
pub record PathTexts (s : List ℕ) : Type 0 where
  pub bytes : List ℕ
  pub units : List ℕ
  pub is : s ≡ bytes ++ units
  pub bytes_room : length bytes ≡ 260
  pub units_room : length units ≡ 520
  pub bytes_text : (n : ℕ) × Text false bytes 0 n
  pub units_text : (n : ℕ) × Text true units 0 n

abbrev pub Exactly : ℕ → ℕ → Type 0
Exactly m n = n ≡ m

abbrev pub OrMore : ℕ → ℕ → Type 0
OrMore m n = m ≤ n

abbrev pub Anything : List ℕ → Type 0
Anything s = Unit {0}

abbrev pub StoreIs : List ℕ → Type 0
StoreIs s = PartList 4 StorageIs s

-- what the size of a block keeps to, and what it holds after its signature
abbrev pub KnownRow : Type 1
KnownRow = ℕ × ((ℕ → Type 0) × (List ℕ → Type 0))

-- Signature | Size | Further rule
abbrev pub known_rows : List KnownRow
known_rows =
    (0xA0000001, (Exactly 0x314, PathTexts))
    ∷ (0xA0000002, (Exactly 0xCC, Anything))
    ∷ (0xA0000003, (Exactly 0x60, Anything))
    ∷ (0xA0000004, (Exactly 0x0C, Anything))
    ∷ (0xA0000005, (Exactly 0x10, Anything))
    ∷ (0xA0000006, (Exactly 0x314, PathTexts))
    ∷ (0xA0000007, (Exactly 0x314, PathTexts))
    ∷ (0xA0000008, (OrMore 0x88, Anything))
    ∷ (0xA0000009, (OrMore 0x0C, StoreIs))
    ∷ (0xA000000B, (Exactly 0x1C, Anything))
    ∷ (0xA000000C, (OrMore 0x0A, ItemList))
    ∷ []

-- a block of the signature x that holds s is as its row says
abbrev pub BlockIs : ℕ × List ℕ → Type 0
BlockIs (x, s) = (8 + length s < 256 ^ 4) × ((x < 256 ^ 4) × EachOf (λ (y, (Size, Further)). x ≡ y → Size (8 + length s) × Further s) known_rows)

-- blocks put end to end, each with its size, which counts itself, and its signature
abbrev pub block_bytes : List (ℕ × List ℕ) → List ℕ
block_bytes [] = []
block_bytes ((x, s) ∷ bs) = little 4 (8 + length s) ++ (little 4 x ++ (s ++ block_bytes bs))

-- a signature that stands again is none of the table
abbrev pub KnownOnce : List (ℕ × List ℕ) → Type 0
KnownOnce [] = Unit {0}
KnownOnce ((x, s) ∷ bs) = EachOf (λ (y, t). x ≡ y → EachOf (λ (z, row). x ≡ z → ⊥) known_rows) bs × KnownOnce bs

-- blocks, then the terminal block of four bytes; the body is the blocks without it
pub record BlocksIs (body : Place) (p : ℕ) (s : List ℕ) : Type 0 where
  pub blocks : List (ℕ × List ℕ)
  pub terminal : ℕ
  pub is : s ≡ block_bytes blocks ++ little 4 terminal
  pub each : EachOf BlockIs blocks
  pub once : KnownOnce blocks
  pub is_terminal : terminal < 4
  pub place : body ≡ from p (length (block_bytes blocks))

-- ---- What a shortcut is

-- a string by its bit of LinkFlags; bit 7 tells its characters
abbrev pub StringIf : Header → ℕ → Place → FilePart
StringIf h k body = PartIf (is_set k h.flags) (StringIs (is_set 7 h.flags) body) (body ≡ nowhere)

abbrev pub layout : Profile → Header → Link → Bodies → List FilePart
layout profile h k b =
    HeaderIs profile h
    ∷ PartIf (is_set 0 h.flags) (ItemsIs b.items) (b.items ≡ nowhere)
    ∷ PartIf (is_set 1 h.flags) (InfoIs profile k b) (NoInfo k b)
    ∷ StringIf h 2 b.name
    ∷ StringIf h 3 b.relative
    ∷ StringIf h 4 b.workdir
    ∷ StringIf h 5 b.arguments
    ∷ StringIf h 6 b.icon
    ∷ BlocksIs b.blocks
    ∷ []

-- s is a shortcut of the record r
pub record IsShortcut (profile : Profile) (s : List ℕ) (r : Record) : Type 0 where
  pub bodies : Bodies
  pub places : r.places ≡ row_of bodies
  pub short : length s ≤ 65536
  pub sections : AllJoined (layout profile r.header r.link bodies) 0 s
