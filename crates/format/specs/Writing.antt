-- FORMAT: What the writer makes. The canonical form, and when the writer gives up.
use Rattle.std.specs.Prelude.{ℕ, ◌+◌, ◌-◌, List, [], ◌∷◌, ◌++◌, Bool, true, false, ◌&&◌, ◌||◌, cond, length, replicate, leb, ltb, eqb, ℤ, pos, negsuc}
use Rattle.octets.specs.Numbers.{little}
use Rattle.octets.specs.Characters.{bytes_of, characters}
use Rattle.octets.specs.Parts.{put}
use Rattle.format.specs.declared.Profile.{Profile}
use Rattle.format.specs.declared.Header.{Header}
use Rattle.format.specs.declared.Link.{Link}
use Rattle.format.specs.declared.Record.{Record}
use Rattle.format.specs.declared.Fault.TheVariants.{Place as PLACE, Unwritable as UNWRITABLE, Room as ROOM}
use Rattle.format.specs.Tests.{Outcome, got, refused, ◌else◌at◌, no_section, tests}
use Rattle.format.specs.Presence.{items_there, info_there, name_bit, relative_bit, workdir_bit, arguments_bit, icon_bit, string_there, strings_unicode, local_there, network_there, local_unicode_there, device_there, provider_there, device_unicode_there}
use Rattle.format.specs.Header.{class_identifier, flags_ok, attributes_ok}
use Rattle.format.specs.Hotkey.{hotkey_ok}
use Rattle.format.specs.Items.{item_list}
use Rattle.format.specs.Pieces.{text_length}
use Rattle.format.specs.Volume.{label_least}
use Rattle.format.specs.Network.{network_head}
use Rattle.format.specs.Blocks.{blocks}
use Rattle.format.specs.Shortcut.{most, verdict_of}
use Rattle.format.specs.Bodies.{BodyKind, items_kind, text_kind, string_kind, blocks_kind, further_kind, BodyRow, in_info, body_table, items_slot, string_slot, blocks_slot, along, placed, written_head}
use Rattle.format.specs.Contents.{VolumeContents, NetworkContents, InfoContents, Contents, body_in, info_in, contents}
use Rattle.format.specs.Verdicts.{Verdict}

abbrev pub end_to_end : List (List ℕ) → List ℕ
end_to_end [] = []
end_to_end (x ∷ xs) = x ++ end_to_end xs

-- what is absent has no bytes
abbrev pub if_there : {A : Type 0} → Bool → (A → List ℕ) → A → List ℕ
if_there true f = f
if_there false f = λ a. []

-- ---- the header

-- a signed number's 32 bits
unfoldable pub bits : ℤ → ℕ
bits (pos n) = n
bits (negsuc n) = 4294967295 - n

unfoldable pub header_bytes : Header → List ℕ
unfolding bits
header_bytes h =
    end_to_end
    (little 4 0x4C
    ∷ class_identifier
    ∷ little 4 h.flags
    ∷ little 4 h.attributes
    ∷ little 8 h.creation
    ∷ little 8 h.access
    ∷ little 8 h.write
    ∷ little 4 h.file_size
    ∷ little 4 (bits h.icon_index)
    ∷ little 4 h.command
    ∷ little 2 h.hotkey
    ∷ little 10 0
    ∷ [])

-- ---- the item list

unfoldable pub items_bytes : List ℕ → List ℕ
items_bytes x = little 2 (length x + 2) ++ (x ++ 0 ∷ 0 ∷ [])

-- ---- LinkInfo

-- a string with its terminator
abbrev pub text_bytes : Bool → List ℕ → List ℕ
text_bytes unicode x = x ++ replicate (bytes_of unicode 1) 0

-- two offset fields that are there or not
abbrev pub two_fields : Bool → ℕ → ℕ → List ℕ
two_fields true x y = little 4 x ++ little 4 y
two_fields false x y = []

-- Unused fields are zero
abbrev pub offset_field : Bool → ℕ → List ℕ
offset_field there o = little 4 (cond there o 0)

-- VolumeID: the label follows its offset fields
abbrev pub volume_length : VolumeContents → ℕ
volume_length v = label_least v.unicode + length (text_bytes v.unicode v.label)

abbrev pub label_fields : Bool → List ℕ
label_fields true = little 4 0x14 ++ little 4 0x14
label_fields false = little 4 0x10

unfoldable pub volume_bytes : VolumeContents → List ℕ
volume_bytes v =
    end_to_end
    (little 4 (volume_length v)
    ∷ little 4 v.drive
    ∷ little 4 v.serial
    ∷ label_fields v.unicode
    ∷ text_bytes v.unicode v.label
    ∷ [])

-- the network link: the byte names, then their Unicode twins
module _ (n : NetworkContents) where
  abbrev pub net_bytes : List ℕ
  net_bytes = text_bytes false n.net

  abbrev pub device_bytes : List ℕ
  device_bytes = if_there (device_there n.flags) (text_bytes false) n.device

  abbrev pub net_unicode_bytes : List ℕ
  net_unicode_bytes = if_there n.unicode (text_bytes true) n.net_unicode

  abbrev pub device_unicode_bytes : List ℕ
  device_unicode_bytes = if_there (device_unicode_there n.unicode n.flags) (text_bytes true) n.device_unicode

  -- where each starts, and where the last ends
  abbrev pub net_start : ℕ
  net_start = network_head n.unicode

  abbrev pub device_start : ℕ
  device_start = net_start + length net_bytes

  abbrev pub net_unicode_start : ℕ
  net_unicode_start = device_start + length device_bytes

  abbrev pub device_unicode_start : ℕ
  device_unicode_start = net_unicode_start + length net_unicode_bytes

  abbrev pub network_length : ℕ
  network_length = device_unicode_start + length device_unicode_bytes

  unfoldable pub network_bytes : List ℕ
  network_bytes =
      end_to_end
      (little 4 network_length
      ∷ little 4 n.flags
      ∷ little 4 net_start
      ∷ offset_field (device_there n.flags) device_start
      ∷ little 4 (cond (provider_there n.flags) n.provider 0)
      ∷ two_fields n.unicode net_unicode_start (cond (device_there n.flags) device_unicode_start 0)
      ∷ net_bytes
      ∷ device_bytes
      ∷ net_unicode_bytes
      ∷ device_unicode_bytes
      ∷ [])

-- LinkInfo: the head, then its pieces in this order, each right after the one before it
module _ (i : InfoContents) where
  abbrev pub info_volume_bytes : List ℕ
  info_volume_bytes = if_there (local_there i.flags) volume_bytes i.volume

  abbrev pub local_bytes : List ℕ
  local_bytes = if_there (local_there i.flags) (text_bytes false) i.local

  abbrev pub info_network_bytes : List ℕ
  info_network_bytes = if_there (network_there i.flags) network_bytes i.network

  abbrev pub suffix_bytes : List ℕ
  suffix_bytes = text_bytes false i.suffix

  abbrev pub local_unicode_bytes : List ℕ
  local_unicode_bytes = if_there (local_unicode_there i.long i.flags) (text_bytes true) i.local_unicode

  abbrev pub suffix_unicode_bytes : List ℕ
  suffix_unicode_bytes = if_there i.long (text_bytes true) i.suffix_unicode

  -- LinkInfoHeaderSize
  abbrev pub info_head_length : ℕ
  info_head_length = written_head i.long + length i.further

  -- where each piece starts, and where the last ends
  abbrev pub volume_start : ℕ
  volume_start = info_head_length

  abbrev pub local_start : ℕ
  local_start = volume_start + length info_volume_bytes

  abbrev pub network_start : ℕ
  network_start = local_start + length local_bytes

  abbrev pub suffix_start : ℕ
  suffix_start = network_start + length info_network_bytes

  abbrev pub local_unicode_start : ℕ
  local_unicode_start = suffix_start + length suffix_bytes

  abbrev pub suffix_unicode_start : ℕ
  suffix_unicode_start = local_unicode_start + length local_unicode_bytes

  abbrev pub info_length : ℕ
  info_length = suffix_unicode_start + length suffix_unicode_bytes

  unfoldable pub info_bytes : List ℕ
  unfolding volume_bytes network_bytes
  info_bytes =
      end_to_end
      (little 4 info_length
      ∷ little 4 info_head_length
      ∷ little 4 i.flags
      ∷ offset_field (local_there i.flags) volume_start
      ∷ offset_field (local_there i.flags) local_start
      ∷ offset_field (network_there i.flags) network_start
      ∷ little 4 suffix_start
      ∷ two_fields i.long (cond (local_there i.flags) local_unicode_start 0) suffix_unicode_start
      ∷ i.further
      ∷ info_volume_bytes
      ∷ local_bytes
      ∷ info_network_bytes
      ∷ suffix_bytes
      ∷ local_unicode_bytes
      ∷ suffix_unicode_bytes
      ∷ [])

-- ---- strings, blocks and the whole

unfoldable pub bytes_of_string : Bool → List ℕ → List ℕ
bytes_of_string unicode x = little 2 (length (characters unicode x)) ++ x

-- with a zero terminal block
abbrev pub blocks_bytes : List ℕ → List ℕ
blocks_bytes x = x ++ little 4 0

abbrev pub string_part : Contents → ℕ → List ℕ
string_part c k = if_there (string_there k c.header.flags) (bytes_of_string (strings_unicode c.header.flags)) (body_in c (string_slot k))

-- The sections in file order
unfoldable pub canonical : Contents → List ℕ
unfolding header_bytes items_bytes info_bytes bytes_of_string
canonical c =
    end_to_end
    (header_bytes c.header
    ∷ if_there (items_there c.header.flags) items_bytes (body_in c items_slot)
    ∷ if_there (info_there c.header.flags) info_bytes (info_in c)
    ∷ string_part c name_bit
    ∷ string_part c relative_bit
    ∷ string_part c workdir_bit
    ∷ string_part c arguments_bit
    ∷ string_part c icon_bit
    ∷ blocks_bytes (body_in c blocks_slot)
    ∷ [])

-- ---- which contents can be written

abbrev pub every : List Bool → Bool
every [] = true
every (b ∷ bs) = b && every bs

abbrev pub writable_if : {A : Type 0} → Bool → (A → Bool) → A → Bool
writable_if true f = f
writable_if false f = λ a. true

abbrev pub writable_header : Profile → Header → Bool
writable_header profile h = every (flags_ok h.flags ∷ attributes_ok profile h.attributes ∷ hotkey_ok h.hotkey ∷ [])

abbrev pub writable_items : List ℕ → Bool
writable_items x = ltb (length x + 2) 65536 && item_list (x ++ 0 ∷ 0 ∷ [])

-- whole characters, none of them zero
abbrev pub writable_text : Bool → List ℕ → Bool
writable_text unicode x = eqb (text_length unicode x) (length x)

-- whole characters, as many as a count can hold
abbrev pub writable_string : Bool → List ℕ → Bool
writable_string unicode x =
    eqb (bytes_of unicode (length (characters unicode x))) (length x) && ltb (length (characters unicode x)) 65536

-- read with a terminal block after them, they take exactly their own bytes and it
abbrev pub takes : {A : Type 0} → ℕ → Outcome A → Bool
takes n (got a m) = eqb m n
takes n (refused f p) = false

abbrev pub writable_blocks : List ℕ → Bool
writable_blocks x = takes (length x + 4) (blocks 0 (x ++ little 4 0))

-- a short head has no further bytes
abbrev pub writable_further : Bool → List ℕ → Bool
writable_further long x = long || eqb (length x) 0

abbrev pub writable_body : BodyKind → List ℕ → Bool
writable_body items_kind = writable_items
writable_body (text_kind unicode) = writable_text unicode
writable_body (string_kind unicode) = writable_string unicode
writable_body blocks_kind = writable_blocks
writable_body (further_kind long) = writable_further long

-- what is absent can be written
abbrev pub writable_row : BodyRow → List ℕ → Bool
writable_row b = writable_if b.there (writable_body b.kind)

-- LinkInfo's flags, the drive type, and the network link's flags
abbrev pub writable_link : ℕ → Link → Bool
writable_link flags l =
    every
    (writable_if (info_there flags) (λ n. leb n 3) l.flags
    ∷ writable_if (in_info flags (local_there l.flags)) (λ n. leb n 6) l.drive
    ∷ writable_if (in_info flags (network_there l.flags)) (λ n. leb n 3) l.network_flags
    ∷ [])

-- each body by the rule of its kind
abbrev pub writable_bodies : Contents → List Bool
writable_bodies c = along [] writable_row 0 (body_table c.header.flags c.link) c.bodies

unfoldable pub writable : Profile → Contents → Bool
unfolding canonical
writable profile c =
    every
    (writable_header profile c.header
    ∷ writable_link c.header.flags c.link
    ∷ every (writable_bodies c)
    ∷ leb (length (canonical c)) most
    ∷ [])

-- ---- the call: d is the body buffer. Writing tests 10, 11, 12; the position is 0

unfoldable pub writing : Profile → Record → List ℕ → ℕ → Outcome (List ℕ)
unfolding placed contents canonical writable
writing profile r d room =
    let w = canonical (contents d r) in
    tests no_section (placed (length d) r else PLACE at 0 ∷ writable profile (contents d r) else UNWRITABLE at 0 ∷ leb (length w) room else ROOM at 0 ∷ [])
    (got w (length w))

-- ---- what a call leaves in the output buffer it was lent

-- a success puts its bytes in front and leaves the rest; a refusal leaves it all
unfoldable pub output_of : Outcome (List ℕ) → List ℕ → List ℕ
unfolding put
output_of (got w n) out = put out 0 w
output_of (refused f p) out = out

-- the answer, and the output buffer afterwards; the room is the buffer's length
unfoldable pub write_answer : Profile → Record → List ℕ → List ℕ → Verdict
unfolding writing
write_answer profile r d out = verdict_of (writing profile r d (length out))

unfoldable pub write_output : Profile → Record → List ℕ → List ℕ → List ℕ
unfolding writing output_of
write_output profile r d out = output_of (writing profile r d (length out)) out
