-- The canonical form as it is put: the heads by the link and by the sizes of the slots, the bodies slot by slot.
use Rattle.std.specs.Prelude.{ℕ, ◌+◌, List, [], ◌∷◌, ◌++◌, cond, get_or}
use Rattle.octets.specs.Numbers.{little}
use Rattle.format.specs.declared.Place.{Place}
use Rattle.format.specs.declared.Link.{Link}
use Rattle.format.specs.declared.Record.{Record}
use Rattle.format.specs.Tests.{no_place}
use Rattle.format.specs.Presence.{items_there, info_there, local_there, network_there, device_there, provider_there}
use Rattle.format.specs.Volume.{label_least}
use Rattle.format.specs.Network.{network_head}
use Rattle.format.specs.Bodies.{BodyKind, items_kind, text_kind, string_kind, blocks_kind, further_kind, BodyRow, items_slot, label_slot, local_slot, net_slot, device_slot, net_unicode_slot, device_unicode_slot, suffix_slot, local_unicode_slot, suffix_unicode_slot, blocks_slot, further_slot, place_in, along, written_head}
use Rattle.format.specs.Contents.{Contents, bytes_at, body_in}
use Rattle.format.specs.Writing.{end_to_end, if_there, header_bytes, items_bytes, text_bytes, two_fields, offset_field, label_fields, bytes_of_string, blocks_bytes}
use Rattle.format.specs.Steps.Lengths.{volume_part, network_part}
use Rattle.format.specs.Steps.Shape.{Shape, row_as, rows_from}

-- ---- a body as its kind is written

abbrev pub body_bytes : BodyKind → List ℕ → List ℕ
body_bytes items_kind = items_bytes
body_bytes (text_kind unicode) = text_bytes unicode
body_bytes (string_kind unicode) = bytes_of_string unicode
body_bytes blocks_kind = blocks_bytes
body_bytes (further_kind long) = λ x. x

abbrev pub row_bytes : BodyRow → List ℕ → List ℕ
row_bytes b = if_there b.there (body_bytes b.kind)

-- of what stands at its place in the body buffer d
abbrev pub slot_bytes : List ℕ → BodyRow → Place → List ℕ
slot_bytes d b p = row_bytes b (bytes_at d p)

-- slots from k on
unfoldable pub slots_bytes : List ℕ → List Place → ℕ → List BodyRow → List ℕ
slots_bytes d ps k rows = end_to_end (along no_place (slot_bytes d) k rows ps)

-- the same of bodies that stand in a row
unfoldable pub bodies_bytes : List (List ℕ) → ℕ → List BodyRow → List ℕ
bodies_bytes xs k rows = end_to_end (along [] row_bytes k rows xs)

-- ---- the heads

module _ (l : Link) (sizes : List ℕ) where
  abbrev size : ℕ → ℕ
  size k = get_or sizes k 0

  unfoldable pub volume_head_bytes : List ℕ
  volume_head_bytes =
      end_to_end
      (little 4 (label_least l.label_unicode + size label_slot)
      ∷ little 4 l.drive
      ∷ little 4 l.serial
      ∷ label_fields l.label_unicode
      ∷ [])

  -- where the names start in the network link
  abbrev pub device_from : ℕ
  device_from = network_head l.network_unicode + size net_slot

  abbrev pub net_unicode_from : ℕ
  net_unicode_from = device_from + size device_slot

  abbrev pub device_unicode_from : ℕ
  device_unicode_from = net_unicode_from + size net_unicode_slot

  abbrev pub network_to : ℕ
  network_to = device_unicode_from + size device_unicode_slot

  unfoldable pub network_head_bytes : List ℕ
  network_head_bytes =
      end_to_end
      (little 4 network_to
      ∷ little 4 l.network_flags
      ∷ little 4 (network_head l.network_unicode)
      ∷ offset_field (device_there l.network_flags) device_from
      ∷ little 4 (cond (provider_there l.network_flags) l.provider 0)
      ∷ two_fields l.network_unicode net_unicode_from (cond (device_there l.network_flags) device_unicode_from 0)
      ∷ [])

  -- where the pieces start in LinkInfo
  abbrev pub pieces_from : ℕ
  pieces_from = written_head l.long + size further_slot

  abbrev pub local_from : ℕ
  local_from = pieces_from + (volume_part l + size label_slot)

  abbrev pub network_from : ℕ
  network_from = local_from + size local_slot

  abbrev pub suffix_from : ℕ
  suffix_from = network_from + (network_part l + size net_slot + size device_slot + size net_unicode_slot + size device_unicode_slot)

  abbrev pub local_unicode_from : ℕ
  local_unicode_from = suffix_from + size suffix_slot

  abbrev pub suffix_unicode_from : ℕ
  suffix_unicode_from = local_unicode_from + size local_unicode_slot

  abbrev pub info_to : ℕ
  info_to = suffix_unicode_from + size suffix_unicode_slot

  unfoldable pub info_head_bytes : List ℕ
  info_head_bytes =
      end_to_end
      (little 4 info_to
      ∷ little 4 pieces_from
      ∷ little 4 l.flags
      ∷ offset_field (local_there l.flags) pieces_from
      ∷ offset_field (local_there l.flags) local_from
      ∷ offset_field (network_there l.flags) network_from
      ∷ little 4 suffix_from
      ∷ two_fields l.long (cond (local_there l.flags) local_unicode_from 0) suffix_unicode_from
      ∷ [])

-- ---- the whole

-- LinkInfo: each head before the bodies that it leads to, its own with the further bytes
unfoldable pub info_flat : List ℕ → Record → Shape → List ℕ → List ℕ
info_flat d q s sizes =
    info_head_bytes q.link sizes
    ++ (bytes_at d (place_in q further_slot)
    ++ (cond (local_there q.link.flags) (volume_head_bytes q.link sizes) []
    ++ (slots_bytes d q.places 1 (rows_from (row_as text_kind s) 1 2)
    ++ (cond (network_there q.link.flags) (network_head_bytes q.link sizes) [] ++ slots_bytes d q.places 3 (rows_from (row_as text_kind s) 3 7)))))

unfoldable pub flat_bytes : List ℕ → Record → Shape → List ℕ → List ℕ
flat_bytes d q s sizes =
    header_bytes q.header
    ++ (if_there (items_there q.header.flags) items_bytes (bytes_at d (place_in q items_slot))
    ++ (cond (info_there q.header.flags) (info_flat d q s sizes) []
    ++ (slots_bytes d q.places 10 (rows_from (row_as string_kind s) 10 5) ++ blocks_bytes (bytes_at d (place_in q blocks_slot)))))

-- the same of contents
unfoldable pub contents_flat : Contents → Shape → List ℕ → List ℕ
contents_flat c s sizes =
    header_bytes c.header
    ++ (if_there (items_there c.header.flags) items_bytes (body_in c items_slot)
    ++ (cond (info_there c.header.flags)
    (info_head_bytes c.link sizes
    ++ (body_in c further_slot
    ++ (cond (local_there c.link.flags) (volume_head_bytes c.link sizes) []
    ++ (bodies_bytes c.bodies 1 (rows_from (row_as text_kind s) 1 2)
    ++ (cond (network_there c.link.flags) (network_head_bytes c.link sizes) [] ++ bodies_bytes c.bodies 3 (rows_from (row_as text_kind s) 3 7))))))
    []
    ++ (bodies_bytes c.bodies 10 (rows_from (row_as string_kind s) 10 5) ++ blocks_bytes (body_in c blocks_slot))))
