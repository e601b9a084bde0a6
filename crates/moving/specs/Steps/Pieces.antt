-- The moved contents as they are put: u tells the way, d is the shortcut, r its record, q the record that has the moved lengths, s its shape.
use Rattle.std.specs.Prelude.{ℕ, ◌+◌, ◌*◌, List, [], ◌++◌, Bool, true, not, ◌&&◌, cond, get_or}
use Rattle.format.specs.declared.Place.{Place}
use Rattle.format.specs.declared.Record.{Record}
use Rattle.format.specs.Tests.{no_place}
use Rattle.format.specs.Presence.{items_there, info_there, local_there, network_there}
use Rattle.format.specs.Shortcut.{sum}
use Rattle.format.specs.Bodies.{text_kind, string_kind, BodyRow, body_row, items_slot, local_slot, suffix_slot, local_unicode_slot, suffix_unicode_slot, blocks_slot, further_slot, place_in, along}
use Rattle.format.specs.Contents.{bytes_at}
use Rattle.format.specs.Writing.{end_to_end, if_there, header_bytes, items_bytes, text_bytes, blocks_bytes}
use Rattle.format.specs.Codepage.{to_units}
use Rattle.format.specs.Steps.Lengths.{written_body, volume_part, network_part}
use Rattle.format.specs.Steps.Shape.{Shape, no_slot, row_as, rows_from}
use Rattle.format.specs.Steps.Flat.{row_bytes, slots_bytes, volume_head_bytes, network_head_bytes, info_head_bytes, info_to}
use Rattle.canonical.specs.Steps.Puts.{slots_size}
use Rattle.moves.specs.Steps.Moves.{translate, moved_place}

-- ---- StringData

abbrev pub moved_slot : Bool → List ℕ → BodyRow → Place → List ℕ
moved_slot u d b p = row_bytes b (translate u (bytes_at d p))

abbrev pub moved_size : Bool → BodyRow → Place → ℕ
moved_size u b p = written_body b (moved_place u p)

-- there as the shape says, and of the kind that is moved to
abbrev pub moved_row : Bool → Shape → ℕ → BodyRow
moved_row u s k = body_row (get_or s k no_slot).there (string_kind u)

unfoldable pub moved_strings : Bool → List ℕ → List Place → Shape → List ℕ
moved_strings u d ps s = end_to_end (along no_place (moved_slot u d) 10 (rows_from (moved_row u s) 10 5) ps)

unfoldable pub strings_size : Bool → List Place → Shape → ℕ
strings_size u ps s = sum (along no_place (moved_size u) 10 (rows_from (moved_row u s) 10 5) ps)

-- ---- LinkInfo

abbrev pub is_there : Shape → ℕ → Bool
is_there s k = (get_or s k no_slot).there

-- a Unicode text translated from the byte text at p
abbrev pub gained_text : List ℕ → Bool → Place → List ℕ
gained_text d there p = if_there there (text_bytes true) (to_units (bytes_at d p))

abbrev pub gained_size : Bool → Place → ℕ
gained_size there p = cond there (2 * p.len + 2) 0

-- both of them, gained or as they stand
unfoldable pub unicode_texts : Bool → List ℕ → List Place → Shape → List ℕ
unicode_texts gain d ps s =
    cond gain
    (gained_text d (is_there s local_unicode_slot) (get_or ps local_slot no_place) ++ gained_text d (is_there s suffix_unicode_slot) (get_or ps suffix_slot no_place))
    (slots_bytes d ps 8 (rows_from (row_as text_kind s) 8 2))

abbrev pub unicode_size : Bool → List Place → Shape → ℕ
unicode_size gain ps s =
    cond gain
    (gained_size (is_there s local_unicode_slot) (get_or ps local_slot no_place) + gained_size (is_there s suffix_unicode_slot) (get_or ps suffix_slot no_place))
    (slots_size ps 8 (rows_from (row_as text_kind s) 8 2))

-- whether they are gained
abbrev pub gain : Record → Record → Bool
gain r q = q.link.long && not r.link.long

unfoldable pub moved_info : List ℕ → Record → Record → Shape → List ℕ → List ℕ
moved_info d r q s sizes =
    info_head_bytes q.link sizes
    ++ (bytes_at d (place_in r further_slot)
    ++ (cond (local_there q.link.flags) (volume_head_bytes q.link sizes) []
    ++ (slots_bytes d r.places 1 (rows_from (row_as text_kind s) 1 2)
    ++ (cond (network_there q.link.flags) (network_head_bytes q.link sizes) []
    ++ (slots_bytes d r.places 3 (rows_from (row_as text_kind s) 3 5) ++ unicode_texts (gain r q) d r.places s)))))

-- how long all of it is
abbrev pub info_size : Record → Record → Shape → ℕ
info_size r q s =
    28 + cond q.link.long 8 0
    + ((place_in r further_slot).len
    + (volume_part q.link
    + (slots_size r.places 1 (rows_from (row_as text_kind s) 1 2)
    + (network_part q.link + (slots_size r.places 3 (rows_from (row_as text_kind s) 3 5) + unicode_size (gain r q) r.places s)))))

-- ---- the whole

abbrev pub moved_total : Bool → Record → Record → Shape → List ℕ → ℕ
moved_total u r q s sizes =
    76
    + (cond (items_there q.header.flags) ((place_in r items_slot).len + 4) 0
    + (cond (info_there q.header.flags) (info_to q.link sizes) 0 + (strings_size u r.places s + ((place_in r blocks_slot).len + 4))))

unfoldable pub moved_flat : Bool → List ℕ → Record → Record → Shape → List ℕ → List ℕ
moved_flat u d r q s sizes =
    header_bytes q.header
    ++ (if_there (items_there q.header.flags) items_bytes (bytes_at d (place_in r items_slot))
    ++ (cond (info_there q.header.flags) (moved_info d r q s sizes) []
    ++ (moved_strings u d r.places s ++ blocks_bytes (bytes_at d (place_in r blocks_slot)))))
