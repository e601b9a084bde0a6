-- The rules of the bodies, slot by slot, of what stands at their places in the body buffer d.
use Rattle.std.specs.Prelude.{ℕ, List, Bool, ◌&&◌, cond, get_or, ltb}
use Rattle.format.specs.declared.Place.{Place}
use Rattle.format.specs.Tests.{no_place}
use Rattle.format.specs.Presence.{name_bit}
use Rattle.format.specs.Bodies.{BodyKind, text_kind, string_kind, BodyRow, items_slot, string_slot, blocks_slot, further_slot, along}
use Rattle.format.specs.Contents.{bytes_at}
use Rattle.format.specs.Writing.{every, writable_if, writable_items, writable_blocks, writable_further, writable_row}
use Rattle.format.specs.Steps.Shape.{Shape, no_slot, row_as, rows_from}

-- of the slots between the items and the blocks: LinkInfo's texts, then the strings
abbrev pub kind_at : ℕ → Bool → BodyKind
kind_at k unicode = cond (ltb k (string_slot name_bit)) (text_kind unicode) (string_kind unicode)

abbrev pub slot_row : Shape → ℕ → BodyRow
slot_row s k = row_as (kind_at k) s k

abbrev pub row_ok : List ℕ → BodyRow → Place → Bool
row_ok d b p = writable_row b (bytes_at d p)

-- n slots from slot k on
unfoldable pub slots_ok : List ℕ → List Place → Shape → ℕ → ℕ → Bool
slots_ok d ps s k n = every (along no_place (row_ok d) k (rows_from (slot_row s) k n) ps)

-- all of them; long tells of LinkInfo's head
unfoldable pub bodies_ok : List ℕ → List Place → Shape → Bool → Bool
unfolding slots_ok
bodies_ok d ps s long =
    writable_if (get_or s items_slot no_slot).there writable_items (bytes_at d (get_or ps items_slot no_place))
    && slots_ok d ps s 1 9
    && slots_ok d ps s 10 5
    && writable_blocks (bytes_at d (get_or ps blocks_slot no_place))
    && writable_if (get_or s further_slot no_slot).there (writable_further long) (bytes_at d (get_or ps further_slot no_place))
