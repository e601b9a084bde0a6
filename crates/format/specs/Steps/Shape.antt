-- The table of bodies as the code holds it: of each slot two truth values.
use Rattle.std.specs.Prelude.{ℕ, zero, suc, ◌+◌, List, [], ◌∷◌, map, Bool, false, get_or}
use Rattle.format.specs.declared.Link.{Link}
use Rattle.format.specs.declared.Slot.{Slot}
use Rattle.format.specs.Bodies.{BodyKind, items_kind, text_kind, string_kind, blocks_kind, further_kind, BodyRow, body_row, body_table}

abbrev pub Shape : Type 0
Shape = List Slot

abbrev pub wide_kind : BodyKind → Bool
wide_kind items_kind = false
wide_kind (text_kind unicode) = unicode
wide_kind (string_kind unicode) = unicode
wide_kind blocks_kind = false
wide_kind (further_kind long) = false

abbrev pub slot_of : BodyRow → Slot
slot_of b = record { there = b.there; wide = wide_kind b.kind }

unfoldable pub shape_of : ℕ → Link → Shape
shape_of flags l = map slot_of (body_table flags l)

-- of a slot past the row
abbrev pub no_slot : Slot
no_slot = record { there = false; wide = false }

-- the row of a slot, if it is of this kind
abbrev pub row_in : (Bool → BodyKind) → Slot → BodyRow
row_in kind x = body_row x.there (kind x.wide)

-- that of slot k
abbrev pub row_as : (Bool → BodyKind) → Shape → ℕ → BodyRow
row_as kind s k = row_in kind (get_or s k no_slot)

-- n rows from slot k on
abbrev pub rows_from : (ℕ → BodyRow) → ℕ → ℕ → List BodyRow
rows_from row k zero = []
rows_from row k (suc n) = row k ∷ rows_from row (k + 1) n
