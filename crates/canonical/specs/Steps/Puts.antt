-- What a function that writes asks of the body buffer d and of the output buffer.
use Rattle.std.specs.Prelude.{ℕ, ◌+◌, ◌/◌, ◌≤◌, ◌≡◌, List, Bool, true, false, cond, length, get_or, ltb}
use Rattle.format.specs.declared.Place.{Place}
use Rattle.format.specs.declared.Record.{Record}
use Rattle.format.specs.Tests.{no_place}
use Rattle.format.specs.Shortcut.{most, sum}
use Rattle.format.specs.Presence.{items_there, info_there, name_bit}
use Rattle.format.specs.Bodies.{BodyKind, text_kind, string_kind, BodyRow, items_slot, string_slot, blocks_slot, further_slot, place_in, along, placed}
use Rattle.format.specs.Contents.{contents}
use Rattle.format.specs.Writing.{canonical}
use Rattle.format.specs.Steps.Lengths.{written_body, volume_part, network_part}
use Rattle.format.specs.Steps.Shape.{Shape, no_slot, row_as, rows_from}
use Rattle.format.specs.Steps.Flat.{info_to}

-- how many characters stand in n bytes
abbrev pub characters_in : Bool → ℕ → ℕ
characters_in true n = n / 2
characters_in false n = n

pub record InBuffer (d : List ℕ) (b : Place) : Type 0 where
  pub within : b.at + b.len ≤ length d

-- each body that is there lies in the body buffer
pub record RowInBuffer (d : List ℕ) (ps : List Place) (s : Shape) : Type 0 where
  pub slot : (k : ℕ) → (get_or s k no_slot).there ≡ true → InBuffer d (get_or ps k no_place)

-- of the slots between the items and the blocks: LinkInfo's texts, then the strings
abbrev pub characters_kind : ℕ → Bool → BodyKind
characters_kind k unicode = cond (ltb k (string_slot name_bit)) (text_kind unicode) (string_kind unicode)

abbrev pub characters_row : Shape → ℕ → BodyRow
characters_row s k = row_as (characters_kind k) s k

-- slots from k on
unfoldable pub slots_size : List Place → ℕ → List BodyRow → ℕ
slots_size ps k rows = sum (along no_place written_body k rows ps)

-- LinkInfo's heads and bodies, one after another
abbrev pub info_parts : Record → Shape → ℕ
info_parts q s =
    28 + cond q.link.long 8 0
    + ((place_in q further_slot).len
    + (volume_part q.link + (slots_size q.places 1 (rows_from (row_as text_kind s) 1 2) + (network_part q.link + slots_size q.places 3 (rows_from (row_as text_kind s) 3 7)))))

-- how long the sections are, by the sizes that each slot has
abbrev pub flat_size : Record → Shape → List ℕ → ℕ
flat_size q s sizes =
    76
    + (cond (items_there q.header.flags) ((place_in q items_slot).len + 4) 0
    + (cond (info_there q.header.flags) (info_to q.link sizes) 0
    + (slots_size q.places 10 (rows_from (row_as string_kind s) 10 5) + ((place_in q blocks_slot).len + 4))))

-- the record's bodies lie in the body buffer d, and its canonical form has room in out and is no longer than a shortcut can be
pub record RoomFor (d out : List ℕ) (q : Record) : Type 0 where
  pub inside : placed (length d) q ≡ true
  pub few : length (canonical (contents d q)) ≤ most
  pub room : length (canonical (contents d q)) ≤ length out
