-- The steps by which the second phase puts a record's numbers.
use Rattle.std.specs.Prelude.{ℕ, List, set}
use Rattle.format.specs.declared.Header.{Header}
use Rattle.format.specs.declared.Record.{Record}
use Rattle.format.specs.Bodies.{place_in}
use Rattle.format.specs.Writing.{bits}
use Rattle.fields.specs.Steps.Putting.{with_place}

unfoldable pub with_header : List ℕ → Header → List ℕ
with_header f h =
    set (set (set (set (set (set (set (set (set f 0 h.flags) 1 h.attributes) 2 h.creation) 3 h.access) 4 h.write) 5 h.file_size) 6 (bits h.icon_index)) 7 h.command) 8 h.hotkey

-- the five strings' places, as the record r has them
unfoldable pub with_strings : List ℕ → Record → List ℕ
unfolding with_place
with_strings f r =
    with_place (with_place (with_place (with_place (with_place f 10 (place_in r 10)) 11 (place_in r 11)) 12 (place_in r 12)) 13 (place_in r 13)) 14 (place_in r 14)
