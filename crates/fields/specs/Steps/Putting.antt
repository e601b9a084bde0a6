-- A place among the numbers of a record.
use Rattle.std.specs.Prelude.{ℕ, ◌+◌, ◌*◌, List, set}
use Rattle.format.specs.declared.Place.{Place}

-- the place in slot k
unfoldable pub with_place : List ℕ → ℕ → Place → List ℕ
with_place f k b = set (set f (17 + 2 * k) b.at) (18 + 2 * k) b.len
