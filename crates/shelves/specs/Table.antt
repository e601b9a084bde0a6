-- FORMAT: Shelf layout, Shelf tests. The count and the table of a shelf, the entries that they lead to, and the bytes of a shelf.
use Rattle.std.specs.Prelude.{ℕ, zero, suc, ◌+◌, ◌*◌, List, [], ◌∷◌, ◌++◌, map, Bool, ◌&&◌, length, drop, get_or, leb, eqb}
use Rattle.octets.specs.Numbers.{u32_at, little}
use Rattle.format.specs.declared.Place.{Place}
use Rattle.format.specs.declared.Fault.TheVariants.{Shelf as SHELF}
use Rattle.format.specs.Tests.{Test, ◌else◌at◌, place, no_place}
use Rattle.format.specs.Contents.{bytes_at}
use Rattle.format.specs.Writing.{end_to_end}

-- ---- count and table

abbrev pub most_entries : ℕ
most_entries = 64

abbrev pub shelf_count : List ℕ → ℕ
shelf_count s = u32_at s 0

-- a row has a start and a length of four bytes each
abbrev pub table_rows : ℕ → List ℕ → List Place
table_rows zero t = []
table_rows (suc k) t = place (u32_at t 0) (u32_at t 4) ∷ table_rows k (drop 8 t)

unfoldable pub shelf_rows : List ℕ → List Place
shelf_rows s = table_rows (shelf_count s) (drop 4 s)

-- the bodies follow the count and a table of n rows
abbrev pub bodies_start : ℕ → ℕ
bodies_start n = 4 + 8 * n

-- each body starts where the one before it ends, in the order of the table, and the last ends with the file
abbrev pub rows_follow : ℕ → ℕ → List Place → Bool
rows_follow end p [] = eqb p end
rows_follow end p (b ∷ bs) = eqb b.at p && rows_follow end (p + b.len) bs

unfoldable pub shelf_tests : List ℕ → List Test
shelf_tests s =
    leb 4 (length s) else SHELF at 0
    ∷ leb (shelf_count s) most_entries else SHELF at 0
    ∷ leb (bodies_start (shelf_count s)) (length s) else SHELF at 0
    ∷ rows_follow (length s) (bodies_start (shelf_count s)) (shelf_rows s) else SHELF at 0
    ∷ []

unfoldable pub shelf_entries : List ℕ → List (List ℕ)
shelf_entries s = map (bytes_at s) (shelf_rows s)

-- where the entry of this number stands
unfoldable pub shelf_row : List ℕ → ℕ → Place
shelf_row s k = get_or (shelf_rows s) k no_place

-- ---- the bytes of a shelf

-- a row for each length, the first body at this start
abbrev pub table_bytes : ℕ → List ℕ → List ℕ
table_bytes p [] = []
table_bytes p (n ∷ ns) = little 4 p ++ (little 4 n ++ table_bytes (p + n) ns)

-- count, table, bodies
unfoldable pub shelf_bytes : List (List ℕ) → List ℕ
shelf_bytes es = little 4 (length es) ++ (table_bytes (bodies_start (length es)) (map length es) ++ end_to_end es)
