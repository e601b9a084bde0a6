-- FORMAT: Store list. The storages and values of a shortcut's store as rows, in order, each storage before its values.
use Rattle.std.specs.Prelude.{ℕ, zero, suc, ◌+◌, ◌-◌, List, [], ◌∷◌, ◌++◌, Bool, cond, length, take, drop, leb, eqb}
use Rattle.octets.specs.Numbers.{u32_at}
use Rattle.format.specs.declared.Profile.{Profile}
use Rattle.format.specs.declared.Place.{Place}
use Rattle.format.specs.declared.StoreRow.{StoreRow}
use Rattle.format.specs.declared.Fault.TheVariants.{Room as ROOM}
use Rattle.format.specs.Tests.{Outcome, got, refused, ◌else◌at◌, no_section, tests, and_then, place, no_place}
use Rattle.format.specs.Store.{name_length, is_named, identifier_of}
use Rattle.format.specs.Blocks.{first_place}
use Rattle.format.specs.Shortcut.{Sections, blocks_of, shortcut, verdict_of}
use Rattle.format.specs.Contents.{bytes_at}
use Rattle.format.specs.Writing.{output_of}
use Rattle.format.specs.Verdicts.{Verdict}

-- ---- rows

-- kind 0 is a storage, 1 a value named by number, 2 a value named by string.
-- A storage's 16-byte format identifier stands there
abbrev pub storage_row : Place → StoreRow
storage_row b = record { kind = 0; number = 0; name = no_place; raw = b }

abbrev pub number_row : ℕ → Place → StoreRow
number_row n b = record { kind = 1; number = n; name = no_place; raw = b }

abbrev pub name_row : Place → Place → StoreRow
name_row a b = record { kind = 2; number = 0; name = a; raw = b }

-- a row is six numbers
abbrev pub row_numbers : StoreRow → List ℕ
row_numbers r = r.kind ∷ r.number ∷ r.name.at ∷ r.name.len ∷ r.raw.at ∷ r.raw.len ∷ []

abbrev pub all_numbers : List StoreRow → List ℕ
all_numbers [] = []
all_numbers (r ∷ rs) = row_numbers r ++ all_numbers rs

-- ---- the rows of a store whose tests hold

-- what each part gives by its place and its bytes, one after another up to the zero size.
-- A size stands at i, or k bytes of the part before it are still to come
unfoldable pub per_part : {A : Type 0} → (ℕ → List ℕ → List A) → ℕ → ℕ → List ℕ → List A
per_part give i zero [] = []
per_part give i zero (a ∷ l) =
    let s = a ∷ l in
    let n = u32_at s 0 in
    let rest = per_part give (i + n) (n - 1) l in
    cond (eqb n 0) [] (give i (take n s) ++ rest)
per_part give i (suc k) [] = []
per_part give i (suc k) (a ∷ l) = per_part give i k l

-- the raw bytes are all that follow the name, or the zero byte where there is none
abbrev pub value_row : Bool → ℕ → List ℕ → StoreRow
value_row named i v =
    let m = 9 + name_length named v in
    let raw = place (i + m) (length v - m) in
    cond named (name_row (place (i + 9) (name_length named v)) raw) (number_row (u32_at v 4) raw)

abbrev pub storage_rows : ℕ → List ℕ → List StoreRow
storage_rows i v = storage_row (place (i + 8) 16) ∷ per_part (λ i x. value_row (is_named (identifier_of v)) i x ∷ []) (i + 24) 0 (drop 24 v)

unfoldable pub store_rows : ℕ → List ℕ → List StoreRow
unfolding is_named per_part
store_rows i l = per_part storage_rows i 0 l

-- ---- the list of a shortcut

-- of the store in the block that stands there; without a block that place is empty, and so is the list
abbrev pub block_rows : List ℕ → Place → List StoreRow
block_rows s b = store_rows (b.at + 8) (drop 8 (bytes_at s b))

unfoldable pub rows_of : List ℕ → Sections → List StoreRow
unfolding store_rows
rows_of s c = block_rows s (first_place s 0xA0000009 (blocks_of c).start (blocks_of c).read)

-- Refusals: as for reading, then 12. The answer is the number of rows
unfoldable pub store_list : Profile → List ℕ → ℕ → Outcome (List ℕ)
unfolding shortcut rows_of
store_list profile s room =
    and_then (shortcut profile s) (λ c n.
    let w = all_numbers (rows_of s c) in
    tests no_section (leb (length w) room else ROOM at 0 ∷ []) (got w (length (rows_of s c))))

-- the answer, and the output buffer afterwards; the room is the buffer's length
unfoldable pub store_list_answer : Profile → List ℕ → List ℕ → Verdict
unfolding store_list
store_list_answer profile s out = verdict_of (store_list profile s (length out))

unfoldable pub store_list_output : Profile → List ℕ → List ℕ → List ℕ
unfolding store_list output_of
store_list_output profile s out = output_of (store_list profile s (length out)) out

-- ---- a row by its number

-- a refused shortcut has no rows
abbrev pub rows_by : List ℕ → Outcome Sections → List StoreRow
rows_by s (got c n) = rows_of s c
rows_by s (refused f p) = []

-- a row that is not there is empty
abbrev pub nth_row : ℕ → List StoreRow → StoreRow
nth_row k [] = storage_row no_place
nth_row zero (r ∷ rs) = r
nth_row (suc k) (r ∷ rs) = nth_row k rs

unfoldable pub store_row : Profile → List ℕ → ℕ → StoreRow
unfolding shortcut rows_of
store_row profile s k = nth_row k (rows_by s (shortcut profile s))

-- the caller's own bytes there; no row but a value's that is named by string has a name
unfoldable pub store_name : Profile → List ℕ → ℕ → List ℕ
unfolding store_row
store_name profile s k = bytes_at s (store_row profile s k).name

unfoldable pub store_raw : Profile → List ℕ → ℕ → List ℕ
unfolding store_row
store_raw profile s k = bytes_at s (store_row profile s k).raw
