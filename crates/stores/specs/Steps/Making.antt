-- What is put of a store, row after row.
use Rattle.std.specs.Prelude.{ℕ, ◌+◌, ◌≤◌, ◌≡◌, List, [], ◌∷◌, ◌++◌, true, cond, length, eqb}
use Rattle.octets.specs.Numbers.{little}
use Rattle.copies.specs.declared.output.Output.{Output}
use Rattle.format.specs.declared.StoreRow.{StoreRow}
use Rattle.format.specs.StoreWriting.{Entry, storage, by_number, by_name, unknown, entries, rows_placed, sized, value_bytes, values_bytes, store_bytes, entries_fit, most_store, rows_from}
use Rattle.stores.specs.Steps.Sizes.{row_size}

-- ---- pieces

-- the values up to the next storage, with the zero size that ends them
unfoldable pub values_size : List StoreRow → ℕ
values_size [] = 4
values_size (r ∷ rs) = cond (eqb r.kind 0) 4 (row_size r + values_size rs)

-- a value with its number, or with its name and that one's length
abbrev pub value_with : ℕ → List ℕ → List ℕ → List ℕ
value_with n name raw = sized (little 4 n ++ (0 ∷ (name ++ raw)))

-- a value up to its name and raw bytes, of which there are n: its number, or its name's length
abbrev pub value_head : ℕ → ℕ → List ℕ
value_head number n = little 4 (9 + n) ++ (little 4 number ++ (0 ∷ []))

-- a storage up to its values, of which there are n bytes
abbrev pub head_bytes : List ℕ → ℕ → List ℕ
head_bytes identifier n = little 4 (24 + n) ++ (little 4 0x53505331 ++ identifier)

-- an entry after a storage or a value, with those that follow it
unfoldable pub row_bytes : Entry → List Entry → List ℕ
unfolding values_bytes
row_bytes (storage identifier) es = little 4 0 ++ head_bytes identifier (length (values_bytes es))
row_bytes (by_number n raw) es = value_bytes (by_number n raw)
row_bytes (by_name name raw) es = value_bytes (by_name name raw)
row_bytes unknown es = []

-- all that follows a storage's identifier, or a value
unfoldable pub open_bytes : List Entry → List ℕ
unfolding values_bytes store_bytes
open_bytes es = values_bytes es ++ store_bytes es

-- ---- what is asked

-- the rows lie in the body buffer d, and fit where values of this kind may stand
pub record Fitting (d : List ℕ) (rs : List StoreRow) : Type 0 where
  pub kind : ℕ
  pub placed : rows_placed (length d) rs ≡ true
  pub fits : entries_fit kind (entries d rs) ≡ true

-- and what they make has room in the output o, and is no longer than a store can be
pub record RowsRoom (rs : List StoreRow) (d : List ℕ) (o : Output) : Type 0 where
  pub fitting : Fitting d rs
  pub few : length (open_bytes (entries d rs)) ≤ most_store
  pub room : o.at + length (open_bytes (entries d rs)) ≤ length o.out.now

-- for a whole store
pub record StoreRoom (ns d out : List ℕ) : Type 0 where
  pub placed : rows_placed (length d) (rows_from ns) ≡ true
  pub fits : entries_fit 0 (entries d (rows_from ns)) ≡ true
  pub few : length (store_bytes (entries d (rows_from ns))) ≤ most_store
  pub room : length (store_bytes (entries d (rows_from ns))) ≤ length out
