-- How far the walk over the rows of a store has come, and what is left of them.
use Rattle.std.specs.Prelude.{ℕ, ◌+◌, ◌-◌, ◌≤◌, ◌<◌, ◌≡◌, List, [], ◌∷◌, ◌++◌, Bool, true, false, ◌||◌, Option, None, Some, length, take, drop, eqb}
use Rattle.octets.specs.Numbers.{u32_at}
use Rattle.format.specs.declared.StoreRow.{StoreRow}
use Rattle.format.specs.Tests.{all}
use Rattle.format.specs.Store.{values_tests, store_tests}
use Rattle.format.specs.StoreList.{per_part, value_row, store_rows}
use Rattle.storing.specs.declared.rows.StoreCursor.{StoreCursor}

-- what is left of the values of the storage at hand, and the storages after it
abbrev pub values_left : List ℕ → StoreCursor → List ℕ
values_left l c = take (c.end - c.at) (drop c.at l)

abbrev pub stores_left : List ℕ → StoreCursor → List ℕ
stores_left l c = drop c.end l

abbrev pub give_value : Bool → ℕ → List ℕ → List StoreRow
give_value named i x = value_row named i x ∷ []

-- before the first storage
abbrev pub first_cursor : StoreCursor
first_cursor = record { at = 0; end = 0; named = false }

-- the rows that are left
unfoldable pub rows_left : List ℕ → ℕ → StoreCursor → List StoreRow
unfolding per_part store_rows
rows_left l base c = per_part (give_value c.named) (base + c.at) 0 (values_left l c) ++ store_rows (base + c.end) (stores_left l c)

-- all tests hold of what is left
pub record Right (l : List ℕ) (c : StoreCursor) : Type 0 where
  pub order : c.at ≤ c.end
  pub inside : c.end ≤ length l
  pub values : (c.at ≡ c.end → ⊥) → all (values_tests c.named 0 (values_left l c)) ≡ true
  pub store : all (store_tests 0 (stores_left l c)) ≡ true

unfoldable pub values_over : List ℕ → StoreCursor → Bool
values_over l c = eqb c.at c.end || eqb (u32_at l c.at) 0

-- r is the first of the rows that are left, and d a cursor for the others
pub record Next (l : List ℕ) (base : ℕ) (c : StoreCursor) (r : StoreRow) (d : StoreCursor) : Type 0 where
  pub rows : rows_left l base c ≡ r ∷ rows_left l base d
  pub right : Right l d
  pub ahead : c.at < d.at

pub record NoneLeft (l : List ℕ) (base : ℕ) (c : StoreCursor) : Type 0 where
  pub none : rows_left l base c ≡ []

abbrev pub NextIs : List ℕ → ℕ → StoreCursor → Option (StoreRow × StoreCursor) → Type 0
NextIs l base c (Some (r, d)) = Next l base c r d
NextIs l base c None = NoneLeft l base c
