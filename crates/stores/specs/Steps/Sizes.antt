-- How long a list of rows is as written.
use Rattle.std.specs.Prelude.{ℕ, ◌+◌, List, Option, None, Some, cond, length, leb, eqb}
use Rattle.format.specs.declared.StoreRow.{StoreRow}
use Rattle.format.specs.StoreWriting.{Entry, entries_fit, store_bytes, most_store}
use Rattle.stores.specs.declared.tests.Values.{Values}
use Rattle.stores.specs.declared.tests.Values.TheVariants.{NoneYet, ByNumber, ByName}

-- the kind of the values that may stand here
abbrev pub values_kind : Values → ℕ
values_kind NoneYet = 0
values_kind ByNumber = 1
values_kind ByName = 2

-- one more than the longest stands for every length that is too great
abbrev pub capped_store : ℕ → ℕ
capped_store n = cond (leb n most_store) n (most_store + 1)

-- a storage with its zero size, or a value
unfoldable pub row_size : StoreRow → ℕ
row_size r =
    cond (eqb r.kind 0) 28
    (cond (eqb r.kind 1) (9 + capped_store r.raw.len)
    (9 + capped_store r.name.len + capped_store r.raw.len))

-- the store's length, if there is one
unfoldable pub store_size : List Entry → Option ℕ
unfolding entries_fit store_bytes
store_size es = cond (entries_fit 0 es) (Some (capped_store (length (store_bytes es)))) None

-- the same as a number, 0 where there is none
unfoldable pub size_or_0 : List Entry → ℕ
unfolding entries_fit store_bytes
size_or_0 es = cond (entries_fit 0 es) (capped_store (length (store_bytes es))) 0
