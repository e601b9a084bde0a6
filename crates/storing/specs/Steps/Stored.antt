-- Where the store of a shortcut stands.
use Rattle.std.specs.Prelude.{◌≡◌, List, ℕ, ◌+◌, ◌≤◌, length, drop, true, Option, unwrap_or, IfSome, Result, Ok, Err}
use Rattle.format.specs.declared.Profile.{Profile}
use Rattle.format.specs.Tests.{all, refused, no_place}
use Rattle.format.specs.declared.Refusal.{Refusal}
use Rattle.format.specs.declared.Place.{Place}
use Rattle.format.specs.Store.{store_tests}
use Rattle.format.specs.Shortcut.{shortcut, reading}
use Rattle.format.specs.Contents.{bytes_at}
use Rattle.format.specs.declared.StoreRow.{StoreRow}
use Rattle.format.specs.StoreList.{block_rows, rows_by, store_row}

-- the block at b holds a store whose tests hold
pub record Holds (s : List ℕ) (b : Place) : Type 0 where
  pub inside : b.at + b.len ≤ length s
  pub long : 12 ≤ b.len
  pub right : all (store_tests 0 (drop 8 (bytes_at s b))) ≡ true

-- s is accepted, and the block at b, if there is one, holds its store
pub record StoreAt (profile : Profile) (s : List ℕ) (b : Option Place) : Type 0 where
  pub verdict : (reading profile s).verdict ≡ Ok (length s)
  pub rows : block_rows s (unwrap_or b no_place) ≡ rows_by s (shortcut profile s)
  pub holds : IfSome b (Holds s)

abbrev pub StoredIs : Profile → List ℕ → Result (Option Place) Refusal → Type 0
StoredIs profile s (Ok b) = StoreAt profile s b
StoredIs profile s (Err r) = shortcut profile s ≡ refused r.fault r.spot

-- the places of a row lie inside n bytes
pub record RowIn (n : ℕ) (r : StoreRow) : Type 0 where
  pub name : r.name.at + r.name.len ≤ n
  pub raw : r.raw.at + r.raw.len ≤ n

-- the row of this number in the shortcut s
pub record RowIs (profile : Profile) (s : List ℕ) (k : ℕ) (r : StoreRow) : Type 0 where
  pub is : r ≡ store_row profile s k
  pub inside : RowIn (length s) r
