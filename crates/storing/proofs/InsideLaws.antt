-- The places of a store's rows lie inside the store.
use mathlib.Core.Path.{◌≡◌, ap}
use mathlib.Core.List.{List, [], ◌∷◌, ◌++◌}
use mathlib.Core.Bool.{Bool, true, false}
use Prim.Native.Nat.{ℕ, zero, suc, ◌+◌, ◌≤◌}
use native.Mathlib.Omega.{arith}
use lib.ListN.{length, take, drop, length-drop}
use lib.Seq.{length-take-le}
use borrow.Author.Tests.{leb-true}
use Rattle.octets.specs.Numbers.{u32_at}
use Rattle.octets.proofs.NumberLaws.{length-little}
use Rattle.format.specs.declared.StoreRow.{StoreRow}
use Rattle.format.specs.Tests.{Test}
use Rattle.format.specs.Store.{part_tests, value_tests, is_named, identifier_of, storage_tests, store_tests}
use Rattle.format.specs.StoreList.{per_part, value_row, storage_rows, store_rows, nth_row}
use Rattle.format.proofs.Chains.{Pass}
use Rattle.format.proofs.StoreLaws.{parts_split}
use Rattle.format.proofs.StoreReads.{per_end, per_part_lem}
use Rattle.storing.specs.Steps.Stored.{RowIn}

abbrev pub RowsIn : ℕ → List StoreRow → Type 0
RowsIn n [] = Unit {0}
RowsIn n (r ∷ rs) = RowIn n r × RowsIn n rs

pub rows_more : (m n : ℕ) (rs : List StoreRow) → m ≤ n → RowsIn m rs → RowsIn n rs
rows_more m n [] h k = tt
rows_more m n (r ∷ rs) h (a, k) = (record { name = omega (arith, a.name); raw = omega (arith, a.raw) }, rows_more m n rs h k)

rows_append : (n : ℕ) (a b : List StoreRow) → RowsIn n a → RowsIn n b → RowsIn n (a ++ b)
rows_append n [] b h k = k
rows_append n (r ∷ rs) b (x, h) k = (x, rows_append n rs b h k)

-- what each part gives lies inside it: so it is with all
module _ (least : ℕ) (own : ℕ → List ℕ → List Test) (give : ℕ → List ℕ → List StoreRow)
    (each : (i j : ℕ) (v : List ℕ) → least ≤ length v → Pass (own j v) → RowsIn (i + length v) (give i v)) where
  -- k bounds what is left
  parts_in : (k i j : ℕ) (l : List ℕ) → length l ≤ k → Pass (part_tests least own j 0 l) → RowsIn (i + length l) (per_part give i 0 l)
  parts_in zero i j l small p = parts_split least own j l p (λ e. absurd (omega (arith, ap length e, length-little 4 0))) (λ n e some low fits four o q. absurd (omega arith))
  parts_in (suc k) i j l small p =
      parts_split least own j l p
      (λ e. rw (e, per_end give i) tt)
      (λ n e some low fits four o q.
      let z : length (take n l) ≡ n = length-take-le n l fits in
      let d = length-drop n l in
      let here = each i j (take n l) (omega arith) o in
      let rest = parts_in k (i + n) (j + n) (drop n l) (omega arith) q in
      rw (per_part_lem give i l n e some four)
      (rows_append (i + length l) (give i (take n l)) (per_part give (i + n) 0 (drop n l))
      (rows_more (i + length (take n l)) (i + length l) (give i (take n l)) (omega arith) here)
      (rows_more (i + n + length (drop n l)) (i + length l) (per_part give (i + n) 0 (drop n l)) (omega arith) rest)))

value_in : (named : Bool) (i j : ℕ) (v : List ℕ) → 9 ≤ length v → Pass (value_tests named j v) → RowsIn (i + length v) (value_row named i v ∷ [])
value_in true i j v low p =
    let k : 9 + u32_at v 4 ≤ length v = leb-true (9 + u32_at v 4) (length v) p.0 in
    (record { name = omega arith; raw = omega arith }, tt)
value_in false i j v low p = (record { name = omega arith; raw = omega arith }, tt)

storage_in : (i j : ℕ) (v : List ℕ) → 28 ≤ length v → Pass (storage_tests j v) → RowsIn (i + length v) (storage_rows i v)
storage_in i j v low p =
    let named : Bool = is_named (identifier_of v) in
    let d = length-drop 24 v in
    let give : ℕ → List ℕ → List StoreRow = λ i x. value_row named i x ∷ [] in (
      record { name = omega arith; raw = omega arith },
      rows_more (i + 24 + length (drop 24 v)) (i + length v) (per_part give (i + 24) 0 (drop 24 v)) (omega arith)
          (parts_in 9 (value_tests named) give (value_in named) (length (drop 24 v)) (i + 24) (j + 24) (drop 24 v) (omega arith) p.1),
    )

pub store_in : (i j : ℕ) (l : List ℕ) → Pass (store_tests j l) → RowsIn (i + length l) (store_rows i l)
unfolding store_tests store_rows
store_in i j l p = parts_in 28 storage_tests storage_rows storage_in (length l) i j l (omega arith) p

pub nth_in : (n k : ℕ) (rs : List StoreRow) → RowsIn n rs → RowIn n (nth_row k rs)
nth_in n k [] h = record { name = omega arith; raw = omega arith }
nth_in n zero (r ∷ rs) h = h.0
nth_in n (suc k) (r ∷ rs) h = nth_in n k rs h.1
