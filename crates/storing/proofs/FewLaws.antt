-- A store has no more rows than bytes.
use mathlib.Core.Path.{◌≡◌, refl}
use mathlib.Core.List.{List, [], ◌∷◌, ◌++◌}
use mathlib.Core.Bool.{Bool, true, false, cond}
use Prim.Native.Nat.{ℕ, zero, suc, ◌+◌, ◌-◌, ◌≤◌, ◌<◌}
use native.Mathlib.Omega.{arith}
use lib.ListN.{length, take, drop, length-append, length-take, length-drop}
use lib.Dec.{eqb}
use Rattle.octets.specs.Numbers.{u32_at}
use Rattle.format.specs.declared.Place.{Place}
use Rattle.format.specs.declared.StoreRow.{StoreRow}
use Rattle.format.specs.Store.{is_named, identifier_of}
use Rattle.format.specs.Shortcut.{Sections, blocks_of}
use Rattle.format.specs.Blocks.{first_place}
use Rattle.format.specs.Contents.{bytes_at}
use Rattle.format.specs.StoreList.{per_part, value_row, storage_rows, store_rows, block_rows, rows_of}
use Rattle.format.proofs.StoreLaws.{not_zero}

module _ (give : ℕ → List ℕ → List StoreRow) (few : (i : ℕ) (v : List ℕ) → 0 < length v → length (give i v) ≤ length v) where
  part_few : (i n a : ℕ) (l : List ℕ) → length (per_part give (i + n) (n - 1) l) ≤ length l - (n - 1)
      → length (cond (eqb n 0) [] (give i (take n (a ∷ l)) ++ per_part give (i + n) (n - 1) l)) ≤ length (a ∷ l) - 0
  part_few i n a l rest = go (eqb n 0) refl
    where
      go : (b : Bool) → eqb n 0 ≡ b → length (cond b [] (give i (take n (a ∷ l)) ++ per_part give (i + n) (n - 1) l)) ≤ length (a ∷ l) - 0
      go true e = omega arith
      go false e =
          let some = not_zero n e in
          let t = length-take n (a ∷ l) in
          omega (arith, length-append (give i (take n (a ∷ l))) (per_part give (i + n) (n - 1) l), few i (take n (a ∷ l)) (omega arith))

  parts_few : (i k : ℕ) (l : List ℕ) → length (per_part give i k l) ≤ length l - k
  unfolding per_part
  parts_few i zero [] = omega arith
  parts_few i zero (a ∷ l) = let n : ℕ = u32_at (a ∷ l) 0 in part_few i n a l (parts_few (i + n) (n - 1) l)
  parts_few i (suc k) [] = omega arith
  parts_few i (suc k) (a ∷ l) = omega (arith, parts_few i k l)

values_few : (named : Bool) (i : ℕ) (l : List ℕ) → length (per_part (λ i x. value_row named i x ∷ []) i 0 l) ≤ length l
values_few named i l = omega (arith, parts_few (λ i x. value_row named i x ∷ []) (λ i v some. omega arith) i 0 l)

storage_few : (i : ℕ) (v : List ℕ) → 0 < length v → length (storage_rows i v) ≤ length v
storage_few i v some = omega (arith, values_few (is_named (identifier_of v)) (i + 24) (drop 24 v), length-drop 24 v)

pub store_few : (i : ℕ) (l : List ℕ) → length (store_rows i l) ≤ length l
unfolding store_rows
store_few i l = omega (arith, parts_few storage_rows storage_few i 0 l)

pub block_few : (s : List ℕ) (b : Place) → length (block_rows s b) ≤ length s
block_few s b =
    let t = length-take b.len (drop b.at s) in
    omega (arith, store_few (b.at + 8) (drop 8 (bytes_at s b)), length-drop 8 (bytes_at s b), length-drop b.at s)

pub rows_few : (s : List ℕ) (c : Sections) → length (rows_of s c) ≤ length s
unfolding rows_of
rows_few s c = block_few s (first_place s 0xA0000009 (blocks_of c).start (blocks_of c).read)
