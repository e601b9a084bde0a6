-- Listing the store of a shortcut and writing the list gives the store's own bytes again.
use mathlib.Core.Path.{◌≡◌, refl, sym, ap, ◌∙◌}
use mathlib.Core.List.{List, [], ◌∷◌, ◌++◌, append_assoc}
use mathlib.Core.Bool.{Bool, true, false, cond}
use Prim.Native.Nat.{ℕ, ◌+◌, ◌-◌, ◌/◌, ◌%◌, ◌≤◌}
use native.Mathlib.Omega.{arith}
use lib.ListN.{length, drop, get_or, length-append, length-drop}
use lib.Seq.{length-take-le, take-length, get_or-append-add}
use lib.Dec.{eqb}
use borrow.Author.Tests.{le-leb}
use Rattle.octets.specs.Numbers.{Bytes}
use Rattle.octets.proofs.NumberLaws.{Bytes-take, Bytes-drop}
use Rattle.format.specs.declared.Profile.{Profile}
use Rattle.format.specs.declared.Place.{Place}
use Rattle.format.specs.declared.StoreRow.{StoreRow}
use Rattle.format.specs.Tests.{got}
use Rattle.format.specs.Store.{store_tests}
use Rattle.format.specs.Blocks.{first_place}
use Rattle.format.specs.Bodies.{all_inside}
use Rattle.format.specs.Shortcut.{Sections, blocks_of, shortcut}
use Rattle.format.specs.Contents.{bytes_at}
use Rattle.format.specs.StoreList.{row_numbers, all_numbers, store_rows, rows_of}
use Rattle.format.specs.StoreWriting.{entries, places_used, rows_placed, row_at, rows_at, rows_from, store_writing, ReadsAsStore}
use Rattle.format.proofs.Bools.{and_both}
use Rattle.format.proofs.Chains.{Pass-all}
use Rattle.format.proofs.PositionLaws.{part_drop}
use Rattle.format.proofs.StoreLaws.{store_anywhere}
use Rattle.format.proofs.StoreReads.{Stands, store_said}
use Rattle.format.proofs.StoreWrites.{reads_written}
use Rattle.format.proofs.StoreDemands.{HoldsStore, held_store, held_small}
use Rattle.storing.specs.Steps.Stored.{RowIn}
use Rattle.storing.proofs.InsideLaws.{RowsIn, rows_more, store_in}
use Rattle.storing.proofs.RowLaws.{numbers_long}

-- ---- a list of rows as numbers, and back

row_back : (before : List ℕ) (r : StoreRow) (after : List ℕ) → row_at (before ++ (row_numbers r ++ after)) (length before) ≡ r
row_back before r after =
    let l : List ℕ = row_numbers r ++ after in
    let zeroth : get_or (before ++ l) (length before) 0 ≡ r.kind = ap (λ (k : ℕ). get_or (before ++ l) k 0) (omega arith) ∙ get_or-append-add before l 0 0 in
    rw (zeroth, get_or-append-add before l 1 0, get_or-append-add before l 2 0, get_or-append-add before l 3 0, get_or-append-add before l 4 0, get_or-append-add before l 5 0)

rows_back : (before : List ℕ) (rs : List StoreRow) → rows_at (before ++ all_numbers rs) (length before) (length rs) ≡ rs
rows_back before [] = refl
rows_back before (r ∷ rs) =
    let a = append_assoc before (row_numbers r) (all_numbers rs) in
    let m : length before + 6 ≡ length (before ++ row_numbers r) = sym (length-append before (row_numbers r)) in
    let rest : rows_at (before ++ (row_numbers r ++ all_numbers rs)) (length before + 6) (length rs) ≡ rs = rw (m, ← a) (rows_back (before ++ row_numbers r) rs) in
    rw (row_back before r (all_numbers rs), rest)

module _ (rs : List StoreRow) where
  whole_rows : length (all_numbers rs) % 6 ≡ 0
  whole_rows = omega (arith, numbers_long rs)

  list_back : rows_from (all_numbers rs) ≡ rs
  unfolding rows_from
  list_back =
      let k : length (all_numbers rs) / 6 ≡ length rs = omega (arith, numbers_long rs) in
      rw k (rows_back [] rs)

-- ---- rows that lie inside

row_placed : (n : ℕ) (r : StoreRow) → RowIn n r → all_inside n (places_used r) ≡ true
row_placed n r h = go (eqb r.kind 0) (eqb r.kind 1) (eqb r.kind 2)
  where
    raw : all_inside n (r.raw ∷ []) ≡ true
    raw = rw (le-leb (r.raw.at + r.raw.len) n h.raw)

    go : (x y z : Bool) → all_inside n (cond x (r.raw ∷ []) (cond y (r.raw ∷ []) (cond z (r.name ∷ r.raw ∷ []) []))) ≡ true
    go true y z = raw
    go false true z = raw
    go false false true = rw (le-leb (r.name.at + r.name.len) n h.name) raw
    go false false false = refl

rows_placed_lem : (n : ℕ) (rs : List StoreRow) → RowsIn n rs → rows_placed n rs ≡ true
rows_placed_lem n [] h = refl
rows_placed_lem n (r ∷ rs) (a, h) = and_both (all_inside n (places_used r)) (rows_placed n rs) (row_placed n r a) (rows_placed_lem n rs h)

-- ---- the store of a shortcut

module _ (profile : Profile) (s : List ℕ) (bytes : Bytes s) (c : Sections) (n : ℕ) (e : shortcut profile s ≡ got c n) where
  abbrev at : Place
  at = first_place s 0xA0000009 (blocks_of c).start (blocks_of c).read

  -- the store itself, without the block's head
  abbrev store : List ℕ
  store = drop 8 (bytes_at s at)

  module _ (some : at.len ≡ 0 → ⊥) where
    holds : HoldsStore s (blocks_of c).start at
    holds = held_store profile s c n e some

    store_long : length store ≡ at.len - 8
    store_long =
        let l = length-take-le at.len (drop at.at s) (omega (arith, holds.inside, length-drop at.at s)) in
        omega (arith, length-drop 8 (bytes_at s at))

    stands : Stands s (at.at + 8) store
    stands = record { is = rw store_long (sym (part_drop 8 at.len at.at s (omega (arith, holds.long)))) }

    reads : ReadsAsStore store (entries s (store_rows (at.at + 8) store))
    reads = record {
      bytes = Bytes-drop 8 (bytes_at s at) (Bytes-take at.len (drop at.at s) (Bytes-drop at.at s bytes));
      small = held_small profile s c n e some;
      right = store_anywhere 0 8 store ∙ Pass-all (store_tests 8 store) holds.right;
      same = store_said store 0 8 store (record { is = take-length store }) holds.right ∙ sym (store_said s (at.at + 8) 8 store stands holds.right);
    }

    placed : rows_placed (length s) (store_rows (at.at + 8) store) ≡ true
    placed =
        let k : at.at + 8 + length store ≤ length s = omega (arith, store_long, holds.inside, holds.long) in
        rows_placed_lem (length s) (store_rows (at.at + 8) store) (rows_more (at.at + 8 + length store) (length s) (store_rows (at.at + 8) store) k (store_in (at.at + 8) 8 store holds.right))

    pub store_again : (room : ℕ) → length store ≤ room → store_writing (all_numbers (rows_of s c)) s room ≡ got store (length store)
    unfolding store_writing rows_of
    store_again room h =
        let rs : List StoreRow = store_rows (at.at + 8) store in
        let (can, is) = reads_written store (entries s rs) reads in
        rw (list_back rs, placed, whole_rows rs, can, is, le-leb (length store) room h)
