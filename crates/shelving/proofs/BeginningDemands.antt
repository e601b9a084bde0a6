-- No proper beginning of a shelf is a shelf: every call on one refuses it with SHELF, and touches no buffer.
use mathlib.Core.Path.{◌≡◌, refl, sym, ap, ◌∙◌}
use mathlib.Core.List.{List, [], ◌∷◌}
use mathlib.Core.Bool.{Bool, true, false}
use Prim.Native.Nat.{ℕ, zero, suc, ◌+◌, ◌*◌, ◌-◌, ◌≤◌, ◌<◌}
use native.Mathlib.Omega.{arith}
use native.Mathlib.Nat.{add-sub_of_le}
use lib.ListN.{length, take, drop}
use lib.Seq.{length-take-le, take-take}
use lib.Dec.{eqb}
use borrow.Author.Tests.{eqb-true}
use Rattle.octets.specs.Numbers.{u32_at}
use Rattle.octets.proofs.NumberLaws.{number_same}
use Rattle.format.specs.declared.Place.{Place}
use Rattle.format.specs.Tests.{all, place}
use Rattle.format.proofs.Bools.{and-true}
use Rattle.format.proofs.Chains.{drop-take}
use Rattle.shelves.specs.Table.{shelf_count, table_rows, shelf_rows, bodies_start, rows_follow, shelf_tests}
use Rattle.shelving.specs.Shelf.{shelf, shelf_answer, shelf_entry, shelf_one, entry_answer, one_answer}
use Rattle.shelving.specs.Promises.{NoShelf}
use Rattle.shelves.proofs.TableLaws.{Right, shelf_Right}
use Rattle.shelving.proofs.CallLaws.{table_wrong, check_wrong}
use Rattle.shelving.proofs.FileLaws.{to_told, to_wrong}
use Rattle.shelving.proofs.ShelfLaws.{shelf_is, gives}
use Rattle.std.specs.Prelude.{Ok}

-- bodies that follow each other end at one place
one_end : (p e f : ℕ) (bs : List Place) → rows_follow e p bs ≡ true → rows_follow f p bs ≡ true → e ≡ f
one_end p e f [] a b = sym (eqb-true p e a) ∙ eqb-true p f b
one_end p e f (x ∷ bs) a b =
    one_end (p + x.len) e f bs (and-true (eqb x.at p) (rows_follow e (p + x.len) bs) a).1 (and-true (eqb x.at p) (rows_follow f (p + x.len) bs) b).1

-- a table looks at its own bytes alone
same_rows : (n k : ℕ) (t u : List ℕ) → take k t ≡ take k u → 8 * n ≤ k → table_rows n t ≡ table_rows n u
same_rows zero k t u e h = refl
same_rows (suc n) k t u e h =
    let a : u32_at t 0 ≡ u32_at u 0 = number_same 4 k t u 0 e (omega arith) in
    let b : u32_at t 4 ≡ u32_at u 4 = number_same 4 k t u 4 e (omega arith) in
    let l : 8 ≤ k = omega arith in
    let x : drop 8 (take k t) ≡ take (k - 8) (drop 8 t) = rw add-sub_of_le at (drop-take 8 (k - 8) t) in
    let y : drop 8 (take k u) ≡ take (k - 8) (drop 8 u) = rw add-sub_of_le at (drop-take 8 (k - 8) u) in
    rw (a, b) (ap (λ (r : List Place). place (u32_at u 0) (u32_at u 4) ∷ r) (same_rows n (k - 8) (drop 8 t) (drop 8 u) (sym x ∙ ap (drop 8) e ∙ y) (omega arith)))

module _ (s : List ℕ) (k : ℕ) (h : k < length s) where
  abbrev t : List ℕ
  t = take k s

  -- what a beginning has of the table is the shelf's, and leads to the shelf's end
  not_Right : Right s → Right t → ⊥
  unfolding shelf_rows
  not_Right x y =
      let l : length t ≡ k = length-take-le k s (omega arith) in
      let four : 4 ≤ k = omega (arith, l, y.long) in
      let c : shelf_count t ≡ shelf_count s = number_same 4 4 t s 0 (take-take 4 k s four) (omega arith) in
      let d : drop 4 t ≡ take (k - 4) (drop 4 s) = rw add-sub_of_le at (drop-take 4 (k - 4) s) in
      let e : take (k - 4) (drop 4 t) ≡ take (k - 4) (drop 4 s) = ap (take (k - 4)) d ∙ take-take (k - 4) (k - 4) (drop 4 s) (omega arith) in
      let r : table_rows (shelf_count s) (drop 4 t) ≡ table_rows (shelf_count s) (drop 4 s) = same_rows (shelf_count s) (k - 4) (drop 4 t) (drop 4 s) e (omega (arith, l, c, y.room)) in
      let q : rows_follow k (bodies_start (shelf_count s)) (table_rows (shelf_count s) (drop 4 s)) ≡ true = rw (l, c, r) at y.follow in
      omega (arith, one_end (bodies_start (shelf_count s)) (length s) k (table_rows (shelf_count s) (drop 4 s)) x.follow q)

  wrong : all (shelf_tests s) ≡ true → all (shelf_tests t) ≡ false
  wrong e = go (all (shelf_tests t)) refl
    where
      go : (b : Bool) → all (shelf_tests t) ≡ b → b ≡ false
      go true i = absurd (not_Right (shelf_Right s e) (shelf_Right t i))
      go false i = refl

  pub shelf_beginning : {n : ℕ} → shelf_answer s ≡ Ok n → NoShelf t
  unfolding shelf_answer shelf_entry shelf_one entry_answer one_answer
  shelf_beginning e =
      let x = gives (shelf s) e in
      let w = wrong (shelf_is s x.is).right in
      record {
        check = sym (check_wrong t w);
        entry = λ i. rw (table_wrong t _ _ w);
        one = λ i. rw (table_wrong t _ _ w);
        to_old = λ out. let z = to_told t out (to_wrong t out w) in (sym z.0, sym z.1.0);
      }
