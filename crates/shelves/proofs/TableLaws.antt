-- The table of a shelf, row after row, and what its tests say of the entries.
use mathlib.Core.Path.{◌≡◌, refl, sym, ap, ◌∙◌}
use mathlib.Core.List.{List, [], ◌∷◌, map}
use mathlib.Core.Bool.{Bool, true, false}
use Prim.Native.Nat.{ℕ, zero, suc, ◌+◌, ◌*◌, ◌-◌, ◌≤◌, ◌<◌}
use native.Mathlib.Omega.{arith}
use lib.ListN.{length, drop, get_or, get_or-map, length-drop, length-map}
use lib.Seq.{drop-drop, length-take-le}
use lib.Dec.{eqb}
use borrow.Author.Tests.{leb-true, le-leb, lt-leb, eqb-true, ne_eqb, eq-eqb}
use Rattle.octets.specs.Numbers.{u32_at}
use Rattle.octets.specs.Steps.Puts.{part}
use Rattle.octets.proofs.NumberLaws.{number_drop}
use Rattle.octets.proofs.PartLaws.{part_in}
use Rattle.format.specs.declared.Place.{Place}
use Rattle.format.specs.Tests.{all, place, no_place}
use Rattle.format.specs.Shortcut.{sum}
use Rattle.format.specs.Contents.{bytes_at}
use Rattle.format.proofs.Bools.{and-true, and_yes}
use Rattle.format.proofs.Chains.{all-Pass}
use Rattle.shelves.specs.Table.{most_entries, shelf_count, table_rows, shelf_rows, bodies_start, rows_follow, shelf_tests, shelf_entries, shelf_row}
use Rattle.shelves.specs.Steps.Apart.{apart, row, table_lengths}

abbrev pub length_of : Place → ℕ
length_of b = b.len

-- ---- rows

number_at : (s : List ℕ) (i j : ℕ) → u32_at (drop i s) j ≡ u32_at s (i + j)
number_at s i j = number_drop 4 i s j

-- the rows of a table of n from the one of the number k on
abbrev pub rows_on : List ℕ → ℕ → ℕ → List Place
rows_on s n k = table_rows (n - k) (drop (4 + 8 * k) s)

rows_first : (s : List ℕ) (i left : ℕ) → 0 < left → table_rows left (drop i s) ≡ place (u32_at s i) (u32_at s (i + 4)) ∷ table_rows (left - 1) (drop (i + 8) s)
rows_first s i zero h = absurd (omega arith)
rows_first s i (suc k) h =
    let e : suc k - 1 ≡ k = omega arith in
    let z : i + 0 ≡ i = omega arith in
    rw (number_at s i 0, number_at s i 4, z, e, drop-drop)

pub rows_on-more : (s : List ℕ) (n k : ℕ) → k < n → rows_on s n k ≡ row s k ∷ rows_on s n (k + 1)
rows_on-more s n k h =
    let i : 4 + 8 * k + 8 ≡ 4 + 8 * (k + 1) = omega arith in
    let e : n - k - 1 ≡ n - (k + 1) = omega arith in
    rows_first s (4 + 8 * k) (n - k) (omega arith) ∙ rw (i, e)

pub rows_on-none : (s : List ℕ) (n : ℕ) → rows_on s n n ≡ []
rows_on-none s n = let e : n - n ≡ 0 = omega arith in rw e

pub rows_on-all : (s : List ℕ) (n : ℕ) → rows_on s n 0 ≡ table_rows n (drop 4 s)
rows_on-all s n = let e : n - 0 ≡ n = omega arith in rw e

pub rows_count : (k : ℕ) (t : List ℕ) → length (table_rows k t) ≡ k
rows_count zero t = refl
rows_count (suc k) t = ap suc (rows_count k (drop 8 t))

-- ---- whether the bodies follow

module _ (s : List ℕ) (n k p end : ℕ) (more : k < n) where
  pub follow_stop : ((row s k).at ≡ p → ⊥) → false ≡ rows_follow end p (rows_on s n k)
  follow_stop a = rw (rows_on-more s n k more, ne_eqb (row s k).at p a)

  pub follow_on : (row s k).at ≡ p → rows_follow end (p + (row s k).len) (rows_on s n (k + 1)) ≡ rows_follow end p (rows_on s n k)
  follow_on e = rw (rows_on-more s n k more, eq-eqb (row s k).at p e)

-- after the last row
pub follow_end : (s : List ℕ) (n k p end : ℕ) → n ≤ k → eqb p end ≡ rows_follow end p (rows_on s n k)
follow_end s n k p end h = let none : n - k ≡ 0 = omega arith in rw none

-- ---- what the tests say

pub record Right (s : List ℕ) : Type 0 where
  pub long : 4 ≤ length s
  pub few : shelf_count s ≤ most_entries
  pub room : bodies_start (shelf_count s) ≤ length s
  pub follow : rows_follow (length s) (bodies_start (shelf_count s)) (shelf_rows s) ≡ true

pub shelf_Right : (s : List ℕ) → all (shelf_tests s) ≡ true → Right s
unfolding shelf_tests
shelf_Right s e =
    let (a, (b, (c, (d, z)))) = all-Pass (shelf_tests s) e in
    record { long = leb-true _ _ a; few = leb-true _ _ b; room = leb-true _ _ c; follow = d }

-- one law for each way out
module _ (s : List ℕ) where
  pub table_short : length s < 4 → false ≡ all (shelf_tests s)
  unfolding shelf_tests
  table_short h = rw (lt-leb 4 (length s) h)

  module _ (long : 4 ≤ length s) where
    pub table_many : most_entries < shelf_count s → false ≡ all (shelf_tests s)
    unfolding shelf_tests
    table_many h = rw (le-leb 4 (length s) long, lt-leb (shelf_count s) most_entries h)

    module _ (few : shelf_count s ≤ most_entries) where
      pub table_cut : length s < bodies_start (shelf_count s) → false ≡ all (shelf_tests s)
      unfolding shelf_tests
      table_cut h = rw (le-leb 4 (length s) long, le-leb (shelf_count s) most_entries few, lt-leb (bodies_start (shelf_count s)) (length s) h)

      pub table_told : bodies_start (shelf_count s) ≤ length s → {b : Bool} → b ≡ rows_follow (length s) (bodies_start (shelf_count s)) (table_rows (shelf_count s) (drop 4 s)) → b ≡ all (shelf_tests s)
      unfolding shelf_tests shelf_rows
      table_told h e =
          rw (le-leb 4 (length s) long, le-leb (shelf_count s) most_entries few, le-leb (bodies_start (shelf_count s)) (length s) h)
          (e ∙ sym (and_yes (rows_follow (length s) (bodies_start (shelf_count s)) (table_rows (shelf_count s) (drop 4 s)))))

-- ---- the entries lie end to end

module _ (s : List ℕ) where
  pub follow_apart : (p : ℕ) (rows : List Place) → rows_follow (length s) p rows ≡ true
      → (map (bytes_at s) rows ≡ apart 0 (map length_of rows) (drop p s)) × (p + sum (map length_of rows) ≡ length s)
  follow_apart p [] e = (refl, omega (arith, eqb-true p (length s) e))
  follow_apart p (b ∷ bs) e =
      let (f, g) = and-true (eqb b.at p) (rows_follow (length s) (p + b.len) bs) e in
      let (m, z) = follow_apart (p + b.len) bs g in
      let k : 0 + b.len ≡ b.len = omega arith in
      (rw (eqb-true b.at p f, m, k, drop-drop b.len p s), omega (arith, z))

  module _ (right : Right s) where
    -- the entries lie end to end, by the lengths of the table
    pub entries_apart : shelf_entries s ≡ apart 0 (table_lengths s) (drop (bodies_start (shelf_count s)) s)
    unfolding shelf_entries table_lengths
    entries_apart = (follow_apart (bodies_start (shelf_count s)) (shelf_rows s) right.follow).0

    pub lengths_sum : bodies_start (shelf_count s) + sum (table_lengths s) ≡ length s
    unfolding table_lengths
    lengths_sum = (follow_apart (bodies_start (shelf_count s)) (shelf_rows s) right.follow).1

  pub lengths_count : length (table_lengths s) ≡ shelf_count s
  unfolding table_lengths shelf_rows
  lengths_count = length-map (shelf_rows s) length_of ∙ rows_count (shelf_count s) (drop 4 s)

  pub entries_count : length (shelf_entries s) ≡ shelf_count s
  unfolding shelf_entries shelf_rows
  entries_count = length-map (shelf_rows s) (bytes_at s) ∙ rows_count (shelf_count s) (drop 4 s)

-- ---- a row by its number

nth_row : (s : List ℕ) (i n k : ℕ) → k < n → get_or (table_rows n (drop i s)) k no_place ≡ place (u32_at s (i + 8 * k)) (u32_at s (i + 8 * k + 4))
nth_row s i zero k h = absurd (omega arith)
nth_row s i (suc n) zero h =
    let z : i + 0 ≡ i = omega arith in
    rw (number_at s i 0, number_at s i 4, z)
nth_row s i (suc n) (suc k) h =
    let e : i + 8 + 8 * k ≡ i + 8 * suc k = omega arith in
    rw (drop-drop, ← e) (nth_row s (i + 8) n k (omega arith))

pub row_is : (s : List ℕ) (k : ℕ) → k < shelf_count s → shelf_row s k ≡ row s k
unfolding shelf_row shelf_rows
row_is s k h = nth_row s 4 (shelf_count s) k h

-- and its length
pub length_is : (s : List ℕ) (k : ℕ) → k < shelf_count s → get_or (table_lengths s) k 0 ≡ (row s k).len
unfolding table_lengths shelf_row
length_is s k h = get_or-map length_of (shelf_rows s) k no_place ∙ ap length_of (row_is s k h)

-- ---- a row lies in the shelf

follow_le : (end p : ℕ) (rows : List Place) → rows_follow end p rows ≡ true → p ≤ end
follow_le end p [] e = omega (arith, eqb-true p end e)
follow_le end p (b ∷ bs) e =
    let (f, g) = and-true (eqb b.at p) (rows_follow end (p + b.len) bs) e in
    omega (arith, follow_le end (p + b.len) bs g)

follow_in : (end p : ℕ) (rows : List Place) (k : ℕ) → rows_follow end p rows ≡ true → k < length rows → (get_or rows k no_place).at + (get_or rows k no_place).len ≤ end
follow_in end p [] k e h = absurd (omega arith)
follow_in end p (b ∷ bs) zero e h =
    let (f, g) = and-true (eqb b.at p) (rows_follow end (p + b.len) bs) e in
    omega (arith, eqb-true b.at p f, follow_le end (p + b.len) bs g)
follow_in end p (b ∷ bs) (suc k) e h =
    let (f, g) = and-true (eqb b.at p) (rows_follow end (p + b.len) bs) e in
    follow_in end (p + b.len) bs k g (omega arith)

module _ (s : List ℕ) (r : Right s) (k : ℕ) (on : k < shelf_count s) where
  pub row_inside : (shelf_row s k).at + (shelf_row s k).len ≤ length s
  unfolding shelf_row shelf_rows
  row_inside = follow_in (length s) (bodies_start (shelf_count s)) (shelf_rows s) k r.follow (omega (arith, rows_count (shelf_count s) (drop 4 s)))

  pub row_shown : {b : Place} → b ≡ shelf_row s k → part s b.at b.len ≡ bytes_at s (shelf_row s k)
  row_shown e = rw e (sym (part_in s (shelf_row s k).at (shelf_row s k).len row_inside))

  pub row_long : length (bytes_at s (shelf_row s k)) ≡ (shelf_row s k).len
  row_long = length-take-le (shelf_row s k).len (drop (shelf_row s k).at s) (omega (arith, row_inside, length-drop (shelf_row s k).at s))
