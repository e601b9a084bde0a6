-- What a store says, apart from where it stands: its entries, by its own bytes alone.
use mathlib.Core.Path.{◌≡◌, refl, sym, ap, ap₂, ◌∙◌}
use mathlib.Core.List.{List, [], ◌∷◌, ◌++◌}
use mathlib.Core.Bool.{Bool, true, false, cond}
use Prim.Native.Nat.{ℕ, zero, suc, ◌+◌, ◌-◌, ◌≤◌, ◌<◌}
use native.Mathlib.Omega.{arith}
use lib.ListN.{length, take, drop, length-append, length-drop}
use lib.Seq.{drop-drop, take_all, length-take-le, take-append-le, take-append_seam, drop-append_seam}
use lib.Dec.{eqb}
use borrow.Author.Tests.{leb-true, ne_eqb}
use Rattle.octets.specs.Numbers.{number, number_at, u32_at, little}
use Rattle.octets.proofs.NumberLaws.{length-little, number_same, part_inside}
use Rattle.format.specs.Tests.{Test}
use Rattle.format.specs.declared.StoreRow.{StoreRow}
use Rattle.format.specs.Store.{part_tests, name_length, value_tests, is_named, identifier_of, storage_tests, store_tests}
use Rattle.format.specs.StoreList.{per_part, value_row, storage_rows, store_rows}
use Rattle.format.specs.StoreWriting.{Entry, storage, by_number, by_name, entry_of, entries}
use Rattle.format.proofs.Chains.{Pass}
use Rattle.format.proofs.StoreLaws.{parts_split}

-- ---- parts, whatever is made of them

module _ {A : Type 0} (give : ℕ → List ℕ → List A) where
  per_skip : (i k : ℕ) (l : List ℕ) → per_part give i k l ≡ per_part give i 0 (drop k l)
  unfolding per_part
  per_skip i zero l = refl
  per_skip i (suc k) [] = refl
  per_skip i (suc k) (a ∷ l) = per_skip i k l

  pub per_end : (i : ℕ) → per_part give i 0 (little 4 0) ≡ []
  unfolding per_part number_at number little
  per_end i = refl

  -- a part of n bytes, and the others
  pub per_part_lem : (i : ℕ) (l : List ℕ) (n : ℕ) → n ≡ u32_at l 0 → 0 < n → 4 ≤ length l → per_part give i 0 l ≡ give i (take n l) ++ per_part give (i + n) 0 (drop n l)
  unfolding per_part
  per_part_lem i [] n e some four = absurd (omega arith)
  per_part_lem i (a ∷ l) n e some four = rw (← e, ne_eqb n 0 (λ z. omega arith)) (go n some)
    where
      go : (n : ℕ) → 0 < n → give i (take n (a ∷ l)) ++ per_part give (i + n) (n - 1) l ≡ give i (take n (a ∷ l)) ++ per_part give (i + n) 0 (drop n (a ∷ l))
      go zero h = absurd (omega arith)
      go (suc m) h = let z : suc m - 1 ≡ m = omega arith in rw (z, per_skip (i + suc m) m l)

  -- a part in front of parts
  pub per_more : (i : ℕ) (x r : List ℕ) → u32_at x 0 ≡ length x → 4 ≤ length x → per_part give i 0 (x ++ r) ≡ give i x ++ per_part give (i + length x) 0 r
  per_more i x r size four =
      let e : u32_at (x ++ r) 0 ≡ length x = number_same 4 (length x) (x ++ r) x 0 (take-append-le (length x) x r (omega arith)) (omega arith) ∙ size in
      let k = length-append x r in
      per_part_lem i (x ++ r) (length x) (sym e) (omega arith) (omega arith) ∙ rw (take-append_seam x r, drop-append_seam x r)

-- what is made of their bytes alone is the same wherever they stand
per_anywhere : {A : Type 0} (give : List ℕ → List A) (i j k : ℕ) (l : List ℕ) → per_part (λ i v. give v) i k l ≡ per_part (λ i v. give v) j k l
unfolding per_part
per_anywhere give i j zero [] = refl
per_anywhere give i j zero (a ∷ l) = let n = u32_at (a ∷ l) 0 in ap (λ (r : List _). cond (eqb n 0) [] (give (take n (a ∷ l)) ++ r)) (per_anywhere give (i + n) (j + n) (n - 1) l)
per_anywhere give i j (suc k) [] = refl
per_anywhere give i j (suc k) (a ∷ l) = per_anywhere give i j k l

-- ---- the entries

abbrev pub value_entry : Bool → List ℕ → Entry
value_entry named v =
    cond named (by_name (take (name_length named v) (drop 9 v)) (drop (9 + name_length named v) v)) (by_number (u32_at v 4) (drop 9 v))

unfoldable pub value_entries : Bool → List ℕ → List Entry
unfolding per_part
value_entries named l = per_part (λ i v. value_entry named v ∷ []) 0 0 l

abbrev pub storage_entries : List ℕ → List Entry
storage_entries v = storage (identifier_of v) ∷ value_entries (is_named (identifier_of v)) (drop 24 v)

unfoldable pub store_entries : List ℕ → List Entry
unfolding per_part value_entries is_named
store_entries l = per_part (λ i v. storage_entries v) 0 0 l

module _ (named : Bool) where
  abbrev give : ℕ → List ℕ → List Entry
  give i v = value_entry named v ∷ []

  pub values_none : value_entries named (little 4 0) ≡ []
  unfolding value_entries
  values_none = per_end give 0

  pub values_first : (l : List ℕ) (n : ℕ) → n ≡ u32_at l 0 → 0 < n → 4 ≤ length l → value_entries named l ≡ value_entry named (take n l) ∷ value_entries named (drop n l)
  unfolding value_entries
  values_first l n e some four = per_part_lem give 0 l n e some four ∙ ap (λ (r : List Entry). value_entry named (take n l) ∷ r) (per_anywhere (λ v. value_entry named v ∷ []) (0 + n) 0 0 (drop n l))

  pub values_then : (x r : List ℕ) → u32_at x 0 ≡ length x → 4 ≤ length x → value_entries named (x ++ r) ≡ value_entry named x ∷ value_entries named r
  unfolding value_entries
  values_then x r size four = per_more give 0 x r size four ∙ ap (λ (r : List Entry). value_entry named x ∷ r) (per_anywhere (λ v. value_entry named v ∷ []) (0 + length x) 0 0 r)

pub store_none : store_entries (little 4 0) ≡ []
unfolding store_entries
store_none = per_end (λ i v. storage_entries v) 0

pub store_first : (l : List ℕ) (n : ℕ) → n ≡ u32_at l 0 → 0 < n → 4 ≤ length l → store_entries l ≡ storage_entries (take n l) ++ store_entries (drop n l)
unfolding store_entries
store_first l n e some four = per_part_lem (λ i v. storage_entries v) 0 l n e some four ∙ ap (λ (r : List Entry). storage_entries (take n l) ++ r) (per_anywhere storage_entries (0 + n) 0 0 (drop n l))

pub store_then : (x r : List ℕ) → u32_at x 0 ≡ length x → 4 ≤ length x → store_entries (x ++ r) ≡ storage_entries x ++ store_entries r
unfolding store_entries
store_then x r size four = per_more (λ i v. storage_entries v) 0 x r size four ∙ ap (λ (r : List Entry). storage_entries x ++ r) (per_anywhere storage_entries (0 + length x) 0 0 r)

-- ---- the rows say them

-- the bytes l stand in s from i on
pub record Stands (s : List ℕ) (i : ℕ) (l : List ℕ) : Type 0 where
  pub is : take (length l) (drop i s) ≡ l

module _ {s : List ℕ} {i : ℕ} {l : List ℕ} (h : Stands s i l) where
  -- a part of them, a bytes after their start
  Stands-part : (a n : ℕ) → a + n ≤ length l → Stands s (i + a) (take n (drop a l))
  Stands-part a n k =
      let e : length (take n (drop a l)) ≡ n = length-take-le n (drop a l) (omega (arith, length-drop a l)) in
      record { is = rw (e, ← (drop-drop a i s)) (sym (part_inside a n (length l) (drop i s) k) ∙ ap (λ (x : List ℕ). take n (drop a x)) h.is) }

  Stands-rest : (a : ℕ) → a ≤ length l → Stands s (i + a) (drop a l)
  Stands-rest a k = rw (take_all (length l - a) (drop a l) (omega (arith, length-drop a l))) at (Stands-part a (length l - a) (omega arith))

  shown : (a n : ℕ) → a + n ≤ length l → take n (drop (i + a) s) ≡ take n (drop a l)
  shown a n k = rw (length-take-le n (drop a l) (omega (arith, length-drop a l))) at (Stands-part a n k).is

entries-append : (d : List ℕ) (a b : List StoreRow) → entries d (a ++ b) ≡ entries d a ++ entries d b
unfolding entries
entries-append d [] b = refl
entries-append d (r ∷ rs) b = ap (λ (l : List Entry). entry_of d r ∷ l) (entries-append d rs b)

-- what each part's rows say is told by its bytes: so it is of all
module _ (least : ℕ) (own : ℕ → List ℕ → List Test) (s : List ℕ) (give : ℕ → List ℕ → List StoreRow) (told : List ℕ → List Entry)
    (each : (i j : ℕ) (v : List ℕ) → least ≤ length v → Pass (own j v) → Stands s i v → entries s (give i v) ≡ told v) where
  -- k bounds what is left
  said : (k i j : ℕ) (l : List ℕ) → length l ≤ k → Stands s i l → Pass (part_tests least own j 0 l) → entries s (per_part give i 0 l) ≡ per_part (λ i v. told v) i 0 l
  unfolding entries
  said zero i j l small h p = parts_split least own j l p (λ e. absurd (omega (arith, ap length e, length-little 4 0))) (λ n e some low fits four o q. absurd (omega arith))
  said (suc k) i j l small h p =
      parts_split least own j l p
      (λ e. rw (e, per_end give i, per_end (λ i v. told v) i) refl)
      (λ n e some low fits four o q.
      let x : List ℕ = take n l in
      let r : List ℕ = drop n l in
      let z : length x ≡ n = length-take-le n l fits in
      let w : i + 0 ≡ i = omega arith in
      let a : entries s (give i x) ≡ told x = each i j x (omega arith) o (rw w at (Stands-part h 0 n (omega arith))) in
      let b : entries s (per_part give (i + n) 0 r) ≡ per_part (λ i v. told v) (i + n) 0 r = said k (i + n) (j + n) r (omega (arith, length-drop n l)) (Stands-rest h n fits) q in
      ap (entries s) (per_part_lem give i l n e some four) ∙ entries-append s (give i x) (per_part give (i + n) 0 r) ∙ ap₂ (λ (u v : List Entry). u ++ v) a b ∙ sym (per_part_lem (λ i v. told v) i l n e some four))

  pub all_said : (i j : ℕ) (l : List ℕ) → Stands s i l → Pass (part_tests least own j 0 l) → entries s (per_part give i 0 l) ≡ per_part (λ i v. told v) 0 0 l
  all_said i j l h p = said (length l) i j l (omega arith) h p ∙ per_anywhere told i 0 0 l

module _ (s : List ℕ) where
  value_said : (named : Bool) (i j : ℕ) (v : List ℕ) → 9 ≤ length v → Pass (value_tests named j v) → Stands s i v → entries s (value_row named i v ∷ []) ≡ value_entry named v ∷ []
  unfolding entries
  value_said true i j v low p h =
      let k : 9 + u32_at v 4 ≤ length v = leb-true (9 + u32_at v 4) (length v) p.0 in
      let m : ℕ = 9 + u32_at v 4 in
      let name = shown h 9 (u32_at v 4) k in
      let raw = shown h m (length v - m) (omega arith) in
      rw (name, raw, take_all (length v - m) (drop m v) (omega (arith, length-drop m v)))
  value_said false i j v low p h =
      let w : 9 + 0 ≡ 9 = omega arith in
      rw (w, shown h 9 (length v - 9) (omega arith), take_all (length v - 9) (drop 9 v) (omega (arith, length-drop 9 v)))

  storage_said : (i j : ℕ) (v : List ℕ) → 28 ≤ length v → Pass (storage_tests j v) → Stands s i v → entries s (storage_rows i v) ≡ storage_entries v
  unfolding entries value_entries
  storage_said i j v low p h =
      let named : Bool = is_named (identifier_of v) in
      ap₂ (λ (e : Entry) (es : List Entry). e ∷ es) (ap storage (shown h 8 16 (omega arith)))
      (all_said 9 (value_tests named) s (λ i x. value_row named i x ∷ []) (λ x. value_entry named x ∷ []) (value_said named) (i + 24) (j + 24) (drop 24 v) (Stands-rest h 24 (omega arith)) p.1)

  -- the rows of a store that stands in s
  pub store_said : (i j : ℕ) (l : List ℕ) → Stands s i l → Pass (store_tests j l) → entries s (store_rows i l) ≡ store_entries l
  unfolding store_rows store_entries store_tests
  store_said i j l h p = all_said 28 storage_tests s storage_rows storage_entries storage_said i j l h p
