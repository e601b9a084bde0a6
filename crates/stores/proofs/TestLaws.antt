-- Whether a list of rows can be written: its rows one after another.
use mathlib.Core.Path.{◌≡◌, refl, sym, ap, ◌∙◌}
use mathlib.Core.List.{List, [], ◌∷◌}
use mathlib.Core.Bool.{Bool, true, false, ◌&&◌, cond}
use Prim.Native.Nat.{ℕ, zero, suc, ◌+◌, ◌-◌, ◌*◌, ◌/◌, ◌≤◌, ◌<◌}
use native.Mathlib.Omega.{arith}
use Rattle.std.proofs.Common.{add_assoc}
use lib.ListN.{length, drop, get_or, length-append, length-drop}
use lib.Seq.{length-take-le, get_or-drop}
use lib.Dec.{leb, ltb, eqb}
use Rattle.std.specs.Prelude.{Option, None, Some}
use Rattle.std.specs.Option.{unwrap_or}
use borrow.Author.Tests.{leb-true, le-leb, lt-leb, eqb-true, eqb-false, ne_eqb}
use Rattle.octets.proofs.NumberLaws.{length-little}
use Rattle.format.specs.declared.Place.{Place}
use Rattle.format.specs.declared.StoreRow.{StoreRow}
use Rattle.format.specs.Bodies.{all_inside}
use Rattle.format.specs.Contents.{bytes_at}
use Rattle.format.specs.StoreWriting.{Entry, storage, by_number, by_name, unknown, entry_of, entries, places_used, rows_placed, row_at, rows_at, rows_from, entry_fits, kind_after, entries_fit, most_store, values_bytes, store_bytes}
use Rattle.format.proofs.Bools.{and-true, and_yes, by_order}
use Rattle.format.proofs.Chains.{no_true}
use Rattle.stores.specs.Steps.Sizes.{capped_store, row_size, store_size, size_or_0}

-- ---- the rows one after another

pub rows_first : (ns : List ℕ) (i k : ℕ) → 0 < k → rows_at ns i k ≡ row_at ns i ∷ rows_at ns (i + 6) (k - 1)
rows_first ns i zero h = absurd (omega arith)
rows_first ns i (suc k) h = let e : suc k - 1 ≡ k = omega arith in rw e

-- the rows from the one of the number k on
abbrev pub rows_on : List ℕ → ℕ → List StoreRow
rows_on ns k = rows_at ns (6 * k) (length ns / 6 - k)

pub rows_on-all : (ns : List ℕ) → rows_on ns 0 ≡ rows_from ns
unfolding rows_from
rows_on-all ns = let e : length ns / 6 - 0 ≡ length ns / 6 = omega arith in rw e refl

pub rows_on-none : (ns : List ℕ) (k : ℕ) → length ns / 6 ≤ k → rows_on ns k ≡ []
rows_on-none ns k h = let e : length ns / 6 - k ≡ 0 = omega arith in rw e

pub rows_on-more : (ns : List ℕ) (k : ℕ) → k < length ns / 6 → rows_on ns k ≡ row_at ns (6 * k) ∷ rows_on ns (k + 1)
rows_on-more ns k h =
    let i : 6 * k + 6 ≡ 6 * (k + 1) = omega arith in
    let n : length ns / 6 - k - 1 ≡ length ns / 6 - (k + 1) = omega arith in
    rows_first ns (6 * k) (length ns / 6 - k) (omega arith) ∙ rw (i, n)

-- and as rows of the numbers that are left
row_at-drop : (ns : List ℕ) (i j : ℕ) → row_at (drop i ns) j ≡ row_at ns (i + j)
row_at-drop ns i j = rw (at 1, at 2, at 3, at 4, at 5, get_or-drop i ns j 0)
  where
    at : (n : ℕ) → get_or (drop i ns) (j + n) 0 ≡ get_or ns (i + j + n) 0
    at n = get_or-drop i ns (j + n) 0 ∙ ap (λ (k : ℕ). get_or ns k 0) (sym (add_assoc i j n))

rows_at-drop : (ns : List ℕ) (i j k : ℕ) → rows_at (drop i ns) j k ≡ rows_at ns (i + j) k
rows_at-drop ns i j zero = refl
rows_at-drop ns i j (suc k) = rw (row_at-drop ns i j, rows_at-drop ns i (j + 6) k, ← add_assoc i j 6)

pub rows_on-after : (ns : List ℕ) (k : ℕ) → k < length ns / 6 → rows_on ns (k + 1) ≡ rows_from (drop (6 * k + 6) ns)
unfolding rows_from
rows_on-after ns k h =
    let i : 6 * k + 6 + 0 ≡ 6 * (k + 1) = omega arith in
    let n : (length ns - (6 * k + 6)) / 6 ≡ length ns / 6 - (k + 1) = omega arith in
    sym (rows_at-drop ns (6 * k + 6) 0 (length (drop (6 * k + 6) ns) / 6) ∙ rw (length-drop (6 * k + 6) ns, i, n) refl)

pub rows_from-none : (ns : List ℕ) → length ns < 6 → rows_from ns ≡ []
unfolding rows_from
rows_from-none ns h = let e : length ns / 6 ≡ 0 = omega arith in rw e

pub rows_from-more : (ns : List ℕ) → 6 ≤ length ns → rows_from ns ≡ row_at ns 0 ∷ rows_from (drop 6 ns)
rows_from-more ns h = sym (rows_on-all ns) ∙ rows_on-more ns 0 (omega arith) ∙ rw (rows_on-after ns 0 (omega arith)) refl

-- ---- how long a store is

abbrev pub entry_size : Entry → ℕ
entry_size (storage i) = 12 + length i
entry_size (by_number n raw) = 9 + length raw
entry_size (by_name name raw) = 9 + length name + length raw
entry_size unknown = 0

abbrev pub total_size : List Entry → ℕ
total_size [] = 0
total_size (e ∷ es) = entry_size e + total_size es

both_long : (es : List Entry) → length (values_bytes es) + length (store_bytes es) ≡ 8 + total_size es
unfolding values_bytes store_bytes
both_long [] = simp length-little
both_long (storage i ∷ es) = simp (length-append, length-little) (omega (arith, both_long es))
both_long (by_number n raw ∷ es) = simp (length-append, length-little) (omega (arith, both_long es))
both_long (by_name name raw ∷ es) = simp (length-append, length-little) (omega (arith, both_long es))
both_long (unknown ∷ es) = both_long es ∙ omega arith

-- no value stands before the first storage
none_first : (es : List Entry) → entries_fit 0 es ≡ true → length (values_bytes es) ≡ 4
unfolding entries_fit values_bytes
none_first [] f = length-little 4 0
none_first (storage i ∷ es) f = length-little 4 0
none_first (by_number n raw ∷ es) f = no_true f
none_first (by_name name raw ∷ es) f = no_true f
none_first (unknown ∷ es) f = no_true f

pub store_long : (es : List Entry) → entries_fit 0 es ≡ true → length (store_bytes es) ≡ 4 + total_size es
store_long es f = omega (arith, both_long es, none_first es f)

-- ---- one row

module _ (n : ℕ) (r : StoreRow) where
  abbrev at_raw : Bool
  at_raw = leb (r.raw.at + r.raw.len) n

  pub placed_storage : r.kind ≡ 0 → at_raw ≡ all_inside n (places_used r)
  placed_storage e = rw e (sym (and_yes at_raw))

  pub placed_number : r.kind ≡ 1 → at_raw ≡ all_inside n (places_used r)
  placed_number e = rw e (sym (and_yes at_raw))

  pub placed_name : r.kind ≡ 2 → (leb (r.name.at + r.name.len) n && at_raw) ≡ all_inside n (places_used r)
  placed_name e = rw e (ap (λ (b : Bool). leb (r.name.at + r.name.len) n && b) (sym (and_yes at_raw)))

pub body_long : (d : List ℕ) (b : Place) → leb (b.at + b.len) (length d) ≡ true → length (bytes_at d b) ≡ b.len
body_long d b h = length-take-le b.len (drop b.at d) (omega (arith, leb-true (b.at + b.len) (length d) h, length-drop b.at d))

module _ (d : List ℕ) (r : StoreRow) (P : all_inside (length d) (places_used r) ≡ true) where
  pub raw_0 : r.kind ≡ 0 → leb (r.raw.at + r.raw.len) (length d) ≡ true
  raw_0 e = placed_storage (length d) r e ∙ P

  pub raw_1 : r.kind ≡ 1 → leb (r.raw.at + r.raw.len) (length d) ≡ true
  raw_1 e = placed_number (length d) r e ∙ P

  pub both_2 : r.kind ≡ 2 → (leb (r.name.at + r.name.len) (length d) ≡ true) × (leb (r.raw.at + r.raw.len) (length d) ≡ true)
  both_2 e = and-true _ _ (placed_name (length d) r e ∙ P)

  module _ (k : ℕ) where
    pub fits_storage : r.kind ≡ 0 → eqb r.raw.len 16 ≡ entry_fits k (entry_of d r)
    fits_storage e = rw (e, body_long d r.raw (raw_0 e))

    pub fits_number : r.kind ≡ 1 → (eqb k 1 && ltb r.number 4294967296) ≡ entry_fits k (entry_of d r)
    fits_number e = rw e

    pub fits_name : r.kind ≡ 2 → eqb k 2 ≡ entry_fits k (entry_of d r)
    fits_name e = rw e

    pub fits_other : (r.kind ≡ 0 → ⊥) → (r.kind ≡ 1 → ⊥) → (r.kind ≡ 2 → ⊥) → false ≡ entry_fits k (entry_of d r)
    fits_other a b c = rw (ne_eqb r.kind 0 a, ne_eqb r.kind 1 b, ne_eqb r.kind 2 c)

    module _ (F : entry_fits k (entry_of d r) ≡ true) where
      pub sixteen : r.kind ≡ 0 → r.raw.len ≡ 16
      sixteen e = eqb-true r.raw.len 16 (fits_storage e ∙ F)

-- ---- lengths that are too great count as one

pub over : (n : ℕ) → most_store < n → capped_store n ≡ most_store + 1
over n h = rw (lt-leb n most_store h)

pub under : (n : ℕ) → n ≤ most_store → capped_store n ≡ n
under n h = rw (le-leb n most_store h)

-- a is x, or both are too great
pub data Counts (a x : ℕ) : Type 0 where
  exact : a ≡ x → Counts a x
  great : most_store < a → most_store < x → Counts a x

capped_sum : {a x : ℕ} → Counts a x → (s t : ℕ) → capped_store (capped_store (s + a) + t) ≡ capped_store (s + (x + t))
capped_sum {a} {x} c s t = by_order (s + a) most_store (within c) past
  where
    past : most_store < s + a → capped_store (capped_store (s + a) + t) ≡ capped_store (s + (x + t))
    past h = rw (over (s + a) h) (over (most_store + 1 + t) (omega arith) ∙ sym (over (s + (x + t)) (beyond c)))
      where
        beyond : Counts a x → most_store < s + (x + t)
        beyond (exact e) = omega arith
        beyond (great p q) = omega arith

    within : Counts a x → s + a ≤ most_store → capped_store (capped_store (s + a) + t) ≡ capped_store (s + (x + t))
    within (exact e) h = let z : s + a + t ≡ s + (x + t) = omega arith in rw (under (s + a) h) (ap capped_store z)
    within (great p q) h = absurd (omega arith)

nine : (n : ℕ) → Counts (9 + capped_store n) (9 + n)
nine n = by_order n most_store (λ h. exact (ap (λ (m : ℕ). 9 + m) (under n h))) (λ h. great (omega (arith, over n h)) (omega arith))

nine_two : (m n : ℕ) → Counts (9 + capped_store m + capped_store n) (9 + m + n)
nine_two m n =
    by_order m most_store
    (λ h. by_order n most_store (λ k. exact (omega (arith, under m h, under n k))) (λ k. great (omega (arith, over n k)) (omega arith)))
    (λ h. great (omega (arith, over m h)) (omega arith))

-- a row that fits has one of the three kinds
module _ (d : List ℕ) (k : ℕ) (r : StoreRow) (P : all_inside (length d) (places_used r) ≡ true) (F : entry_fits k (entry_of d r) ≡ true) where
  pub by_kind {ℓ} : {X : Type ℓ} → (r.kind ≡ 0 → X) → (r.kind ≡ 1 → X) → (r.kind ≡ 2 → X) → X
  by_kind {X = X} f g h = zeroth (eqb r.kind 0) refl
    where
      second : (r.kind ≡ 0 → ⊥) → (r.kind ≡ 1 → ⊥) → (b : Bool) → eqb r.kind 2 ≡ b → X
      second x y true e = h (eqb-true r.kind 2 e)
      second x y false e = no_true (fits_other d r P k x y (eqb-false r.kind 2 e) ∙ F)

      first : (r.kind ≡ 0 → ⊥) → (b : Bool) → eqb r.kind 1 ≡ b → X
      first x true e = g (eqb-true r.kind 1 e)
      first x false e = second x (eqb-false r.kind 1 e) (eqb r.kind 2) refl

      zeroth : (b : Bool) → eqb r.kind 0 ≡ b → X
      zeroth true e = f (eqb-true r.kind 0 e)
      zeroth false e = first (eqb-false r.kind 0 e) (eqb r.kind 1) refl

  -- it counts as its entry
  pub counted : Counts (row_size r) (entry_size (entry_of d r))
  unfolding row_size
  counted =
      by_kind
      (λ e. let v : length (bytes_at d r.raw) ≡ 16 = body_long d r.raw (raw_0 d r P e) ∙ sixteen d r P k F e in rw (e, v) (exact refl))
      (λ e. let v : length (bytes_at d r.raw) ≡ r.raw.len = body_long d r.raw (raw_1 d r P e) in rw (e, v) (nine r.raw.len))
      (λ e.
      let (a, b) = both_2 d r P e in
      let u : length (bytes_at d r.name) ≡ r.name.len = body_long d r.name a in
      let v : length (bytes_at d r.raw) ≡ r.raw.len = body_long d r.raw b in
      rw (e, u, v) (nine_two r.name.len r.raw.len))

-- ---- the loops

module _ (ns : List ℕ) (n k : ℕ) {b : Bool} (some : k < length ns / 6) (e : b ≡ all_inside n (places_used (row_at ns (6 * k)))) where
  placed_first : (b && rows_placed n (rows_on ns (k + 1))) ≡ rows_placed n (rows_on ns k)
  placed_first = rw (rows_on-more ns k some, e)

  pub placed_on : b ≡ true → rows_placed n (rows_on ns (k + 1)) ≡ rows_placed n (rows_on ns k)
  placed_on h = rw h at placed_first

-- the length once this much is counted, with these rows left
unfoldable pub size_with : List ℕ → ℕ → ℕ → List StoreRow → Option ℕ
unfolding entries_fit entries
size_with d kind size rs = cond (entries_fit kind (entries d rs)) (Some (capped_store (size + total_size (entries d rs)))) None

pub size_start : (d : List ℕ) (rs : List StoreRow) → size_with d 0 4 rs ≡ store_size (entries d rs)
unfolding size_with store_size
size_start d rs = go (entries_fit 0 (entries d rs)) refl
  where
    go : (b : Bool) → entries_fit 0 (entries d rs) ≡ b → cond b (Some (capped_store (4 + total_size (entries d rs)))) None ≡ cond b (Some (capped_store (length (store_bytes (entries d rs))))) None
    go true e = ap (λ (n : ℕ). Some (capped_store n)) (sym (store_long (entries d rs) e))
    go false e = refl

pub size_end : (d : List ℕ) (kind : ℕ) {size : ℕ} → size ≤ most_store + 1 → Some size ≡ size_with d kind size []
unfolding size_with entries entries_fit
size_end d kind {size} h =
    let e : size + 0 ≡ size = omega arith in
    rw e (ap Some (by_order size most_store (λ k. sym (under size k)) (λ k. let q : size ≡ most_store + 1 = omega arith in q ∙ sym (over size k))))

module _ (d : List ℕ) (kind : ℕ) {row : StoreRow} {rows others : List StoreRow} (more : rows ≡ row ∷ others) (P : rows_placed (length d) rows ≡ true) where
  both : (all_inside (length d) (places_used row) ≡ true) × (rows_placed (length d) others ≡ true)
  both = and-true _ _ (rw more at P)

  pub others_there : rows_placed (length d) others ≡ true
  others_there = both.1

  pub size_stop : (size : ℕ) → entry_fits kind (entry_of d row) ≡ false → None ≡ size_with d kind size rows
  unfolding size_with entries entries_fit
  size_stop size h = rw (more, h)

  pub size_on : (size : ℕ) {m next size' : ℕ} → entry_fits kind (entry_of d row) ≡ true → next ≡ kind_after kind (entry_of d row) → m ≡ row_size row → size' ≡ capped_store (size + m)
      → size_with d next size' others ≡ size_with d kind size rows
  unfolding size_with entries entries_fit
  size_on size F a b c =
      rw (more, F, a, c, b)
      (ap (λ (x : ℕ). cond (entries_fit (kind_after kind (entry_of d row)) (entries d others)) (Some x) None)
      (capped_sum (counted d kind row both.0 F) size (total_size (entries d others))))

-- as a number, where there is none 0
pub size_number : (es : List Entry) → size_or_0 es ≡ unwrap_or (store_size es) 0
unfolding size_or_0 store_size
size_number es = go (entries_fit 0 es)
  where
    go : (b : Bool) → cond b (capped_store (length (store_bytes es))) 0 ≡ unwrap_or (cond b (Some (capped_store (length (store_bytes es)))) None) 0
    go true = refl
    go false = refl
