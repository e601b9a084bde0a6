-- The next row: what stands at a cursor, and what is left after it.
use mathlib.Core.Path.{◌≡◌, refl, sym, ap, subst, ◌∙◌}
use mathlib.Core.List.{List, [], ◌∷◌, ◌++◌, append_assoc, append-nil}
use mathlib.Core.Bool.{Bool, true, false, not, ◌||◌}
use Prim.Native.Nat.{ℕ, zero, suc, ◌+◌, ◌-◌, ◌*◌, ◌^◌, ◌≤◌, ◌<◌}
use native.Mathlib.Omega.{arith}
use lib.ListN.{length, take, drop, set, length-append, length-drop}
use lib.Seq.{drop-drop, take-take, length-take-le, sets-eq}
use lib.Dec.{eqb}
use borrow.Author.Tests.{leb-true, eqb-true, eqb-false, eq-eqb, ne_eqb}
use Rattle.octets.specs.Numbers.{number, number_at, u32_at, little}
use Rattle.octets.proofs.NumberLaws.{length-little, part_inside}
use Rattle.octets.specs.Parts.{put}
use Rattle.octets.proofs.PartLaws.{put-put, length-put}
use Rattle.octets.proofs.WroteLaws.{put-nil}
use Rattle.format.specs.declared.StoreRow.{StoreRow}
use Rattle.format.specs.Tests.{all, place, no_place}
use Rattle.format.specs.Store.{name_length, value_tests, values_tests, is_named, identifier_of, storage_tests, store_tests}
use Rattle.format.specs.StoreList.{per_part, value_row, storage_row, storage_rows, store_rows, nth_row, row_numbers, all_numbers}
use Rattle.format.specs.Blind.{has_values}
use Rattle.format.proofs.Bools.{clash}
use Rattle.format.proofs.Chains.{Pass, all-Pass, Pass-all}
use Rattle.format.proofs.PositionLaws.{number_first, number_part, part_drop}
use Rattle.format.proofs.StoreLaws.{parts_split, values_anywhere, store_anywhere, store_four}
use Rattle.format.proofs.StoreReads.{per_end, per_part_lem}
use Rattle.storing.specs.declared.rows.StoreCursor.{StoreCursor}
use Rattle.std.specs.Prelude.{Option, None, Some}
use Rattle.std.specs.List.{list_any, slice_get}
use Rattle.std.specs.Option.{option_map, unwrap_or}
use Rattle.storing.specs.Steps.Rows.{values_left, stores_left, give_value, first_cursor, rows_left, Right, values_over, NextIs}

zero_is : u32_at (little 4 0) 0 ≡ 0
unfolding number_at number little
zero_is = refl

per_none : {A : Type 0} (give : ℕ → List ℕ → List A) (i : ℕ) → per_part give i 0 [] ≡ []
unfolding per_part
per_none give i = refl

-- the rows of a storage of m bytes v at i with r after it, by where its parts stand
rows_of_storage : (i m : ℕ) (v r : List ℕ) {w t x : List ℕ} {j k e : ℕ} → drop 24 v ≡ w → identifier_of v ≡ x → r ≡ t → i + 8 ≡ j → i + 24 ≡ k → i + m ≡ e
    → storage_rows i v ++ per_part storage_rows (i + m) 0 r ≡ storage_row (place j 16) ∷ (per_part (give_value (is_named x)) k 0 w ++ store_rows e t)
unfolding store_rows
rows_of_storage i m v r d n o a b f =
    ap (λ (y : List ℕ). storage_row (place (i + 8) 16) ∷ (per_part (give_value (is_named y)) (i + 24) 0 (drop 24 v) ++ per_part storage_rows (i + m) 0 r)) n ∙ rw (d, o, a, b, f)

values_of_storage : (v : List ℕ) {w x : List ℕ} → drop 24 v ≡ w → identifier_of v ≡ x → all (values_tests (is_named (identifier_of v)) 0 (drop 24 v)) ≡ true → all (values_tests (is_named x) 0 w) ≡ true
values_of_storage v {w} {x} d n h =
    subst (λ (y : List ℕ). all (values_tests (is_named y) 0 w) ≡ true) n (subst (λ (z : List ℕ). all (values_tests (is_named (identifier_of v)) 0 z) ≡ true) d h)

module _ (l : List ℕ) (base : ℕ) (c : StoreCursor) (R : Right l c) where
  left_long : length (values_left l c) ≡ c.end - c.at
  left_long = length-take-le (c.end - c.at) (drop c.at l) (omega (arith, length-drop c.at l, R.order, R.inside))

  -- ---- values

  module _ (hand : c.at ≡ c.end → ⊥) where
    values_right : Pass (values_tests c.named 0 (values_left l c))
    values_right = all-Pass (values_tests c.named 0 (values_left l c)) (R.values hand)

    values_four : 4 ≤ length (values_left l c)
    values_four = parts_split 9 (value_tests c.named) 0 (values_left l c) values_right (λ e. omega (arith, ap length e, length-little 4 0)) (λ n e some low fits four o q. four)

    pub size_room : c.at + 4 ≤ length l
    size_room = omega (arith, values_four, left_long, R.order, R.inside)

    size_is : u32_at (values_left l c) 0 ≡ u32_at l c.at
    size_is = number_part 4 (c.end - c.at) c.at l 0 (omega (arith, values_four, left_long)) ∙ ap (u32_at l) (omega arith)

  -- none is left
  over_none : values_over l c ≡ true → per_part (give_value c.named) (base + c.at) 0 (values_left l c) ≡ []
  unfolding values_over
  over_none h = go (eqb c.at c.end) refl h
    where
      give : ℕ → List ℕ → List StoreRow
      give = give_value c.named

      go : (b : Bool) → eqb c.at c.end ≡ b → (b || eqb (u32_at l c.at) 0) ≡ true → per_part (give_value c.named) (base + c.at) 0 (values_left l c) ≡ []
      go true e h =
          let z : c.end - c.at ≡ 0 = omega (arith, eqb-true c.at c.end e) in
          rw z (per_none give (base + c.at))
      go false e h =
          let hand = eqb-false c.at c.end e in
          parts_split 9 (value_tests c.named) 0 (values_left l c) (values_right hand)
          (λ i. rw i (per_end give (base + c.at)))
          (λ n i some low fits four o q. absurd (omega (arith, size_is hand, eqb-true (u32_at l c.at) 0 h)))

  pub over_rows : values_over l c ≡ true → rows_left l base c ≡ store_rows (base + c.end) (stores_left l c)
  unfolding rows_left
  over_rows h = rw (over_none h)

  -- the value at hand
  pub record ValueHere (n : ℕ) : Type 0 where
    pub low : 9 ≤ n
    pub fits : c.at + n ≤ c.end
    pub name : 9 + name_length c.named (take n (drop c.at l)) ≤ n
    pub rows : rows_left l base c ≡ value_row c.named (base + c.at) (take n (drop c.at l)) ∷ rows_left l base (record { at = c.at + n; end = c.end; named = c.named })
    pub right : Right l (record { at = c.at + n; end = c.end; named = c.named })

  module _ (h : values_over l c ≡ false) where
    in_storage : c.at ≡ c.end → ⊥
    unfolding values_over
    in_storage e = clash (rw (eq-eqb c.at c.end e) refl) h

    some_size : u32_at l c.at ≡ 0 → ⊥
    unfolding values_over
    some_size e = clash (rw (ne_eqb c.at c.end in_storage, eq-eqb (u32_at l c.at) 0 e) refl) h

    pub value_room : c.at + 4 ≤ length l
    value_room = size_room in_storage

    pub value_here : ValueHere (u32_at l c.at)
    unfolding rows_left
    value_here =
        parts_split 9 (value_tests c.named) 0 u (values_right in_storage)
        (λ e. absurd (some_size (sym (size_is in_storage) ∙ ap (λ (x : List ℕ). u32_at x 0) e ∙ zero_is)))
        (λ m e some low fits four o q.
        let n : ℕ = u32_at l c.at in
        let is : m ≡ n = e ∙ size_is in_storage in
        let z : m ≤ c.end - c.at = omega (arith, left_long) in
        let v : take m u ≡ take m (drop c.at l) = take-take m (c.end - c.at) (drop c.at l) z in
        let y : c.end - c.at - m ≡ c.end - (c.at + m) = omega arith in
        let r : drop m u ≡ take (c.end - (c.at + m)) (drop (c.at + m) l) = part_drop m (c.end - c.at) c.at l z ∙ ap (λ (k : ℕ). take k (drop (c.at + m) l)) y in
        let k : length (take m u) ≡ m = length-take-le m u fits in
        let a : base + c.at + m ≡ base + (c.at + m) = omega arith in
        let p = per_part_lem (give_value c.named) (base + c.at) u m e some four in
        rw (← is)
        (record {
          low = low;
          fits = omega (arith, R.order);
          name = rw (k, v) at (leb-true (9 + name_length c.named (take m u)) (length (take m u)) o.0);
          rows = rw (v, r, a) at (ap (λ (x : List StoreRow). x ++ store_rows (base + c.end) (stores_left l c)) p);
          right = record {
            order = omega (arith, R.order);
            inside = R.inside;
            values = λ y. rw r at (values_anywhere c.named 0 (0 + m) (drop m u) ∙ Pass-all (values_tests c.named (0 + m) (drop m u)) q);
            store = R.store;
          };
        }))
      where
        u : List ℕ
        u = values_left l c

  -- ---- the storage after that

  abbrev x : List ℕ
  x = drop c.end l

  store_right : Pass (store_tests 0 (drop c.end l))
  store_right = all-Pass (store_tests 0 (drop c.end l)) R.store

  pub storage_room : c.end + 4 ≤ length l
  storage_room = omega (arith, store_four 0 (drop c.end l) store_right, length-drop c.end l, R.inside)

  -- the cursor inside the storage of n bytes
  abbrev inside_of : ℕ → StoreCursor
  inside_of n = record { at = c.end + 24; end = c.end + n; named = is_named (take 16 (drop (c.end + 8) l)) }

  pub record StorageHere (n : ℕ) : Type 0 where
    pub low : 28 ≤ n
    pub fits : c.end + n ≤ length l
    pub rows : store_rows (base + c.end) (drop c.end l) ≡ storage_row (place (base + (c.end + 8)) 16) ∷ rows_left l base (inside_of n)
    pub right : Right l (inside_of n)

  pub storage_none : u32_at l c.end ≡ 0 → store_rows (base + c.end) (drop c.end l) ≡ []
  unfolding store_tests store_rows
  storage_none h =
      parts_split 28 storage_tests 0 (drop c.end l) store_right
      (λ e. rw e (per_end storage_rows (base + c.end)))
      (λ m e some low fits four o q. absurd (omega (arith, number_first 4 c.end l)))

  pub storage_here : (u32_at l c.end ≡ 0 → ⊥) → StorageHere (u32_at l c.end)
  unfolding store_tests store_rows rows_left
  storage_here h =
      parts_split 28 storage_tests 0 (drop c.end l) store_right
      (λ e. absurd (h (sym (number_first 4 c.end l) ∙ ap (λ (y : List ℕ). u32_at y 0) e ∙ zero_is)))
      (λ m e some low fits four o q.
      let is : m ≡ u32_at l c.end = e ∙ number_first 4 c.end l in
      let v : List ℕ = take m (drop c.end l) in
      let s : c.end + m - (c.end + 24) ≡ m - 24 = omega arith in
      let d : drop 24 v ≡ take (c.end + m - (c.end + 24)) (drop (c.end + 24) l) = part_drop 24 m c.end l (omega arith) ∙ ap (λ (k : ℕ). take k (drop (c.end + 24) l)) (sym s) in
      let i : identifier_of v ≡ take 16 (drop (c.end + 8) l) = part_inside 8 16 m (drop c.end l) (omega arith) ∙ ap (take 16) (drop-drop 8 c.end l) in
      let r : drop m (drop c.end l) ≡ drop (c.end + m) l = drop-drop m c.end l in
      let a : base + c.end + 8 ≡ base + (c.end + 8) = omega arith in
      let b : base + c.end + 24 ≡ base + (c.end + 24) = omega arith in
      let f : base + c.end + m ≡ base + (c.end + m) = omega arith in
      let p = per_part_lem storage_rows (base + c.end) (drop c.end l) m e some four in
      rw (← is)
      (record {
        low = low;
        fits = omega (arith, length-drop c.end l, R.inside);
        rows = p ∙ rows_of_storage (base + c.end) m v (drop m (drop c.end l)) d i r a b f;
        right = record {
          order = omega arith;
          inside = omega (arith, length-drop c.end l, R.inside);
          values = λ y. values_of_storage v d i (values_anywhere (is_named (identifier_of v)) 0 (0 + 24) (drop 24 v) ∙ Pass-all (values_tests (is_named (identifier_of v)) (0 + 24) (drop 24 v)) o.1);
          store = rw r at (store_anywhere 0 (0 + m) (drop m (drop c.end l)) ∙ Pass-all (store_tests (0 + m) (drop m (drop c.end l))) q);
        };
      }))

-- ---- what the functions answer

pub over_outside : (l : List ℕ) (c : StoreCursor) → c.at ≡ c.end → true ≡ values_over l c
unfolding values_over
over_outside l c e = rw (eq-eqb c.at c.end e)

pub over_inside : (l : List ℕ) (c : StoreCursor) {n : ℕ} → (c.at ≡ c.end → ⊥) → n ≡ u32_at l c.at → eqb n 0 ≡ values_over l c
unfolding values_over
over_inside l c h e = rw (ne_eqb c.at c.end h, e)

module _ (l : List ℕ) (base : ℕ) (c : StoreCursor) (R : Right l c) where
  module _ {n : ℕ} (e : n ≡ u32_at l c.at) (h : values_over l c ≡ false) where
    pub value_at : ValueHere l base c R n
    value_at = rw e (value_here l base c R h)

    -- its bytes, from its start to its end
    abbrev own : List ℕ
    own = take (c.at + n - c.at) (drop c.at l)

    own_is : own ≡ take n (drop c.at l)
    own_is = let k : c.at + n - c.at ≡ n = omega arith in ap (λ (m : ℕ). take m (drop c.at l)) k

    pub value_ready : base + length l < 2 ^ 64 → (9 + name_length c.named own ≤ length own) × (base + c.at + length own < 2 ^ 64)
    value_ready small =
        let z = value_at in
        let k : length (take n (drop c.at l)) ≡ n = length-take-le n (drop c.at l) (omega (arith, z.fits, R.inside, length-drop c.at l)) in
        rw (own_is, k) (z.name, omega (arith, z.fits, R.inside))

    pub next_value : {r : StoreRow} → r ≡ value_row c.named (base + c.at) own → NextIs l base c (Some (r, record { at = c.at + n; end = c.end; named = c.named }))
    next_value i = let z = value_at in record { rows = rw (i, own_is) z.rows; right = z.right; ahead = omega (arith, z.low) }

  module _ {n : ℕ} (e : n ≡ u32_at l c.end) (h : values_over l c ≡ true) where
    pub next_end : n ≡ 0 → NextIs l base c None
    next_end z = record { none = over_rows l base c R h ∙ storage_none l base c R (sym e ∙ z) }

    pub storage_at : (n ≡ 0 → ⊥) → StorageHere l base c R n
    storage_at z = rw e (storage_here l base c R (λ q. z (e ∙ q)))

    pub next_storage : (n ≡ 0 → ⊥) → {b : Bool} → b ≡ is_named (take 16 (drop (c.end + 8) l)) → NextIs l base c (Some (storage_row (place (base + (c.end + 8)) 16), record { at = c.end + 24; end = c.end + n; named = b }))
    next_storage z i = let y = storage_at z in rw i (record { rows = over_rows l base c R h ∙ y.rows; right = y.right; ahead = omega (arith, R.order) })

-- ---- the walk

pub first_rows : (l : List ℕ) (base : ℕ) → rows_left l base first_cursor ≡ store_rows base l
unfolding rows_left
first_rows l base =
    let z : base + 0 ≡ base = omega arith in
    ap (λ (r : List StoreRow). r ++ store_rows (base + 0) l) (per_none (give_value false) (base + 0)) ∙ ap (λ (i : ℕ). store_rows i l) z

-- ---- what a chain answers

pub values_any : (rs : List StoreRow) → has_values rs ≡ list_any (λ (r : StoreRow). not (eqb r.kind 0)) rs
values_any [] = refl
values_any (r ∷ rs) = ap (λ (b : Bool). not (eqb r.kind 0) || b) (values_any rs)

row_get : (rs : List StoreRow) (k : ℕ) → unwrap_or (slice_get rs k) (storage_row no_place) ≡ nth_row k rs
row_get [] k = refl
row_get (r ∷ rs) zero = refl
row_get (r ∷ rs) (suc k) = row_get rs k

pub row_told : (o : Option StoreRow) (rs : List StoreRow) (k : ℕ) → option_map (λ (r : StoreRow). r) o ≡ slice_get rs k → unwrap_or o (storage_row no_place) ≡ nth_row k rs
row_told o rs k e = same o ∙ ap (λ (x : Option StoreRow). unwrap_or x (storage_row no_place)) e ∙ row_get rs k
  where
    same : (x : Option StoreRow) → unwrap_or x (storage_row no_place) ≡ unwrap_or (option_map (λ (r : StoreRow). r) x) (storage_row no_place)
    same None = refl
    same (Some r) = refl

-- ---- the numbers of the rows

pub six_put : (rows : List ℕ) (i a b c d e f : ℕ) → i + 6 ≤ length rows
    → set (set (set (set (set (set rows i a) (i + 1) b) (i + 2) c) (i + 3) d) (i + 4) e) (i + 5) f ≡ put rows i (a ∷ b ∷ c ∷ d ∷ e ∷ f ∷ [])
unfolding put
six_put rows i a b c d e f h =
    let p : i + 1 ≡ suc i = omega arith in
    let q : i + 2 ≡ suc (suc i) = omega arith in
    let r : i + 3 ≡ suc (suc (suc i)) = omega arith in
    let s : i + 4 ≡ suc (suc (suc (suc i))) = omega arith in
    let t : i + 5 ≡ suc (suc (suc (suc (suc i)))) = omega arith in
    rw (p, q, r, s, t) (sets-eq (a ∷ b ∷ c ∷ d ∷ e ∷ f ∷ []) rows i h ∙ append_assoc (take i rows) (a ∷ b ∷ c ∷ d ∷ e ∷ f ∷ []) (drop (i + 6) rows))

pub numbers_long : (rs : List StoreRow) → length (all_numbers rs) ≡ 6 * length rs
numbers_long [] = refl
numbers_long (r ∷ rs) = length-append (row_numbers r) (all_numbers rs) ∙ omega (arith, numbers_long rs)

-- rows after the numbers of the first k of all were put, with these left
pub record Putting (all : List StoreRow) (rows : List ℕ) (left : List StoreRow) (k : ℕ) (x : List ℕ) : Type 0 where
  pub done : List ℕ
  pub content : x ≡ put rows 0 done
  pub long : length done ≡ 6 * k
  pub rest : done ++ all_numbers left ≡ all_numbers all

module _ {all : List StoreRow} {rows : List ℕ} (room : length (all_numbers all) ≤ length rows) where
  pub Putting-none : Putting all rows all 0 rows
  Putting-none = record { done = []; content = put-nil rows 0; long = refl; rest = refl }

  module _ {left : List StoreRow} {k : ℕ} {x : List ℕ} (P : Putting all rows left k x) where
    pub same_long : length x ≡ length rows
    same_long = rw P.content (length-put rows 0 P.done (omega (arith, length-append P.done (all_numbers left), ap length P.rest)))

    module _ {r : StoreRow} {others : List StoreRow} (more : left ≡ r ∷ others) where
      all_long : 6 * k + 6 ≤ length rows
      all_long = omega (arith, P.long, length-append P.done (all_numbers left), ap length P.rest, ap (λ (rs : List StoreRow). length (all_numbers rs)) more)

      pub putting_room : 6 * k + 6 ≤ length x
      putting_room = omega (arith, same_long, all_long)

      pub Putting-more : {y : List ℕ} → y ≡ put x (6 * k) (row_numbers r) → Putting all rows others (k + 1) y
      Putting-more q = record {
        done = P.done ++ row_numbers r;
        content = q ∙ rw P.content (put-put rows 0 P.done (row_numbers r) (omega (arith, P.long)) (omega (arith, all_long)));
        long = length-append P.done (row_numbers r) ∙ omega (arith, P.long);
        rest = append_assoc P.done (row_numbers r) (all_numbers others) ∙ rw more at P.rest;
      }

    pub putting_all : left ≡ [] → x ≡ put rows 0 (all_numbers all)
    putting_all none = P.content ∙ ap (put rows 0) (sym (append-nil P.done) ∙ rw none at P.rest)
