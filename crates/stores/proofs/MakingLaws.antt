-- The bytes of a store, row after row.
use mathlib.Core.Path.{◌≡◌, refl, sym, ap, ◌∙◌}
use mathlib.Core.List.{List, [], ◌∷◌, ◌++◌, append_assoc}
use mathlib.Core.Bool.{true}
use Prim.Native.Nat.{ℕ, ◌+◌, ◌≤◌, ◌<◌}
use native.Mathlib.Omega.{arith}
use lib.ListN.{length, drop, length-append}
use lib.Dec.{ltb, eqb}
use borrow.Author.Tests.{leb-true, ltb-true, eqb-true, ne_eqb}
use Rattle.octets.specs.Numbers.{little}
use Rattle.octets.proofs.NumberLaws.{length-little}
use Rattle.copies.specs.declared.output.Output.{Output}
use Rattle.copies.specs.Steps.Writes.{HasRoom, Writes}
use Rattle.copies.proofs.OutputLaws.{Writes-none, join, reword}
use Rattle.format.specs.declared.StoreRow.{StoreRow}
use Rattle.format.specs.Bodies.{all_inside}
use Rattle.format.specs.Contents.{bytes_at}
use Rattle.format.specs.StoreWriting.{Entry, storage, by_number, by_name, unknown, entry_of, entries, places_used, rows_placed, row_at, rows_from, entry_fits, kind_after, entries_fit, most_store, value_bytes, values_bytes, store_bytes}
use Rattle.format.proofs.Bools.{and-true}
use Rattle.format.proofs.Chains.{no_true}
use Rattle.canonical.specs.Steps.Puts.{InBuffer}
use Rattle.stores.specs.Steps.Sizes.{row_size}
use Rattle.stores.specs.Steps.Making.{values_size, value_with, value_head, head_bytes, row_bytes, open_bytes, Fitting, RowsRoom, StoreRoom}
use Rattle.stores.proofs.TestLaws.{rows_from-none, rows_from-more, entry_size, raw_0, both_2, body_long, sixteen, Counts, exact, great, by_kind, counted, fits_number, fits_name}

-- ---- a value up to its name and raw bytes, and a storage up to its values

pub value_put : (number n : ℕ) {o p q r : Output} → Writes o p (little 4 (9 + n)) 4 → Writes p q (little 4 number) 4 → Writes q r (0 ∷ []) 1 → Writes o r (value_head number n) 9
value_put number n a b c = reword (join a (join b c)) refl (omega arith)

-- the size counts the name and the raw bytes
value_is : (number : ℕ) (name raw : List ℕ) {n : ℕ} → n ≡ length name + length raw → value_with number name raw ≡ value_head number n ++ (name ++ raw)
value_is number name raw {n} h =
    let e : 4 + length (little 4 number ++ (0 ∷ (name ++ raw))) ≡ 9 + n = simp (length-append, length-little) (omega (arith, h)) in
    rw e (simp append_assoc)

pub head_put : (identifier : List ℕ) (n : ℕ) → length identifier ≡ 16 → {o p q r : Output} → Writes o p (little 4 (24 + n)) 4 → Writes p q (little 4 0x53505331) 4
    → Writes q r identifier (length identifier) → Writes o r (head_bytes identifier n) 24
head_put identifier n l a b c = reword (join a (join b c)) refl (omega arith)

-- ---- how long the values are, up to the next storage

pub values_done : {rows : List StoreRow} → rows ≡ [] → values_size rows ≡ 4
unfolding values_size
values_done e = rw e

module _ {rows others : List StoreRow} {row : StoreRow} (more : rows ≡ row ∷ others) where
  pub values_stop : row.kind ≡ 0 → values_size rows ≡ 4
  unfolding values_size
  values_stop e = rw (more, e)

  pub values_on : (row.kind ≡ 0 → ⊥) → values_size rows ≡ row_size row + values_size others
  unfolding values_size
  values_on a = rw (more, ne_eqb row.kind 0 a)

-- ---- rows that fit

module _ {d : List ℕ} {r : StoreRow} {rs : List StoreRow} (f : Fitting d (r ∷ rs)) where
  both_placed : (all_inside (length d) (places_used r) ≡ true) × (rows_placed (length d) rs ≡ true)
  both_placed = and-true (all_inside (length d) (places_used r)) (rows_placed (length d) rs) f.placed

  both_fit : (entry_fits f.kind (entry_of d r) ≡ true) × (entries_fit (kind_after f.kind (entry_of d r)) (entries d rs) ≡ true)
  unfolding entries entries_fit
  both_fit = and-true (entry_fits f.kind (entry_of d r)) (entries_fit (kind_after f.kind (entry_of d r)) (entries d rs)) f.fits

  inside : all_inside (length d) (places_used r) ≡ true
  inside = both_placed.0

  right : entry_fits f.kind (entry_of d r) ≡ true
  right = both_fit.0

  identifier_long : r.kind ≡ 0 → length (bytes_at d r.raw) ≡ 16
  identifier_long e = body_long d r.raw (raw_0 d r inside e) ∙ sixteen d r inside f.kind right e

  pub others : Fitting d rs
  others = record { kind = kind_after f.kind (entry_of d r); placed = both_placed.1; fits = both_fit.1 }

-- the sizes of the rows are the lengths of what they say
abbrev LongAs : List ℕ → List StoreRow → Type 0
LongAs d rs = length (values_bytes (entries d rs)) ≤ most_store → values_size rs ≡ length (values_bytes (entries d rs))

module _ {d : List ℕ} {r : StoreRow} {rs : List StoreRow} (f : Fitting d (r ∷ rs)) where
  value_counts : length (values_bytes (entries d (r ∷ rs))) ≡ entry_size (entry_of d r) + length (values_bytes (entries d rs)) → (r.kind ≡ 0 → ⊥) → LongAs d rs → LongAs d (r ∷ rs)
  value_counts l a rest h = go (counted d f.kind r (inside f) (right f))
    where
      go : Counts (row_size r) (entry_size (entry_of d r)) → values_size (r ∷ rs) ≡ length (values_bytes (entries d (r ∷ rs)))
      go (exact e) = omega (arith, values_on {rows = r ∷ rs} refl a, rest (omega arith))
      go (great x y) = absurd (omega arith)

  values_more : LongAs d rs → LongAs d (r ∷ rs)
  unfolding values_size entries values_bytes
  values_more rest h =
      by_kind d f.kind r (inside f) (right f)
      (λ e. rw e (sym (length-little 4 0)))
      (λ e. value_counts (rw e (simp (length-append, length-little) (omega arith))) (λ z. omega arith) rest h)
      (λ e. value_counts (rw e (simp (length-append, length-little) (omega arith))) (λ z. omega arith) rest h)

values_long : {d : List ℕ} (rs : List StoreRow) → Fitting d rs → LongAs d rs
unfolding values_size entries values_bytes
values_long [] f h = sym (length-little 4 0)
values_long (r ∷ rs) f h = values_more f (values_long rs (others f)) h

-- ---- a row's bytes come before those of the rows that follow

head_size : (i vs : List ℕ) → length i ≡ 16 → 4 + length (little 4 0x53505331 ++ (i ++ vs)) ≡ 24 + length vs
head_size i vs h = simp (length-append, length-little) (omega arith)

store_head : (i : List ℕ) (es : List Entry) → length i ≡ 16 → store_bytes (storage i ∷ es) ≡ head_bytes i (length (values_bytes es)) ++ open_bytes es
unfolding store_bytes open_bytes
store_head i es h = rw (head_size i (values_bytes es) h) (simp append_assoc)

open_row : (k : ℕ) (e : Entry) (es : List Entry) → entry_fits k e ≡ true → open_bytes (e ∷ es) ≡ row_bytes e es ++ open_bytes es
unfolding open_bytes values_bytes row_bytes store_bytes
open_row k (storage i) es f = rw (head_size i (values_bytes es) (eqb-true (length i) 16 f)) (simp append_assoc)
open_row k (by_number n raw) es f = append_assoc (value_bytes (by_number n raw)) (values_bytes es) (store_bytes es)
open_row k (by_name name raw) es f = append_assoc (value_bytes (by_name name raw)) (values_bytes es) (store_bytes es)
open_row k unknown es f = no_true f

-- ---- one row: what it asks, and that it is put

module _ {d : List ℕ} {r : StoreRow} {rs : List StoreRow} {o : Output} (R : RowsRoom (r ∷ rs) d o) where
  abbrev rest : List Entry
  rest = entries d rs

  abbrev row : List ℕ
  row = row_bytes (entry_of d r) rest

  placed : all_inside (length d) (places_used r) ≡ true
  placed = inside R.fitting

  fits : entry_fits R.fitting.kind (entry_of d r) ≡ true
  fits = right R.fitting

  -- all that is still to be put: the row, and what follows
  parted : open_bytes (entries d (r ∷ rs)) ≡ row ++ open_bytes rest
  unfolding entries
  parted = open_row R.fitting.kind (entry_of d r) rest fits

  few : length row + length (open_bytes rest) ≤ most_store
  few = omega (arith, R.few, ap length parted, length-append row (open_bytes rest))

  room : o.at + length row ≤ length o.out.now
  room = omega (arith, R.room, ap length parted, length-append row (open_bytes rest))

  open_long : length (open_bytes rest) ≡ length (values_bytes rest) + length (store_bytes rest)
  unfolding open_bytes
  open_long = length-append (values_bytes rest) (store_bytes rest)

  module _ (e : r.kind ≡ 0) where
    storage_is : row ≡ little 4 0 ++ head_bytes (bytes_at d r.raw) (length (values_bytes rest))
    unfolding row_bytes
    storage_is = rw e

    storage_long : length row ≡ 28
    storage_long = ap length storage_is ∙ simp (length-append, length-little) (omega (arith, identifier_long R.fitting e))

    counts : values_size rs ≡ length (values_bytes rest)
    counts = values_long rs (others R.fitting) (omega (arith, few, open_long))

    pub storage_values : values_size rs ≤ 65448
    storage_values = omega (arith, counts, few, open_long)

    pub storage_room : HasRoom o 28
    storage_room = record { room = omega (arith, room, storage_long) }

    pub storage_identifier : length (bytes_at d r.raw) ≡ 16
    storage_identifier = identifier_long R.fitting e

    pub storage_put : {n : ℕ} → n ≡ values_size rs → {x y : Output} → Writes o x (little 4 0) 4 → Writes x y (head_bytes (bytes_at d r.raw) n) 24 → Writes o y row (length row)
    storage_put c z h = reword (join z h) (rw (c ∙ counts) (sym storage_is)) (sym storage_long)

  module _ (e : r.kind ≡ 1) where
    abbrev own : List ℕ
    own = bytes_at d r.raw

    number_is : row ≡ value_head r.number (length own) ++ own
    unfolding row_bytes
    number_is = rw e (value_is r.number [] own (omega arith))

    number_long : length row ≡ 9 + length own
    number_long = ap length number_is ∙ simp (length-append, length-little) (omega arith)

    pub number_small : r.number < 4294967296
    number_small = ltb-true r.number 4294967296 (and-true (eqb R.fitting.kind 1) (ltb r.number 4294967296) (fits_number d r placed R.fitting.kind e ∙ fits)).1

    pub number_room : (o.at + (9 + length own) ≤ length o.out.now) × (length own ≤ 65448)
    number_room = (omega (arith, room, number_long), omega (arith, few, number_long))

    pub number_put : {n : ℕ} → n ≡ length own → {x y : Output} → Writes o x (value_head r.number n) 9 → Writes x y own (length own) → Writes o y row (length row)
    number_put c h g = reword (join h g) (rw c (sym number_is)) (sym number_long)

  module _ (a : r.kind ≡ 0 → ⊥) (b : r.kind ≡ 1 → ⊥) where
    two : r.kind ≡ 2
    two = by_kind d R.fitting.kind r placed fits (λ e. absurd (a e)) (λ e. absurd (b e)) (λ e. e)

    abbrev name : List ℕ
    name = bytes_at d r.name

    abbrev raw : List ℕ
    raw = bytes_at d r.raw

    pub both_inside : InBuffer d r.name × InBuffer d r.raw
    both_inside =
        let (n, b) = both_2 d r placed two in
        (record { within = leb-true (r.name.at + r.name.len) (length d) n }, record { within = leb-true (r.raw.at + r.raw.len) (length d) b })

    name_is : row ≡ value_head (length name) (length name + length raw) ++ (name ++ raw)
    unfolding row_bytes
    name_is = rw two (value_is (length name) name raw refl)

    name_long : length row ≡ 9 + (length name + length raw)
    name_long = ap length name_is ∙ simp (length-append, length-little) (omega arith)

    pub name_room : (o.at + (9 + (length name + length raw)) ≤ length o.out.now) × (length name + length raw ≤ 65448)
    name_room = (omega (arith, room, name_long), omega (arith, few, name_long))

    pub name_put : {n m : ℕ} → n ≡ length name → m ≡ length raw → {x y z : Output} → Writes o x (value_head n (n + m)) 9 → Writes x y name (length name) → Writes y z raw (length raw) → Writes o z row (length row)
    name_put c e h g k = reword (join h (join g k)) (rw (c, e) (sym name_is)) (sym name_long)

-- ---- the rows one after another

-- done is put into o, and with the rows that are left it is all of w
pub record Making (w d : List ℕ) (o : Output) (rs : List StoreRow) (x : Output) : Type 0 where
  pub done : List ℕ
  pub wrote : Writes o x done (length done)
  pub whole : done ++ open_bytes (entries d rs) ≡ w
  pub fitting : Fitting d rs

pub Making-none : {rs : List StoreRow} {d : List ℕ} {o : Output} → RowsRoom rs d o → Making (open_bytes (entries d rs)) d o rs o
Making-none {o = o} R = record { done = []; wrote = Writes-none o (omega (arith, R.room)); whole = refl; fitting = R.fitting }

module _ {w d : List ℕ} {o x : Output} {rs : List StoreRow} (few : length w ≤ most_store) (room : o.at + length w ≤ length o.out.now) (M : Making w d o rs x) where
  Making-space : RowsRoom rs d x
  Making-space =
      let l = length-append M.done (open_bytes (entries d rs)) in
      let e = ap length M.whole in
      record { fitting = M.fitting; few = omega arith; room = omega (arith, M.wrote.next, M.wrote.kept) }

  module _ {r : StoreRow} {after : List StoreRow} (more : rs ≡ r ∷ after) where
    pub making_room : RowsRoom (r ∷ after) d x
    making_room = rw more at Making-space

    pub Making-on : {y : Output} → Writes x y (row_bytes (entry_of d r) (entries d after)) (length (row_bytes (entry_of d r) (entries d after))) → Making w d o after y
    unfolding entries
    Making-on h =
        let f = rw more at M.fitting in
        let row : List ℕ = row_bytes (entry_of d r) (entries d after) in
        let e = open_row f.kind (entry_of d r) (entries d after) (right f) in
        record {
          done = M.done ++ row;
          wrote = reword (join M.wrote h) refl (sym (length-append M.done row));
          whole = append_assoc M.done row (open_bytes (entries d after)) ∙ ap (λ (l : List ℕ). M.done ++ l) (sym e) ∙ rw more at M.whole;
          fitting = others f;
        }

  module _ (none : rs ≡ []) where
    last_sizes : open_bytes (entries d rs) ≡ little 8 0
    unfolding entries open_bytes values_bytes store_bytes little
    last_sizes = rw none

    pub making_last : HasRoom x 8
    making_last = record { room = omega (arith, Making-space.room, ap length last_sizes, length-little 8 0) }

    pub making_all : {y : Output} → Writes x y (little 8 0) 8 → Writes o y w (length w)
    making_all h =
        let e : M.done ++ little 8 0 ≡ w = ap (λ (l : List ℕ). M.done ++ l) (sym last_sizes) ∙ M.whole in
        let j = join M.wrote h in
        reword j e (sym j.long ∙ ap length e)

-- ---- the whole store

module _ {ns d : List ℕ} (o : Output) (start : o.at ≡ 0) (S : StoreRoom ns d o.out.now) where
  abbrev store : List ℕ
  store = store_bytes (entries d (rows_from ns))

  module _ (none : length ns < 6) where
    no_store : store ≡ little 4 0
    unfolding entries store_bytes
    no_store = rw (rows_from-none ns none)

    pub none_room : HasRoom o 4
    none_room = record { room = omega (arith, S.room, ap length no_store, length-little 4 0) }

    pub none_put : {x : Output} → Writes o x (little 4 0) 4 → Writes o x store (length store)
    none_put h = reword h (sym no_store) (sym (length-little 4 0) ∙ ap length (sym no_store))

  module _ (some : 6 ≤ length ns) where
    abbrev first : StoreRow
    first = row_at ns 0

    abbrev after : List StoreRow
    after = rows_from (drop 6 ns)

    first_fits : Fitting d (first ∷ after)
    first_fits = record { kind = 0; placed = rw (rows_from-more ns some) at S.placed; fits = rw (rows_from-more ns some) at S.fits }

    -- no value stands before the first storage
    first_kind : first.kind ≡ 0
    unfolding first_fits
    first_kind =
        let P = inside first_fits in
        let F = right first_fits in
        by_kind d 0 first P F (λ e. e) (λ e. no_true (fits_number d first P 0 e ∙ F)) (λ e. no_true (fits_name d first P 0 e ∙ F))

    abbrev values : List ℕ
    values = values_bytes (entries d after)

    store_is : store ≡ head_bytes (bytes_at d first.raw) (length values) ++ open_bytes (entries d after)
    unfolding entries
    store_is = rw (rows_from-more ns some, first_kind) (store_head (bytes_at d first.raw) (entries d after) (identifier_long first_fits first_kind))

    store_long : length store ≡ 24 + length values + length (store_bytes (entries d after))
    unfolding open_bytes
    store_long = ap length store_is ∙ simp (length-append, length-little) (omega (arith, identifier_long first_fits first_kind))

    first_counts : values_size after ≡ length values
    first_counts = values_long after (others first_fits) (omega (arith, S.few, store_long))

    pub first_values : values_size after ≤ 65448
    first_values = omega (arith, first_counts, S.few, store_long)

    abbrev identifier : List ℕ
    identifier = bytes_at d first.raw

    pub first_inside : InBuffer d first.raw
    first_inside = record { within = leb-true (first.raw.at + first.raw.len) (length d) (raw_0 d first (inside first_fits) first_kind) }

    pub first_room : {n : ℕ} → n ≡ values_size after → HasRoom o 24 × ((length identifier ≡ 16) × (n ≤ 65448))
    first_room c =
        (record { room = omega (arith, S.room, store_long) }, (identifier_long first_fits first_kind, omega (arith, c, first_values)))

    module _ {n : ℕ} (c : n ≡ values_size after) where
      head_is : store ≡ head_bytes identifier n ++ open_bytes (entries d after)
      head_is = let e : n ≡ length values = c ∙ first_counts in rw e store_is

      module _ {x : Output} (h : Writes o x (head_bytes identifier n) 24) where
        pub after_room : RowsRoom after d x
        after_room =
            let l = length-append (head_bytes identifier n) (open_bytes (entries d after)) in
            let e = ap length head_is in
            record { fitting = others first_fits; few = omega (arith, S.few); room = omega (arith, S.room, h.next, h.long, h.kept) }

        pub store_put : {y : Output} → Writes x y (open_bytes (entries d after)) (length (open_bytes (entries d after))) → Writes o y store (length store)
        store_put g = let j = join h g in reword j (sym head_is) (sym j.long ∙ ap length (sym head_is))
