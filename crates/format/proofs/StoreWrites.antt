-- Stores and lists of entries are the same thing: what is written reads back, and what was read is written as it stood.
use mathlib.Core.Path.{◌≡◌, refl, sym, ap, ap₂, ◌∙◌}
use mathlib.Core.List.{List, [], ◌∷◌, ◌++◌}
use mathlib.Core.Bool.{Bool, true, false, ◌&&◌, cond}
use Prim.Native.Nat.{ℕ, zero, suc, ◌+◌, ◌≤◌, ◌<◌}
use native.Mathlib.Omega.{arith}
use lib.ListN.{length, take, drop, get_or, length-append, length-drop, take-append-drop}
use lib.Seq.{drop-drop, take-take, take-length, drop-cons, get_or-drop, length-take-le, take_at, drop_at, take-append_seam, drop-append_seam}
use lib.Dec.{leb, ltb, eqb}
use borrow.Author.Tests.{leb-true, le-leb, ltb-true, lt-ltb, eqb-true, eq-eqb}
use Rattle.octets.specs.Numbers.{Bytes, number, number_at, u32_at, little}
use Rattle.octets.proofs.NumberLaws.{Bytes-take, Bytes-drop, Bytes-append, Bytes-little, Bytes-cons, length-little, little-number, number_back, number_below, number_drop, number_same}
use Rattle.format.specs.Store.{value_tests, values_tests, is_named, identifier_of, storage_tests, store_tests}
use Rattle.format.specs.StoreWriting.{Entry, storage, by_number, by_name, unknown, sized, value_bytes, values_bytes, storage_bytes, store_bytes, kind_under, entries_fit, most_store, writable_store, ReadsAsStore}
use Rattle.format.proofs.Bools.{and-true, and_both}
use Rattle.format.proofs.Chains.{Pass, all-Pass, Pass-all, no_true}
use Rattle.format.proofs.StoreLaws.{parts_split, parts_more, parts_end}
use Rattle.format.proofs.StoreReads.{value_entry, value_entries, storage_entries, store_entries, values_none, values_first, values_then, store_none, store_first, store_then, Stands, store_said}

-- ---- fields

-- a number and what follows it
field : (w i : ℕ) (v : List ℕ) → Bytes v → i + w ≤ length v → drop i v ≡ little w (number_at w v i) ++ drop (i + w) v
unfolding number_at
field w i v b h =
    let x : List ℕ = take w (drop i v) in
    let l : length x ≡ w = length-take-le w (drop i v) (omega (arith, length-drop i v)) in
    let n : little w (number x) ≡ x = rw l at (little-number x (Bytes-take w (drop i v) (Bytes-drop i v b))) in
    sym (take-append-drop w (drop i v)) ∙ ap₂ (λ (p q : List ℕ). p ++ q) (sym n) (drop-drop w i v)

-- a part is its size and its body
sized_whole : (v : List ℕ) → Bytes v → 4 ≤ length v → u32_at v 0 ≡ length v → {x : List ℕ} → x ≡ drop 4 v → sized x ≡ v
sized_whole v b four size {x} e =
    let n : 4 + length x ≡ u32_at v 0 = omega (arith, ap length e, length-drop 4 v) in
    rw (n, e) (sym (field 4 0 v b four))

-- ---- from a store to its entries, and to the same bytes

module _ (j : ℕ) (v : List ℕ) (b : Bytes v) (size : u32_at v 0 ≡ length v) where
  value_whole : (named : Bool) → 9 ≤ length v → Pass (value_tests named j v) → value_bytes (value_entry named v) ≡ v
  value_whole named low p = go named p
    where
      zero_byte : get_or v 8 0 ≡ 0 → drop 8 v ≡ 0 ∷ drop 9 v
      zero_byte e = rw e at (drop-cons v 8 0 (omega arith))

      -- the body, with the name or without
      body : (z : List ℕ) → z ≡ drop 9 v → get_or v 8 0 ≡ 0 → little 4 (u32_at v 4) ++ (0 ∷ z) ≡ drop 4 v
      body z e q = rw e (sym (field 4 4 v b (omega arith) ∙ ap (λ (r : List ℕ). little 4 (u32_at v 4) ++ r) (zero_byte q)))

      go : (named : Bool) → Pass (value_tests named j v) → value_bytes (value_entry named v) ≡ v
      go true p =
          let k : 9 + u32_at v 4 ≤ length v = leb-true (9 + u32_at v 4) (length v) p.0 in
          let m : length (take (u32_at v 4) (drop 9 v)) ≡ u32_at v 4 = length-take-le (u32_at v 4) (drop 9 v) (omega (arith, length-drop 9 v)) in
          let z : take (u32_at v 4) (drop 9 v) ++ drop (9 + u32_at v 4) v ≡ drop 9 v = rw (← (drop-drop (u32_at v 4) 9 v)) (take-append-drop (u32_at v 4) (drop 9 v)) in
          rw m (sized_whole v b (omega arith) size (body _ z (eqb-true (get_or v 8 0) 0 p.1.0)))
      go false p = sized_whole v b (omega arith) size (body _ refl (eqb-true (get_or v 8 0) 0 p.1.0))

  storage_whole : 28 ≤ length v → u32_at v 4 ≡ 0x53505331 → storage_bytes (identifier_of v) (drop 24 v) ≡ v
  storage_whole low e =
      let d : identifier_of v ++ drop 24 v ≡ drop 8 v = ap (λ (r : List ℕ). identifier_of v ++ r) (sym (drop-drop 16 8 v)) ∙ take-append-drop 16 (drop 8 v) in
      let f : little 4 (u32_at v 4) ++ (identifier_of v ++ drop 24 v) ≡ drop 4 v = ap (λ (r : List ℕ). little 4 (u32_at v 4) ++ r) d ∙ sym (field 4 4 v b (omega arith)) in
      sized_whole v b (omega arith) size (rw e at f)

-- the kind of values that are named so
abbrev kind_of : Bool → ℕ
kind_of named = cond named 2 1

-- a value in front of entries
record InFront (named : Bool) (e : Entry) (es : List Entry) : Type 0 where
  values : values_bytes (e ∷ es) ≡ value_bytes e ++ values_bytes es
  store : store_bytes (e ∷ es) ≡ store_bytes es
  fits : entries_fit (kind_of named) (e ∷ es) ≡ entries_fit (kind_of named) es

value_front : (named : Bool) (v : List ℕ) → Bytes v → (es : List Entry) → InFront named (value_entry named v) es
unfolding values_bytes store_bytes entries_fit
value_front true v b es = record { values = refl; store = refl; fits = refl }
value_front false v b es = record { values = refl; store = refl; fits = rw (lt-ltb (u32_at v 4) 4294967296 (number_below 4 v 4 b)) }

-- the values u, which are vs, in front of entries
record AllInFront (named : Bool) (u : List ℕ) (vs es : List Entry) : Type 0 where
  values : values_bytes (vs ++ es) ≡ u
  store : store_bytes (vs ++ es) ≡ store_bytes es
  fits : entries_fit (kind_of named) (vs ++ es) ≡ entries_fit (kind_of named) es

-- a part's own size is the number in front of it
own_size : (l : List ℕ) (n : ℕ) → n ≡ u32_at l 0 → 4 ≤ n → n ≤ length l → u32_at (take n l) 0 ≡ length (take n l)
own_size l n e four fits = number_same 4 n (take n l) l 0 (take-take n n l (omega arith)) (omega arith) ∙ sym e ∙ sym (length-take-le n l fits)

-- k bounds what is left
values_front : (k : ℕ) (named : Bool) (j : ℕ) (u : List ℕ) → length u ≤ k → Bytes u → Pass (values_tests named j u) → (es : List Entry) → values_bytes es ≡ little 4 0
    → AllInFront named u (value_entries named u) es
values_front zero named j u small b p es none =
    parts_split 9 (value_tests named) j u p (λ e. absurd (omega (arith, ap length e, length-little 4 0))) (λ n e some low fits four o q. absurd (omega arith))
values_front (suc k) named j u small b p es none =
    parts_split 9 (value_tests named) j u p
    (λ e. rw (e, values_none named) (record { values = none; store = refl; fits = refl }))
    (λ n e some low fits four o q.
    let x : List ℕ = take n u in
    let r : List ℕ = drop n u in
    let z : length x ≡ n = length-take-le n u fits in
    let bx : Bytes x = Bytes-take n u b in
    let f = value_front named x bx (value_entries named r ++ es) in
    let h = values_front k named (j + n) r (omega (arith, length-drop n u)) (Bytes-drop n u b) q es none in
    let w = value_whole j x bx (own_size u n e (omega arith) fits) named (omega arith) o in
    rw (values_first named u n e some four)
    (record {
      values = f.values ∙ ap₂ (λ (a c : List ℕ). a ++ c) w h.values ∙ take-append-drop n u;
      store = f.store ∙ h.store;
      fits = f.fits ∙ h.fits;
    }))

-- the store l, which is es: its bytes, and that nothing in it is a value of what stands before it
record Whole (l : List ℕ) (es : List Entry) : Type 0 where
  values : values_bytes es ≡ little 4 0
  store : store_bytes es ≡ l
  fits : (k : ℕ) → entries_fit k es ≡ true

store_Whole : (k j : ℕ) (l : List ℕ) → length l ≤ k → Bytes l → Pass (store_tests j l) → Whole l (store_entries l)
unfolding store_tests values_bytes store_bytes entries_fit
store_Whole zero j l small b p =
    parts_split 28 storage_tests j l p (λ e. absurd (omega (arith, ap length e, length-little 4 0))) (λ n e some low fits four o q. absurd (omega arith))
store_Whole (suc k) j l small b p =
    parts_split 28 storage_tests j l p
    (λ e. rw (e, store_none) (record { values = refl; store = refl; fits = λ k. refl }))
    (λ n e some low fits four o q.
    let x : List ℕ = take n l in
    let r : List ℕ = drop n l in
    let z : length x ≡ n = length-take-le n l fits in
    let bx : Bytes x = Bytes-take n l b in
    let named : Bool = is_named (identifier_of x) in
    let h = store_Whole k (j + n) r (omega (arith, length-drop n l)) (Bytes-drop n l b) q in
    let v = values_front (length (drop 24 x)) named (j + 24) (drop 24 x) (omega arith) (Bytes-drop 24 x bx) o.1 (store_entries r) h.values in
    let w : storage_bytes (identifier_of x) (drop 24 x) ≡ x = storage_whole j x bx (own_size l n e (omega arith) fits) (omega arith) (eqb-true (u32_at x 4) 0x53505331 o.0) in
    let i : length (identifier_of x) ≡ 16 = length-take-le 16 (drop 8 x) (omega (arith, length-drop 8 x)) in
    rw (store_first l n e some four)
    (record {
      values = refl;
      store = ap₂ (λ (a c : List ℕ). a ++ c) (ap (storage_bytes (identifier_of x)) v.values ∙ w) (v.store ∙ h.store) ∙ take-append-drop n l;
      fits = λ k. and_both _ _ (eq-eqb (length (identifier_of x)) 16 i) (v.fits ∙ h.fits (kind_of named));
    }))

-- ---- from entries to a store, and to the same entries

-- the fields of a part that is written with this number after its size
record Written (x y : List ℕ) (m : ℕ) : Type 0 where
  long : length x ≡ 8 + length y
  size : u32_at x 0 ≡ length x
  next : u32_at x 4 ≡ m
  rest : drop 8 x ≡ y

sized_long : (m : ℕ) (y : List ℕ) → length (sized (little 4 m ++ y)) ≡ 8 + length y
sized_long m y = simp (length-append, length-little) (omega arith)

written : (m : ℕ) (y : List ℕ) → m < 4294967296 → length (sized (little 4 m ++ y)) < 4294967296 → Written (sized (little 4 m ++ y)) y m
written m y small short =
    let x : List ℕ = little 4 m ++ y in
    let l : length x ≡ 4 + length y = length-append (little 4 m) y ∙ ap (λ (n : ℕ). n + length y) (length-little 4 m) in
    let n : length (sized x) ≡ 8 + length y = sized_long m y in
    let d : drop 4 (sized x) ≡ x = drop_at (little 4 (4 + length x)) x 4 (length-little 4 (4 + length x)) in
    record {
      long = n;
      size = number_back 4 (4 + length x) x (omega arith) ∙ omega arith;
      next = sym (number_drop 4 4 (sized x) 0) ∙ ap (λ (r : List ℕ). u32_at r 0) d ∙ number_back 4 m y small;
      rest = sym (drop-drop 4 4 (sized x)) ∙ ap (drop 4) d ∙ drop_at (little 4 m) y 4 (length-little 4 m);
    }

-- the entries up to the next storage, and those from there on
abbrev leading : List Entry → List Entry
leading [] = []
leading (storage i ∷ es) = []
leading (by_number n raw ∷ es) = by_number n raw ∷ leading es
leading (by_name name raw ∷ es) = by_name name raw ∷ leading es
leading (unknown ∷ es) = unknown ∷ leading es

abbrev following : List Entry → List Entry
following [] = []
following (storage i ∷ es) = storage i ∷ es
following (by_number n raw ∷ es) = following es
following (by_name name raw ∷ es) = following es
following (unknown ∷ es) = following es

split : (es : List Entry) → leading es ++ following es ≡ es
split [] = refl
split (storage i ∷ es) = refl
split (by_number n raw ∷ es) = ap (λ (l : List Entry). by_number n raw ∷ l) (split es)
split (by_name name raw ∷ es) = ap (λ (l : List Entry). by_name name raw ∷ l) (split es)
split (unknown ∷ es) = ap (λ (l : List Entry). unknown ∷ l) (split es)

-- a value reads back
record ValueBack (named : Bool) (j : ℕ) (e : Entry) (x : List ℕ) : Type 0 where
  size : u32_at x 0 ≡ length x
  low : 9 ≤ length x
  right : Pass (value_tests named j x)
  same : value_entry named x ≡ e

module _ {x z : List ℕ} {m : ℕ} (w : Written x (0 ∷ z) m) where
  zero_there : get_or x 8 0 ≡ 0
  zero_there = sym (get_or-drop 8 x 0 0) ∙ ap (λ (l : List ℕ). get_or l 0 0) w.rest

  body_there : drop 9 x ≡ z
  body_there = sym (drop-drop 1 8 x) ∙ ap (drop 1) w.rest

number_value : (j n : ℕ) (raw : List ℕ) → n < 4294967296 → length (value_bytes (by_number n raw)) < 4294967296 → ValueBack false j (by_number n raw) (value_bytes (by_number n raw))
number_value j n raw small short =
    let x : List ℕ = value_bytes (by_number n raw) in
    let w : Written x (0 ∷ raw) n = written n (0 ∷ raw) small short in
    record {
      size = w.size;
      low = omega (arith, w.long);
      right = (le-leb (9 + 0) (length x) (omega (arith, w.long)), (eq-eqb (get_or x 8 0) 0 (zero_there w), tt));
      same = rw (w.next, body_there w);
    }

name_value : (j : ℕ) (name raw : List ℕ) → length (value_bytes (by_name name raw)) < 4294967296 → ValueBack true j (by_name name raw) (value_bytes (by_name name raw))
name_value j name raw short =
    let x : List ℕ = value_bytes (by_name name raw) in
    let n : ℕ = length name in
    let k = length-append name raw in
    let w : Written x (0 ∷ (name ++ raw)) n = written n (0 ∷ (name ++ raw)) (omega (arith, sized_long n (0 ∷ (name ++ raw)))) short in
    let d : drop (9 + n) x ≡ raw = sym (drop-drop n 9 x) ∙ ap (drop n) (body_there w) ∙ drop-append_seam name raw in
    record {
      size = w.size;
      low = omega (arith, w.long);
      right = (rw w.next (le-leb (9 + n) (length x) (omega (arith, w.long))), (eq-eqb (get_or x 8 0) 0 (zero_there w), tt));
      same = rw (w.next, body_there w, d, take-append_seam name raw);
    }

-- what is written reads back: all tests hold, wherever it stands, and the entries are these
record Back (named : Bool) (j : ℕ) (u : List ℕ) (es : List Entry) : Type 0 where
  right : Pass (values_tests named j u)
  same : value_entries named u ≡ es

value_then : (named : Bool) (j : ℕ) (e : Entry) (x r : List ℕ) {es : List Entry} → ValueBack named j e x → Back named (j + length x) r es → Back named j (x ++ r) (e ∷ es)
value_then named j e x r b h =
    let four : 4 ≤ length x = omega (arith, b.low) in
    record {
      right = parts_more 9 (value_tests named) j x r b.size four b.low b.right h.right;
      same = values_then named x r b.size four ∙ ap₂ (λ (a : Entry) (l : List Entry). a ∷ l) b.same h.same;
    }

values_Back : (named : Bool) (j : ℕ) (es : List Entry) → entries_fit (kind_of named) es ≡ true → length (values_bytes es) < 4294967296 → Back named j (values_bytes es) (leading es)
unfolding values_bytes entries_fit
values_Back named j [] f s = record { right = parts_end 9 (value_tests named) j; same = values_none named }
values_Back named j (storage i ∷ es) f s = record { right = parts_end 9 (value_tests named) j; same = values_none named }
values_Back true j (by_number n raw ∷ es) f s = no_true f
values_Back false j (by_number n raw ∷ es) f s =
    let (a, b) = and-true (ltb n 4294967296) (entries_fit 1 es) f in
    let x : List ℕ = value_bytes (by_number n raw) in
    let k = length-append x (values_bytes es) in
    value_then false j (by_number n raw) x (values_bytes es) (number_value j n raw (ltb-true n 4294967296 a) (omega arith)) (values_Back false (j + length x) es b (omega arith))
values_Back true j (by_name name raw ∷ es) f s =
    let x : List ℕ = value_bytes (by_name name raw) in
    let k = length-append x (values_bytes es) in
    value_then true j (by_name name raw) x (values_bytes es) (name_value j name raw (omega arith)) (values_Back true (j + length x) es f (omega arith))
values_Back false j (by_name name raw ∷ es) f s = no_true f
values_Back named j (unknown ∷ es) f s = no_true f

record StoreBack (j : ℕ) (l : List ℕ) (es : List Entry) : Type 0 where
  right : Pass (store_tests j l)
  same : store_entries l ≡ es

values_four : (es : List Entry) → 4 ≤ length (values_bytes es)
unfolding values_bytes
values_four [] = rw (length-little 4 0) (omega arith)
values_four (storage i ∷ es) = rw (length-little 4 0) (omega arith)
values_four (by_number n raw ∷ es) = omega (arith, length-append (value_bytes (by_number n raw)) (values_bytes es), values_four es)
values_four (by_name name raw ∷ es) = omega (arith, length-append (value_bytes (by_name name raw)) (values_bytes es), values_four es)
values_four (unknown ∷ es) = values_four es

storage_then : (j : ℕ) (i : List ℕ) (es : List Entry) → length i ≡ 16 → entries_fit (kind_under i) es ≡ true → length (storage_bytes i (values_bytes es)) < 4294967296
    → StoreBack (j + length (storage_bytes i (values_bytes es))) (store_bytes es) (following es) → StoreBack j (storage_bytes i (values_bytes es) ++ store_bytes es) (storage i ∷ es)
unfolding store_tests
storage_then j i es sixteen f short h =
    let u : List ℕ = values_bytes es in
    let x : List ℕ = storage_bytes i u in
    let k : length (i ++ u) ≡ 16 + length u = length-append i u ∙ ap (λ (n : ℕ). n + length u) sixteen in
    let w : Written x (i ++ u) 0x53505331 = written 0x53505331 (i ++ u) (omega arith) short in
    let d : identifier_of x ≡ i = ap (take 16) w.rest ∙ take_at i u 16 sixteen in
    let v : drop 24 x ≡ u = sym (drop-drop 16 8 x) ∙ ap (drop 16) w.rest ∙ drop_at i u 16 sixteen in
    let b = values_Back (is_named i) (j + 24) es f (omega (arith, w.long)) in
    let four : 4 ≤ length x = omega (arith, w.long) in
    let own : Pass (storage_tests j x) = (eq-eqb (u32_at x 4) 0x53505331 w.next, rw (d, v) b.right) in
    let entries : storage_entries x ≡ storage i ∷ leading es = rw (d, v) (ap (λ (l : List Entry). storage i ∷ l) b.same) in
    record {
      right = parts_more 28 storage_tests j x (store_bytes es) w.size four (omega (arith, w.long, values_four es)) own h.right;
      same = store_then x (store_bytes es) w.size four ∙ ap₂ (λ (a c : List Entry). a ++ c) entries h.same ∙ ap (λ (l : List Entry). storage i ∷ l) (split es);
    }

store_back : (j k : ℕ) (es : List Entry) → entries_fit k es ≡ true → length (store_bytes es) < 4294967296 → StoreBack j (store_bytes es) (following es)
unfolding store_bytes entries_fit store_tests
store_back j k [] f s = record { right = parts_end 28 storage_tests j; same = store_none }
store_back j k (storage i ∷ es) f s =
    let (a, b) = and-true (eqb (length i) 16) (entries_fit (kind_under i) es) f in
    let x : List ℕ = storage_bytes i (values_bytes es) in
    let l = length-append x (store_bytes es) in
    storage_then j i es (eqb-true (length i) 16 a) b (omega arith) (store_back (j + length x) (kind_under i) es b (omega arith))
store_back j k (by_number n raw ∷ es) f s = store_back j k es (and-true (eqb k 1 && ltb n 4294967296) (entries_fit k es) f).1 s
store_back j k (by_name name raw ∷ es) f s = store_back j k es (and-true (eqb k 2) (entries_fit k es) f).1 s
store_back j k (unknown ∷ es) f s = no_true f

-- ---- the two together

-- all that the entries hold is bytes
abbrev pub EntryBytes : Entry → Type 0
EntryBytes (storage i) = Bytes i
EntryBytes (by_number n raw) = Bytes raw
EntryBytes (by_name name raw) = Bytes name × Bytes raw
EntryBytes unknown = Unit {0}

abbrev pub EntriesBytes : List Entry → Type 0
EntriesBytes [] = Unit {0}
EntriesBytes (e ∷ es) = EntryBytes e × EntriesBytes es

sized-Bytes : (x : List ℕ) → Bytes x → Bytes (sized x)
sized-Bytes x b = Bytes-append (little 4 (4 + length x)) x (Bytes-little 4 _) b

values_bytes_lem : (es : List Entry) → EntriesBytes es → Bytes (values_bytes es)
unfolding values_bytes
values_bytes_lem [] h = Bytes-little 4 0
values_bytes_lem (storage i ∷ es) h = Bytes-little 4 0
values_bytes_lem (by_number n raw ∷ es) h =
    Bytes-append (value_bytes (by_number n raw)) (values_bytes es) (sized-Bytes (little 4 n ++ (0 ∷ raw)) (Bytes-append (little 4 n) (0 ∷ raw) (Bytes-little 4 n) (Bytes-cons (omega arith) h.0))) (values_bytes_lem es h.1)
values_bytes_lem (by_name name raw ∷ es) h =
    Bytes-append (value_bytes (by_name name raw)) (values_bytes es)
    (sized-Bytes (little 4 (length name) ++ (0 ∷ (name ++ raw))) (Bytes-append (little 4 (length name)) (0 ∷ (name ++ raw)) (Bytes-little 4 _) (Bytes-cons (omega arith) (Bytes-append name raw h.0.0 h.0.1))))
    (values_bytes_lem es h.1)
values_bytes_lem (unknown ∷ es) h = values_bytes_lem es h.1

store_bytes_lem : (es : List Entry) → EntriesBytes es → Bytes (store_bytes es)
unfolding store_bytes
store_bytes_lem [] h = Bytes-little 4 0
store_bytes_lem (storage i ∷ es) h =
    Bytes-append (storage_bytes i (values_bytes es)) (store_bytes es)
    (sized-Bytes (little 4 0x53505331 ++ (i ++ values_bytes es)) (Bytes-append (little 4 0x53505331) (i ++ values_bytes es) (Bytes-little 4 _) (Bytes-append i (values_bytes es) h.0 (values_bytes_lem es h.1))))
    (store_bytes_lem es h.1)
store_bytes_lem (by_number n raw ∷ es) h = store_bytes_lem es h.1
store_bytes_lem (by_name name raw ∷ es) h = store_bytes_lem es h.1
store_bytes_lem (unknown ∷ es) h = store_bytes_lem es h.1

-- no value stands before the first storage
all_follow : (es : List Entry) → entries_fit 0 es ≡ true → following es ≡ es
unfolding entries_fit
all_follow [] f = refl
all_follow (storage i ∷ es) f = refl
all_follow (by_number n raw ∷ es) f = no_true f
all_follow (by_name name raw ∷ es) f = no_true f
all_follow (unknown ∷ es) f = no_true f

-- a store by itself
itself : (l : List ℕ) → Stands l 0 l
itself l = record { is = take-length l }

-- the store of a list that can be written reads as the list
pub store_reads : (es : List Entry) → EntriesBytes es → writable_store es ≡ true → ReadsAsStore (store_bytes es) es
unfolding writable_store
store_reads es b h =
    let (f, s) = and-true (entries_fit 0 es) (leb (length (store_bytes es)) most_store) h in
    let small : length (store_bytes es) ≤ most_store = leb-true (length (store_bytes es)) most_store s in
    let back = store_back 0 0 es f (omega arith) in
    record {
      bytes = store_bytes_lem es b;
      small = small;
      right = Pass-all (store_tests 0 (store_bytes es)) back.right;
      same = store_said (store_bytes es) 0 0 (store_bytes es) (itself (store_bytes es)) back.right ∙ back.same ∙ all_follow es f;
    }

-- and every store that reads as a list is the one that is written for it
pub reads_written : (l : List ℕ) (es : List Entry) → ReadsAsStore l es → (writable_store es ≡ true) × (store_bytes es ≡ l)
unfolding writable_store
reads_written l es r =
    let p : Pass (store_tests 0 l) = all-Pass (store_tests 0 l) r.right in
    let w = store_Whole (length l) 0 l (omega arith) r.bytes p in
    let e : store_entries l ≡ es = sym (store_said l 0 0 l (itself l) p) ∙ r.same in
    let k : store_bytes es ≡ l = rw e at w.store in
    let f : entries_fit 0 es ≡ true = rw e at (w.fits 0) in
    (and_both (entries_fit 0 es) _ f (le-leb (length (store_bytes es)) most_store (omega (arith, ap length k, r.small))), k)
