-- There and back between entries and files: a shelf, the old form, bodies end to end.
use mathlib.Core.Path.{◌≡◌, refl, sym, ap, ◌∙◌}
use mathlib.Core.List.{List, [], ◌∷◌, ◌++◌, map, append_assoc}
use mathlib.Core.Bool.{Bool, true, false, ◌&&◌, ◌||◌, cond}
use Prim.Native.Nat.{ℕ, zero, suc, ◌+◌, ◌*◌, ◌≤◌, ◌<◌}
use native.Mathlib.Omega.{arith}
use lib.ListN.{length, take, drop, get_or, length-append, length-drop, length-map, take-append-drop}
use lib.Seq.{drop-drop, length-take-le, take_at, drop_at}
use lib.Dec.{leb, eqb}
use borrow.Author.Tests.{le-leb, leb-true, eqb-true, eq-eqb, ne_eqb}
use Rattle.octets.specs.Numbers.{Bytes, number_at, u32_at, little}
use Rattle.octets.proofs.NumberLaws.{Bytes-drop, Bytes-take, length-little, number_back, number_drop, little-number}
use Rattle.format.specs.declared.Place.{Place}
use Rattle.format.specs.Tests.{all, place}
use Rattle.format.specs.Shortcut.{most, sum}
use Rattle.format.specs.Contents.{bytes_at}
use Rattle.format.specs.Writing.{end_to_end}
use Rattle.format.proofs.Bools.{and-true}
use Rattle.format.proofs.Chains.{Pass-all}
use Rattle.shelves.specs.Table.{most_entries, shelf_count, table_rows, shelf_rows, bodies_start, rows_follow, shelf_tests, shelf_entries, table_bytes, shelf_bytes}
use Rattle.shelving.specs.Building.{bodies_by}
use Rattle.shelves.specs.OldFile.{old_fits, old_entries, old_bytes}
use Rattle.shelves.specs.Steps.Apart.{table_lengths, Small}
use Rattle.shelves.proofs.ApartLaws.{Small-sum, table_long, span_none, apart_lengths, shelf_long}
use Rattle.shelving.proofs.FileLaws.{bodies_apart}
use Rattle.shelves.proofs.TableLaws.{length_of, Right, entries_apart, lengths_sum, entries_count}

-- ---- a number of four bytes

-- read where it was put
put_read : (n : ℕ) (r : List ℕ) → n < 4294967296 → u32_at (little 4 n ++ r) 0 ≡ n
put_read n r h = number_back 4 n r h

-- put where it was read
read_put : (t : List ℕ) → Bytes t → 4 ≤ length t → little 4 (u32_at t 0) ≡ take 4 t
unfolding number_at
read_put t b h = let l : length (take 4 t) ≡ 4 = length-take-le 4 t h in rw l at (little-number (take 4 t) (Bytes-take 4 t b))

after_four : (n : ℕ) (r : List ℕ) → drop 4 (little 4 n ++ r) ≡ r
after_four n r = drop_at (little 4 n) r 4 (length-little 4 n)

-- ---- bodies end to end

pub bodies_cut : (es : List (List ℕ)) → bodies_by (map length es) (end_to_end es) ≡ es
bodies_cut [] = refl
bodies_cut (e ∷ es) =
    let a : take (length e) (e ++ end_to_end es) ≡ e = take_at e (end_to_end es) (length e) refl in
    let b : drop (length e) (e ++ end_to_end es) ≡ end_to_end es = drop_at e (end_to_end es) (length e) refl in
    rw (a, b, bodies_cut es)

pub bodies_whole : (ns d : List ℕ) → sum ns ≡ length d → end_to_end (bodies_by ns d) ≡ d
bodies_whole [] [] h = refl
bodies_whole [] (x ∷ d) h = absurd (omega arith)
bodies_whole (n ∷ ns) d h = rw (bodies_whole ns (drop n d) (omega (arith, length-drop n d))) (take-append-drop n d)

-- ---- the table of a shelf that was built

-- each length with where its body starts
abbrev starts : ℕ → List ℕ → List Place
starts p [] = []
starts p (n ∷ ns) = place p n ∷ starts (p + n) ns

table_read : (p : ℕ) (ns r : List ℕ) → p + sum ns < 4294967296 → table_rows (length ns) (table_bytes p ns ++ r) ≡ starts p ns
table_read p [] r h = refl
table_read p (n ∷ ns) r h =
    let t : List ℕ = table_bytes (p + n) ns in
    let whole : (little 4 p ++ (little 4 n ++ t)) ++ r ≡ little 4 p ++ (little 4 n ++ (t ++ r)) = append_assoc (little 4 p) (little 4 n ++ t) r ∙ ap (λ (l : List ℕ). little 4 p ++ l) (append_assoc (little 4 n) t r) in
    let start : u32_at (little 4 p ++ (little 4 n ++ (t ++ r))) 0 ≡ p = put_read p (little 4 n ++ (t ++ r)) (omega arith) in
    let long : u32_at (little 4 p ++ (little 4 n ++ (t ++ r))) 4 ≡ n = sym (number_drop 4 4 (little 4 p ++ (little 4 n ++ (t ++ r))) 0) ∙ rw (after_four p (little 4 n ++ (t ++ r))) (put_read n (t ++ r) (omega arith)) in
    let rest : drop 8 (little 4 p ++ (little 4 n ++ (t ++ r))) ≡ t ++ r = sym (drop-drop 4 4 (little 4 p ++ (little 4 n ++ (t ++ r)))) ∙ rw (after_four p (little 4 n ++ (t ++ r))) (after_four n (t ++ r)) in
    rw (whole, start, long, rest) (ap (λ (l : List Place). place p n ∷ l) (table_read (p + n) ns r (omega arith)))

starts_follow : (end p : ℕ) (ns : List ℕ) → p + sum ns ≡ end → rows_follow end p (starts p ns) ≡ true
starts_follow end p [] h = eq-eqb p end (omega arith)
starts_follow end p (n ∷ ns) h = rw (eq-eqb p p refl) (starts_follow end (p + n) ns (omega arith))

starts_show : (w : List ℕ) (p : ℕ) (es : List (List ℕ)) → drop p w ≡ end_to_end es → map (bytes_at w) (starts p (map length es)) ≡ es
starts_show w p [] h = refl
starts_show w p (e ∷ es) h =
    let a : take (length e) (drop p w) ≡ e = rw h (take_at e (end_to_end es) (length e) refl) in
    let b : drop (p + length e) w ≡ end_to_end es = sym (drop-drop (length e) p w) ∙ rw h (drop_at e (end_to_end es) (length e) refl) in
    rw (a, starts_show w (p + length e) es b)

-- ---- what was built is a shelf of these entries

pub record ShelfOf (w : List ℕ) (es : List (List ℕ)) : Type 0 where
  pub right : all (shelf_tests w) ≡ true
  pub entries : shelf_entries w ≡ es
  pub count : shelf_count w ≡ length es

module _ (es : List (List ℕ)) (small : Small (map length es)) where
  abbrev w : List ℕ
  w = shelf_bytes es

  abbrev first : ℕ
  first = bodies_start (length es)

  few : length es ≤ most_entries
  few = omega (arith, small.few, length-map es length)

  built_count : shelf_count w ≡ length es
  unfolding shelf_bytes
  built_count = put_read (length es) (table_bytes first (map length es) ++ end_to_end es) (omega (arith, few))

  built_rows : shelf_rows w ≡ starts first (map length es)
  unfolding shelf_rows shelf_bytes
  built_rows =
      let n : shelf_count (little 4 (length es) ++ (table_bytes first (map length es) ++ end_to_end es)) ≡ length (map length es) = built_count ∙ sym (length-map es length) in
      rw (n, after_four (length es) (table_bytes first (map length es) ++ end_to_end es))
      (table_read first (map length es) (end_to_end es) (omega (arith, Small-sum small, few)))

  built_bodies : drop first w ≡ end_to_end es
  unfolding shelf_bytes
  built_bodies =
      let head : length (little 4 (length es) ++ table_bytes first (map length es)) ≡ first = omega (arith, length-append (little 4 (length es)) (table_bytes first (map length es)), length-little 4 (length es), table_long first (map length es), length-map es length) in
      ap (drop first) (sym (append_assoc (little 4 (length es)) (table_bytes first (map length es)) (end_to_end es))) ∙ drop_at (little 4 (length es) ++ table_bytes first (map length es)) (end_to_end es) first head

  pub built : ShelfOf w es
  unfolding shelf_tests shelf_entries
  built =
      let long = shelf_long es in
      let follow : rows_follow (length w) (bodies_start (shelf_count w)) (shelf_rows w) ≡ true = rw (built_count, built_rows) (starts_follow (length w) first (map length es) (sym long)) in
      record {
        right = Pass-all (shelf_tests w) (
          le-leb 4 (length w) (omega (arith, long)),
          (
            le-leb (shelf_count w) most_entries (omega (arith, built_count, few)),
            (le-leb (bodies_start (shelf_count w)) (length w) (omega (arith, built_count, long)), (follow, tt)),
          ),
        );
        entries = rw built_rows (starts_show w first es built_bodies);
        count = built_count;
      }

-- ---- a shelf is what is built from its entries

table_put : (k : ℕ) (t : List ℕ) (end p : ℕ) → Bytes t → 8 * k ≤ length t → rows_follow end p (table_rows k t) ≡ true → t ≡ table_bytes p (map length_of (table_rows k t)) ++ drop (8 * k) t
table_put zero t end p b h e = refl
table_put (suc k) t end p b h e =
    let (f, g) = and-true (eqb (u32_at t 0) p) (rows_follow end (p + u32_at t 4) (table_rows k (drop 8 t))) e in
    let q : u32_at t 0 ≡ p = eqb-true (u32_at t 0) p f in
    let again = table_put k (drop 8 t) end (p + u32_at t 4) (Bytes-drop 8 t b) (omega (arith, length-drop 8 t)) g in
    let start : little 4 p ≡ take 4 t = ap (little 4) (sym q) ∙ read_put t b (omega arith) in
    let four : u32_at (drop 4 t) 0 ≡ u32_at t 4 = number_drop 4 4 t 0 in
    let long : little 4 (u32_at t 4) ≡ take 4 (drop 4 t) = ap (little 4) (sym four) ∙ read_put (drop 4 t) (Bytes-drop 4 t b) (omega (arith, length-drop 4 t)) in
    let rest : table_bytes (p + u32_at t 4) (map length_of (table_rows k (drop 8 t))) ++ drop (8 * suc k) t ≡ drop 8 t = ap (λ (l : List ℕ). table_bytes (p + u32_at t 4) (map length_of (table_rows k (drop 8 t))) ++ l) (further k) ∙ sym again in
    sym (append_assoc (little 4 p) (little 4 (u32_at t 4) ++ table_bytes (p + u32_at t 4) (map length_of (table_rows k (drop 8 t)))) (drop (8 * suc k) t)
    ∙ ap (λ (l : List ℕ). little 4 p ++ l) (append_assoc (little 4 (u32_at t 4)) (table_bytes (p + u32_at t 4) (map length_of (table_rows k (drop 8 t)))) (drop (8 * suc k) t))
    ∙ rw (rest, start, long) halves)
  where
    further : (k : ℕ) → drop (8 * suc k) t ≡ drop (8 * k) (drop 8 t)
    further k = let e : 8 * suc k ≡ 8 + 8 * k = omega arith in rw e (sym (drop-drop (8 * k) 8 t))

    halves : take 4 t ++ (take 4 (drop 4 t) ++ drop 8 t) ≡ t
    halves =
        let x : take 4 (drop 4 t) ++ drop 8 t ≡ drop 4 t = ap (λ (l : List ℕ). take 4 (drop 4 t) ++ l) (sym (drop-drop 4 4 t)) ∙ take-append-drop 4 (drop 4 t) in
        rw x (take-append-drop 4 t)

module _ (s : List ℕ) (bytes : Bytes s) (r : Right s) where
  lengths_are : map length (shelf_entries s) ≡ table_lengths s
  lengths_are = rw (entries_apart s r) (apart_lengths 0 (table_lengths s) (drop (bodies_start (shelf_count s)) s) (omega (arith, span_none (table_lengths s), lengths_sum s r, length-drop (bodies_start (shelf_count s)) s)))

  bodies_are : end_to_end (shelf_entries s) ≡ drop (bodies_start (shelf_count s)) s
  bodies_are =
      rw (entries_apart s r, ← bodies_apart (table_lengths s) (drop (bodies_start (shelf_count s)) s))
      (bodies_whole (table_lengths s) (drop (bodies_start (shelf_count s)) s) (omega (arith, lengths_sum s r, length-drop (bodies_start (shelf_count s)) s)))

  table_there : drop 4 s ≡ table_bytes (bodies_start (shelf_count s)) (table_lengths s) ++ drop (8 * shelf_count s) (drop 4 s)
  unfolding shelf_rows table_lengths
  table_there = table_put (shelf_count s) (drop 4 s) (length s) (bodies_start (shelf_count s)) (Bytes-drop 4 s bytes) (omega (arith, r.room, length-drop 4 s)) r.follow

  table_is : table_bytes (bodies_start (shelf_count s)) (table_lengths s) ++ drop (bodies_start (shelf_count s)) s ≡ drop 4 s
  table_is = ap (λ (l : List ℕ). table_bytes (bodies_start (shelf_count s)) (table_lengths s) ++ l) (sym (drop-drop (8 * shelf_count s) 4 s)) ∙ sym table_there

  pub rebuilt : shelf_bytes (shelf_entries s) ≡ s
  unfolding shelf_bytes
  rebuilt = rw (entries_count s, lengths_are, bodies_are, read_put s bytes r.long, table_is) (take-append-drop 4 s)

-- ---- the old form

pub old_of : (k : ℕ) (es : List (List ℕ)) → length es ≤ k → ((i : ℕ) → get_or (map length es) i 0 ≤ most) → (old_fits k (old_bytes es) ≡ true) × (old_entries k (old_bytes es) ≡ es)
unfolding old_fits old_entries old_bytes
old_of zero [] h f = (refl, refl)
old_of zero (e ∷ es) h f = absurd (omega arith)
old_of (suc k) [] h f = (refl, refl)
old_of (suc k) (e ∷ es) h f =
    let r : List ℕ = old_bytes es in
    let s : List ℕ = little 4 (length e) ++ (e ++ r) in
    let n : u32_at s 0 ≡ length e = put_read (length e) (e ++ r) (omega (arith, f 0)) in
    let l : length s ≡ 4 + (length e + length r) = simp (length-append, length-little) in
    let some : eqb (length s) 0 ≡ false = ne_eqb (length s) 0 (λ (z : length s ≡ 0). omega arith) in
    let a : take (length e) (drop 4 s) ≡ e = rw (after_four (length e) (e ++ r)) (take_at e r (length e) refl) in
    let b : drop (4 + length e) s ≡ r = sym (drop-drop (length e) 4 s) ∙ rw (after_four (length e) (e ++ r)) (drop_at e r (length e) refl) in
    let (x, y) = old_of k es (omega arith) (λ i. f (suc i)) in
    (rw (n, some, le-leb 4 (length s) (omega arith), le-leb (4 + length e) (length s) (omega arith), b) x, rw (n, some, a, b, y))

pub old_back : (k : ℕ) (s : List ℕ) → Bytes s → old_fits k s ≡ true → old_bytes (old_entries k s) ≡ s
unfolding old_fits old_entries old_bytes
old_back zero [] b e = refl
old_back zero (x ∷ s) b e = absurd (omega (arith, eqb-true (length (x ∷ s)) 0 e))
old_back (suc k) s b e = go (eqb (length s) 0) refl e (old_back k (drop (4 + u32_at s 0) s) (Bytes-drop (4 + u32_at s 0) s b))
  where
    empty : (l : List ℕ) → length l ≡ 0 → [] ≡ l
    empty [] h = refl
    empty (x ∷ l) h = absurd (omega arith)

    go : (t : Bool) → eqb (length s) 0 ≡ t → (t || (leb 4 (length s) && (leb (4 + u32_at s 0) (length s) && old_fits k (drop (4 + u32_at s 0) s)))) ≡ true
        → (old_fits k (drop (4 + u32_at s 0) s) ≡ true → old_bytes (old_entries k (drop (4 + u32_at s 0) s)) ≡ drop (4 + u32_at s 0) s)
        → old_bytes (cond t [] (take (u32_at s 0) (drop 4 s) ∷ old_entries k (drop (4 + u32_at s 0) s))) ≡ s
    go true i f again = empty s (eqb-true (length s) 0 i)
    go false i f again =
        let (x, g) = and-true (leb 4 (length s)) (leb (4 + u32_at s 0) (length s) && old_fits k (drop (4 + u32_at s 0) s)) f in
        let (y, h) = and-true (leb (4 + u32_at s 0) (length s)) (old_fits k (drop (4 + u32_at s 0) s)) g in
        let inside = leb-true (4 + u32_at s 0) (length s) y in
        let l : length (take (u32_at s 0) (drop 4 s)) ≡ u32_at s 0 = length-take-le (u32_at s 0) (drop 4 s) (omega (arith, length-drop 4 s)) in
        let body : take (u32_at s 0) (drop 4 s) ++ drop (4 + u32_at s 0) s ≡ drop 4 s = ap (λ (r : List ℕ). take (u32_at s 0) (drop 4 s) ++ r) (sym (drop-drop (u32_at s 0) 4 s)) ∙ take-append-drop (u32_at s 0) (drop 4 s) in
        rw (l, again h, body, read_put s b (leb-true 4 (length s) x)) (take-append-drop 4 s)
