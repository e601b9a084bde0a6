-- Entries one after another: the first of those that are left, and how many bytes they are.
use mathlib.Core.Path.{◌≡◌, refl, sym, ap, ◌∙◌}
use mathlib.Core.List.{List, [], ◌∷◌, ◌++◌, map, append_assoc}
use Prim.Native.Nat.{ℕ, suc, ◌+◌, ◌-◌, ◌*◌, ◌≤◌, ◌<◌}
use native.Mathlib.Omega.{arith}
use native.Mathlib.Numerals.{add-one}
use lib.ListN.{length, take, drop, get_or, length-append, length-drop, length-map}
use lib.Seq.{drop-cons, drop-length, length-take-le}
use Rattle.std.specs.List.{between}
use Rattle.std.proofs.lemmas.Slice.{between_to_end}
use Rattle.octets.specs.Numbers.{little}
use Rattle.octets.proofs.NumberLaws.{length-little}
use Rattle.format.specs.Shortcut.{most, sum}
use Rattle.format.specs.Writing.{end_to_end}
use Rattle.shelves.specs.Table.{bodies_start, table_bytes, shelf_bytes}
use Rattle.shelves.specs.OldFile.{old_bytes}
use Rattle.shelves.specs.Steps.Apart.{apart, span, Small, OldRoom}

-- ---- the one at hand

-- the lengths from the one of number k on
pub left_first : (ns : List ℕ) (k : ℕ) → k < length ns → drop k ns ≡ get_or ns k 0 ∷ drop (k + 1) ns
left_first ns k h = rw (add-one, drop-cons ns k 0)

pub left_none : (ns : List ℕ) {k : ℕ} → k ≡ length ns → drop k ns ≡ []
left_none ns e = rw e (drop-length ns)

-- ---- sums

pub sum_first : (ns : List ℕ) (k : ℕ) → k < length ns → sum (drop k ns) ≡ get_or ns k 0 + sum (drop (k + 1) ns)
sum_first ns k h = ap sum (left_first ns k h)

-- ---- as many, as long, as many bytes

pub apart_count : (gap : ℕ) (ns d : List ℕ) → length (apart gap ns d) ≡ length ns
apart_count gap [] d = refl
apart_count gap (n ∷ ns) d = ap suc (apart_count gap ns (drop (gap + n) d))

pub apart_lengths : (gap : ℕ) (ns d : List ℕ) → span gap ns ≤ length d → map length (apart gap ns d) ≡ ns
apart_lengths gap [] d h = refl
apart_lengths gap (n ∷ ns) d h =
    let a : length (take n (drop gap d)) ≡ n = length-take-le n (drop gap d) (omega (arith, length-drop gap d)) in
    let b : map length (apart gap ns (drop (gap + n) d)) ≡ ns = apart_lengths gap ns (drop (gap + n) d) (omega (arith, length-drop (gap + n) d)) in
    rw (a, b)

pub length_end : (es : List (List ℕ)) → length (end_to_end es) ≡ sum (map length es)
length_end [] = refl
length_end (e ∷ es) = length-append e (end_to_end es) ∙ omega (arith, length_end es)

pub span_none : (ns : List ℕ) → span 0 ns ≡ sum ns
span_none [] = refl
span_none (n ∷ ns) = omega (arith, span_none ns)

pub span_four : (ns : List ℕ) → span 4 ns ≡ 4 * length ns + sum ns
span_four [] = refl
span_four (n ∷ ns) = omega (arith, span_four ns)

-- ---- what is left to put

sum_small : (ns : List ℕ) → ((k : ℕ) → get_or ns k 0 ≤ most) → sum ns ≤ most * length ns
sum_small [] h = omega arith
sum_small (n ∷ ns) h = omega (arith, h 0, sum_small ns (λ k. h (suc k)))

-- four bytes are enough for a start
pub Small-sum : {ns : List ℕ} → Small ns → sum ns ≤ 4194304
Small-sum {ns} s = omega (arith, sum_small ns s.each, s.few)

pub table_long : (p : ℕ) (ns : List ℕ) → length (table_bytes p ns) ≡ 8 * length ns
table_long p [] = refl
table_long p (n ∷ ns) = simp (length-append, length-little) (omega (arith, table_long (p + n) ns))

pub table_left : (p : ℕ) (ns : List ℕ) (k : ℕ) → k < length ns
    → table_bytes p (drop k ns) ≡ (little 4 p ++ little 4 (get_or ns k 0)) ++ table_bytes (p + get_or ns k 0) (drop (k + 1) ns)
table_left p ns k h = ap (table_bytes p) (left_first ns k h) ∙ sym (append_assoc (little 4 p) (little 4 (get_or ns k 0)) (table_bytes (p + get_or ns k 0) (drop (k + 1) ns)))

pub table_none : (p : ℕ) (ns : List ℕ) {k : ℕ} → k ≡ length ns → table_bytes p (drop k ns) ≡ []
table_none p ns e = ap (table_bytes p) (left_none ns e)

pub bodies_long : (gap : ℕ) (ns d : List ℕ) → span gap ns ≤ length d → length (end_to_end (apart gap ns d)) ≡ sum ns
bodies_long gap ns d h = length_end (apart gap ns d) ∙ ap sum (apart_lengths gap ns d h)

-- the same with each length in front
pub old_more : {es more : List (List ℕ)} {e : List ℕ} → es ≡ e ∷ more → old_bytes es ≡ (little 4 (length e) ++ e) ++ old_bytes more
unfolding old_bytes
old_more {more = more} {e = e} i = rw i (sym (append_assoc (little 4 (length e)) e (old_bytes more)))

pub old_more_long : {es more : List (List ℕ)} {e : List ℕ} → es ≡ e ∷ more → length (old_bytes es) ≡ 4 + length e + length (old_bytes more)
old_more_long i = ap length (old_more i) ∙ simp (length-append, length-little) refl

pub old_none : {es : List (List ℕ)} → es ≡ [] → old_bytes es ≡ []
unfolding old_bytes
old_none e = rw e

pub old_long : (es : List (List ℕ)) → length (old_bytes es) ≡ span 4 (map length es)
unfolding old_bytes
old_long [] = refl
old_long (e ∷ es) = simp (length-append, length-little) (omega (arith, old_long es))

module _ {d : List ℕ} {base : ℕ} {ns out : List ℕ} (o : OldRoom d base ns out) where
  pub base_inside : span 0 ns ≤ length (drop base d)
  base_inside = omega (arith, length-drop base d, o.inside)

  pub base_long : length (old_bytes (apart 0 ns (drop base d))) ≡ span 4 ns
  base_long = old_long (apart 0 ns (drop base d)) ∙ ap (span 4) (apart_lengths 0 ns (drop base d) base_inside)

  pub base_few : length (old_bytes (apart 0 ns (drop base d))) < 4294967296
  base_few = omega (arith, base_long, span_four ns, Small-sum o.small, o.small.few)

-- ---- the bytes of a shelf, by the lengths of its entries

pub shelf_long : (es : List (List ℕ)) → length (shelf_bytes es) ≡ bodies_start (length es) + sum (map length es)
unfolding shelf_bytes
shelf_long es =
    simp (length-append, length-little)
    (omega (arith, table_long (bodies_start (length es)) (map length es), length-map es length, length_end es))

module _ (gap : ℕ) (ns d : List ℕ) (inside : span gap ns ≤ length d) where
  pub shelf_apart : shelf_bytes (apart gap ns d) ≡ (little 4 (length ns) ++ table_bytes (bodies_start (length ns)) ns) ++ end_to_end (apart gap ns d)
  unfolding shelf_bytes
  shelf_apart =
      rw (apart_count gap ns d, apart_lengths gap ns d inside)
      (sym (append_assoc (little 4 (length ns)) (table_bytes (bodies_start (length ns)) ns) (end_to_end (apart gap ns d))))

  pub shelf_size : length (shelf_bytes (apart gap ns d)) ≡ bodies_start (length ns) + sum ns
  shelf_size = shelf_long (apart gap ns d) ∙ rw (apart_count gap ns d, apart_lengths gap ns d inside)

-- the first as a part of the slice, and the others in what follows it
pub apart_first : (gap n : ℕ) (ns d : List ℕ) → apart gap (n ∷ ns) d ≡ between gap (gap + n) d ∷ apart gap ns (between (gap + n) (length d) d)
apart_first gap n ns d =
    let own : gap + n - gap ≡ n = omega arith in
    rw (own, between_to_end d (gap + n) (length d) (omega arith))
