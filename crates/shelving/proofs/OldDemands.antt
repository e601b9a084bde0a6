-- What the copy job asks of the old form: a proper beginning of it is of the old form exactly at the end of an entry.
use mathlib.Core.Path.{◌≡◌, refl, sym, ap, ◌∙◌}
use mathlib.Core.List.{List, [], ◌∷◌, ◌++◌, map, append_assoc}
use mathlib.Core.Bool.{Bool, true, false, ◌&&◌, ◌||◌, cond}
use Prim.Native.Nat.{ℕ, zero, suc, ◌+◌, ◌≤◌, ◌<◌}
use native.Mathlib.Omega.{arith}
use lib.ListN.{length, take, drop, length-append, length-take, length-drop, take-append-drop}
use lib.Seq.{take_all, take-append-le, take-append_seam, drop-append-le, length-take-le}
use lib.Dec.{leb, eqb}
use borrow.Author.Tests.{leb-true, ne_eqb}
use Rattle.octets.specs.Numbers.{Bytes, u32_at, little}
use Rattle.octets.proofs.NumberLaws.{Bytes-take, length-little, number_same}
use Rattle.format.specs.declared.Fault.TheVariants.{Shelf as SHELF}
use Rattle.format.specs.Tests.{got, ◌else◌at◌, no_section}
use Rattle.format.specs.Shortcut.{sum}
use Rattle.format.specs.Writing.{output_of}
use Rattle.format.proofs.Bools.{and-true, by_order, clash}
use Rattle.format.proofs.Chains.{passed}
use Rattle.shelves.specs.Table.{most_entries, shelf_bytes}
use Rattle.shelving.specs.Building.{filed}
use Rattle.shelves.specs.OldFile.{old_fits, old_entries, old_bytes}
use Rattle.shelving.specs.OldForm.{from_old, from_old_answer, from_old_output}
use Rattle.shelving.specs.Promises.{first_entries, OldCut, at_an_end, elsewhere}
use Rattle.shelving.specs.Steps.Filing.{first_bad}
use Rattle.shelves.proofs.OldLaws.{old_apart}
use Rattle.shelving.proofs.EntryLaws.{first_good, all_small, filed_all}
use Rattle.shelves.proofs.ApartLaws.{shelf_long}
use Rattle.shelving.proofs.RoundLaws.{old_of, old_back}
use Rattle.shelving.proofs.ShelfLaws.{Good, file_is, gives}
use Rattle.std.specs.Prelude.{Ok}

-- where a beginning fits, its entries are the first of the whole
entries_begin : (k : ℕ) (t r : List ℕ) → old_fits k t ≡ true → old_entries k t ≡ take (length (old_entries k t)) (old_entries k (t ++ r))
unfolding old_fits old_entries
entries_begin zero t r e = refl
entries_begin (suc k) t r e = go (eqb (length t) 0) refl e (entries_begin k (drop (4 + n) t) r)
  where
    n : ℕ
    n = u32_at t 0

    go : (b : Bool) → eqb (length t) 0 ≡ b → (b || (leb 4 (length t) && (leb (4 + n) (length t) && old_fits k (drop (4 + n) t)))) ≡ true
        → (old_fits k (drop (4 + n) t) ≡ true → old_entries k (drop (4 + n) t) ≡ take (length (old_entries k (drop (4 + n) t))) (old_entries k (drop (4 + n) t ++ r)))
        → cond b [] (take n (drop 4 t) ∷ old_entries k (drop (4 + n) t)) ≡ take (length (cond b [] (take n (drop 4 t) ∷ old_entries k (drop (4 + n) t)))) (old_entries (suc k) (t ++ r))
    go true i f again = refl
    go false i f again =
        let (x, g) = and-true (leb 4 (length t)) _ f in
        let (y, h) = and-true (leb (4 + n) (length t)) _ g in
        let four : 4 ≤ length t = leb-true 4 (length t) x in
        let fits : 4 + n ≤ length t = leb-true (4 + n) (length t) y in
        let size : u32_at (t ++ r) 0 ≡ n = number_same 4 4 (t ++ r) t 0 (take-append-le 4 t r four) (omega arith) in
        let some : eqb (length (t ++ r)) 0 ≡ false = ne_eqb (length (t ++ r)) 0 (λ (z : length (t ++ r) ≡ 0). omega (arith, length-append t r)) in
        let one : take n (drop 4 (t ++ r)) ≡ take n (drop 4 t) = ap (take n) (drop-append-le 4 t r four) ∙ take-append-le n (drop 4 t) r (omega (arith, length-drop 4 t)) in
        let left : drop (4 + n) (t ++ r) ≡ drop (4 + n) t ++ r = drop-append-le (4 + n) t r fits in
        rw (some, size, one, left) (ap (λ (es : List (List ℕ)). take n (drop 4 t) ∷ es) (again h))

-- the first of good entries are good, and no more bytes
first_each : (j : ℕ) (es : List (List ℕ)) → first_bad es ≡ length es → first_bad (take j es) ≡ length (take j es)
unfolding first_bad
first_each zero es h = refl
first_each (suc j) [] h = refl
first_each (suc j) (e ∷ es) h = let (a, b) = first_good e es h in rw a (omega (arith, first_each j es b))

first_sum : (j : ℕ) (es : List (List ℕ)) → sum (map length (take j es)) ≤ sum (map length es)
first_sum zero es = omega arith
first_sum (suc j) [] = omega arith
first_sum (suc j) (e ∷ es) = omega (arith, first_sum j es)

old_append : (xs ys : List (List ℕ)) → old_bytes (xs ++ ys) ≡ old_bytes xs ++ old_bytes ys
unfolding old_bytes
old_append [] ys = refl
old_append (x ∷ xs) ys =
    rw (old_append xs ys, append_assoc (little 4 (length x)) (x ++ old_bytes xs) (old_bytes ys), append_assoc x (old_bytes xs) (old_bytes ys))

old_some : (es : List (List ℕ)) → 0 < length es → 4 ≤ length (old_bytes es)
unfolding old_bytes
old_some [] h = absurd (omega arith)
old_some (e ∷ es) h = omega (arith, length-append (little 4 (length e)) (e ++ old_bytes es), length-little 4 (length e))

-- a file of the old form that is moved
record IsOld (s : List ℕ) (room : ℕ) : Type 0 where
  fits : old_fits most_entries s ≡ true
  good : Good (old_entries most_entries s)
  short : length (shelf_bytes (old_entries most_entries s)) ≤ room

old_is : (s out : List ℕ) {n : ℕ} → from_old_answer s out ≡ Ok n → IsOld s (length out)
unfolding from_old_answer from_old
old_is s out e =
    let es : List (List ℕ) = old_entries most_entries s in
    let g = gives (from_old s (length out)) e in
    let (p, q) = passed no_section (old_fits most_entries s else SHELF at 0 ∷ []) (filed es (shelf_bytes es) (length out)) g.is in
    let f = file_is es (shelf_bytes es) (length out) q in
    record { fits = p.0; good = record { each = f.each; few = (old_apart most_entries s p.0).few }; short = omega (arith, ap length f.is, f.fits) }

module _ (s out : List ℕ) (b : Bytes s) (x : IsOld s (length out)) where
  abbrev all-entries : List (List ℕ)
  all-entries = old_entries most_entries s

  module _ (j : ℕ) where
    abbrev w : List ℕ
    w = shelf_bytes (first_entries j s)

    first_Good_too : Good (first_entries j s)
    first_Good_too = record { each = first_each j all-entries x.good.each; few = omega (arith, length-take j all-entries, x.good.few) }

    first_fits : (old_fits most_entries (old_bytes (first_entries j s)) ≡ true) × (old_entries most_entries (old_bytes (first_entries j s)) ≡ first_entries j s)
    first_fits = old_of most_entries (first_entries j s) first_Good_too.few (all_small (first_entries j s) first_Good_too.each)

    first_moves : from_old (old_bytes (first_entries j s)) (length out) ≡ got w (length w)
    unfolding from_old
    first_moves =
        let short : length w ≤ length out = omega (arith, shelf_long (first_entries j s), shelf_long all-entries, length-take j all-entries, first_sum j all-entries, x.short) in
        rw (first_fits.0, first_fits.1) (filed_all (first_entries j s) w (length out) first_Good_too.each short)

    ends_there : (t : List ℕ) → j < length all-entries → t ≡ old_bytes (first_entries j s) → OldCut s t out (from_old_answer t out) (from_old_output t out)
    unfolding from_old_answer from_old_output output_of
    ends_there t h e = rw (e, first_moves) (at_an_end j h refl)

  module _ (k : ℕ) (l : k < length s) where
    abbrev t : List ℕ
    t = take k s

    fits_too : old_fits most_entries t ≡ true → OldCut s t out (from_old_answer t out) (from_old_output t out)
    fits_too e =
        let j : ℕ = length (old_entries most_entries t) in
        let firsts : old_entries most_entries t ≡ first_entries j s = entries_begin most_entries t (drop k s) e ∙ ap (first_entries j) (take-append-drop k s) in
        let is : t ≡ old_bytes (first_entries j s) = sym (old_back most_entries t (Bytes-take k s b) e) ∙ ap old_bytes firsts in
        by_order (length all-entries) j
        (λ h.
        let whole : t ≡ s = is ∙ ap old_bytes (take_all j all-entries h) ∙ old_back most_entries s b x.fits in
        absurd (omega (arith, ap (λ (y : List ℕ). length y) whole, length-take-le k s (omega arith))))
        (λ h. ends_there j t h is)

    fits_not : old_fits most_entries t ≡ false → OldCut s t out (from_old_answer t out) (from_old_output t out)
    unfolding from_old_answer from_old_output from_old output_of
    fits_not e = rw e (elsewhere (λ j i. clash (ap (old_fits most_entries) i ∙ (first_fits j).0) e))

    cut_old : OldCut s t out (from_old_answer t out) (from_old_output t out)
    cut_old = go (old_fits most_entries t) refl
      where
        go : (y : Bool) → old_fits most_entries t ≡ y → OldCut s t out (from_old_answer t out) (from_old_output t out)
        go true e = fits_too e
        go false e = fits_not e

-- a proper beginning of the old form is of the old form exactly if it ends with an entry
pub old_beginning : (s out : List ℕ) → Bytes s → {n : ℕ} → from_old_answer s out ≡ Ok n → (k : ℕ) → k < length s → OldCut s (take k s) out (from_old_answer (take k s) out) (from_old_output (take k s) out)
old_beginning s out b e k l = cut_old s out b (old_is s out e) k l

-- and the first entries are such a beginning, none of them too
pub old_entries_begin : (s out : List ℕ) → Bytes s → {n : ℕ} → from_old_answer s out ≡ Ok n → (j : ℕ) → j < length (old_entries most_entries s)
    → (length (old_bytes (first_entries j s)) < length s) × (take (length (old_bytes (first_entries j s))) s ≡ old_bytes (first_entries j s))
old_entries_begin s out b e j h =
    let es : List (List ℕ) = old_entries most_entries s in
    let is : old_bytes (take j es) ++ old_bytes (drop j es) ≡ s = sym (old_append (take j es) (drop j es)) ∙ ap old_bytes (take-append-drop j es) ∙ old_back most_entries s b (old_is s out e).fits in
    let more = old_some (drop j es) (omega (arith, length-drop j es)) in
    (omega (arith, ap (λ (y : List ℕ). length y) is, length-append (old_bytes (take j es)) (old_bytes (drop j es))), ap (take (length (old_bytes (take j es)))) (sym is) ∙ take-append_seam (old_bytes (take j es)) (old_bytes (drop j es)))
