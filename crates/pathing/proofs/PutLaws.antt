-- Puts over bytes whose parts are known, and a block put over one of a row of parts.
use mathlib.Core.Path.{◌≡◌, refl, sym, ap, ◌∙◌}
use mathlib.Core.List.{List, [], ◌∷◌, ◌++◌, append_assoc, append-nil}
use Prim.Native.Nat.{ℕ, zero, suc, ◌+◌, ◌-◌, ◌≤◌}
use native.Mathlib.Omega.{arith}
use lib.ListN.{length, take, drop, length-append, length-drop, drop_of_length-le}
use lib.Seq.{length-take-le, take_all, take-append-le, take-append-add, drop-append-add, drop-drop, take_at, drop_at}
use Rattle.octets.specs.Parts.{put}

-- one part, by as many bytes
pub put_part : (a x w r : List ℕ) {i : ℕ} → length a ≡ i → length x ≡ length w → put (a ++ (x ++ r)) i w ≡ a ++ (w ++ r)
unfolding put
put_part a x w r e l =
    rw (← e, take_at a (x ++ r) (length a) refl, drop-append-add a (x ++ r) (length w), drop_at x r (length w) l)

-- after other bytes
put_after : (a s w : List ℕ) (i : ℕ) → put (a ++ s) (length a + i) w ≡ a ++ put s i w
unfolding put
put_after a s w i =
    let e : length a + i + length w ≡ length a + (i + length w) = omega arith in
    rw (e, take-append-add a s i, drop-append-add a s (i + length w)) (append_assoc a (take i s) (w ++ drop (i + length w) s))

drop-append : (n : ℕ) (x r : List ℕ) → drop n (x ++ r) ≡ drop n x ++ drop (n - length x) r
drop-append zero x r = let e : 0 - length x ≡ 0 = omega arith in rw e
drop-append (suc n) [] r = let e : suc n - 0 ≡ suc n = omega arith in rw e
drop-append (suc n) (a ∷ x) r = let e : suc n - suc (length x) ≡ n - length x = omega arith in rw e (drop-append n x r)

-- before others, which it may take the place of
put_before : (x r w : List ℕ) (i : ℕ) → i ≤ length x → put (x ++ r) i w ≡ put x i w ++ drop (i + length w - length x) r
unfolding put
put_before x r w i h =
    rw (take-append-le i x r, drop-append (i + length w) x r)
    (ap (λ (l : List ℕ). take i x ++ l) (sym (append_assoc w (drop (i + length w) x) (drop (i + length w - length x) r)))
    ∙ sym (append_assoc (take i x) (w ++ drop (i + length w) x) (drop (i + length w - length x) r)))

-- a list that gains what the bytes have beyond its end
pub length_over : (x w : List ℕ) (i : ℕ) → i ≤ length x → length (put x i w) ≡ length x + (i + length w - length x)
unfolding put
length_over x w i h = simp (length-append, length-drop) (omega (arith, length-take-le i x h))

at_end : (x w : List ℕ) → put x (length x) w ≡ x ++ w
unfolding put
at_end x w = rw (take_all (length x) x (omega arith), drop_of_length-le x {i = length x + length w} (omega arith), append-nil)

-- the parts f, x and z stand at the buffer's start; b is put over x from its place i on, and z after what x has become
module _ (out f x z b : List ℕ) (i : ℕ) (h : i ≤ length x) where
  abbrev y : List ℕ
  y = put x i b

  abbrev gain : ℕ
  gain = i + length b - length x

  abbrev t : List ℕ
  t = drop (length (f ++ (x ++ z))) out

  put_first : put out 0 (f ++ (x ++ z)) ≡ f ++ (x ++ (z ++ t))
  unfolding put
  put_first = let e : 0 + length (f ++ (x ++ z)) ≡ length (f ++ (x ++ z)) = omega arith in rw e (append_assoc f (x ++ z) t ∙ ap (λ (l : List ℕ). f ++ l) (append_assoc x z t))

  put_second : put (f ++ (x ++ (z ++ t))) (length f + i) b ≡ f ++ (y ++ drop gain (z ++ t))
  put_second = put_after f (x ++ (z ++ t)) b i ∙ ap (λ (l : List ℕ). f ++ l) (put_before x (z ++ t) b i h)

  left : drop (length z) (drop gain (z ++ t)) ≡ drop (length (f ++ (y ++ z))) out
  left =
      let e : gain + length z ≡ length z + gain = omega arith in
      let n : length (f ++ (x ++ z)) + gain ≡ length (f ++ (y ++ z)) = simp length-append (omega (arith, length_over x b i h)) in
      drop-drop (length z) gain (z ++ t) ∙ ap (λ (k : ℕ). drop k (z ++ t)) e ∙ drop-append-add z t gain ∙ drop-drop gain (length (f ++ (x ++ z))) out ∙ ap (λ (k : ℕ). drop k out) n

  put_third : put (f ++ (y ++ drop gain (z ++ t))) (length f + length y) z ≡ f ++ ((y ++ z) ++ drop (length (f ++ (y ++ z))) out)
  put_third =
      let r : List ℕ = drop gain (z ++ t) in
      let k : length y + length z - length y ≡ length z = omega arith in
      put_after f (y ++ r) z (length y)
      ∙ ap (λ (l : List ℕ). f ++ l) (put_before y r z (length y) (omega arith) ∙ rw (k, at_end y z, left))

  all_at_once : f ++ ((y ++ z) ++ drop (length (f ++ (y ++ z))) out) ≡ put out 0 (f ++ (y ++ z))
  unfolding put
  all_at_once = let e : 0 + length (f ++ (y ++ z)) ≡ length (f ++ (y ++ z)) = omega arith in rw e (sym (append_assoc f (y ++ z) (drop (length (f ++ (y ++ z))) out)))

  pub over_part : put (put (put out 0 (f ++ (x ++ z))) (length f + i) b) (length f + length y) z ≡ put out 0 (f ++ (y ++ z))
  over_part =
      ap (λ (l : List ℕ). put (put l (length f + i) b) (length f + length y) z) put_first
      ∙ ap (λ (l : List ℕ). put l (length f + length y) z) put_second
      ∙ put_third
      ∙ all_at_once
