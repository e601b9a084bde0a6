-- Numbers and their bytes: there and back, over the width.
use mathlib.Core.Path.{◌≡◌, refl, sym, ap, ◌∙◌}
use mathlib.Core.List.{List, [], ◌∷◌, ◌++◌}
use Prim.Native.Nat.{ℕ, zero, suc, ◌+◌, ◌*◌, ◌/◌, ◌%◌, ◌^◌, ◌≤◌, ◌<◌}
use native.Mathlib.Omega.{arith}
use native.Mathlib.Nat.{zero-add, mod-eq_of_lt, div-eq_of_lt, add-mul-div_left, add-mul-mod_self_left, zero-lt-suc, pow-suc, pow-succ', pow-le-pow_right}
use lib.ListN.{length, get_or, take, drop, length-take, length-drop}
use lib.Seq.{get_or-drop, take-take, drop-drop, take-add, take-append_seam}
use Rattle.octets.specs.Numbers.{Bytes, number, number_at, little}

-- ---- lists of bytes

pub Bytes-nil : Bytes []
Bytes-nil = record { at = λ i. omega arith }

pub Bytes-cons : {x : ℕ} {s : List ℕ} → x < 256 → Bytes s → Bytes (x ∷ s)
Bytes-cons {x} {s} h b = record { at = go }
  where
    go : (i : ℕ) → get_or (x ∷ s) i 0 < 256
    go zero = h
    go (suc i) = b.at i

pub Bytes-tail : {x : ℕ} {s : List ℕ} → Bytes (x ∷ s) → Bytes s
Bytes-tail b = record { at = λ i. b.at (suc i) }

pub Bytes-drop : (n : ℕ) (s : List ℕ) → Bytes s → Bytes (drop n s)
Bytes-drop n s b = record { at = λ i. rw get_or-drop (b.at (n + i)) }

pub Bytes-take : (n : ℕ) (s : List ℕ) → Bytes s → Bytes (take n s)
Bytes-take zero s b = Bytes-nil
Bytes-take (suc n) [] b = Bytes-nil
Bytes-take (suc n) (x ∷ s) b = Bytes-cons (b.at 0) (Bytes-take n s (Bytes-tail b))

pub Bytes-append : (s t : List ℕ) → Bytes s → Bytes t → Bytes (s ++ t)
Bytes-append [] t b c = c
Bytes-append (x ∷ s) t b c = Bytes-cons (b.at 0) (Bytes-append s t (Bytes-tail b) c)

pub Bytes-little : (w n : ℕ) → Bytes (little w n)
unfolding little
Bytes-little zero n = Bytes-nil
Bytes-little (suc w) n = Bytes-cons (omega arith) (Bytes-little w (n / 256))

pub length-little : (w n : ℕ) → length (little w n) ≡ w
unfolding little
length-little zero n = refl
length-little (suc w) n = ap suc (length-little w (n / 256))

-- ---- from the number to its bytes and back

pub number-little : (w n : ℕ) → n < 256 ^ w → number (little w n) ≡ n
unfolding number little
number-little zero n h = omega arith
number-little (suc w) n h =
    let k : n / 256 < 256 ^ w = omega (arith, pow-suc 256 w) in
    ap (λ (m : ℕ). n % 256 + 256 * m) (number-little w (n / 256) k) ∙ omega arith

-- whatever stands after them
pub number_back : (w n : ℕ) (r : List ℕ) → n < 256 ^ w → number_at w (little w n ++ r) 0 ≡ n
unfolding number_at
number_back w n r h =
    let e : take w (little w n ++ r) ≡ little w n = rw length-little at (take-append_seam (little w n) r) in
    ap number e ∙ number-little w n h

-- ---- from bytes to their number and back

pub little-number : (l : List ℕ) → Bytes l → little (length l) (number l) ≡ l
unfolding number little
little-number [] b = refl
little-number (a ∷ l) b =
    let h : a < 256 = b.at 0 in
    let p : (a + 256 * number l) % 256 ≡ a = add-mul-mod_self_left a 256 (number l) ∙ mod-eq_of_lt h in
    let q : (a + 256 * number l) / 256 ≡ number l
    = add-mul-div_left a (number l) (zero-lt-suc 255) ∙ ap (λ (k : ℕ). k + number l) (div-eq_of_lt h) ∙ zero-add (number l) in
    rw (p, q, little-number l (Bytes-tail b))

pub number-lt : (l : List ℕ) → Bytes l → number l < 256 ^ length l
unfolding number
number-lt [] b = omega arith
number-lt (a ∷ l) b =
    let h : a < 256 = b.at 0 in
    let k : number l < 256 ^ length l = number-lt l (Bytes-tail b) in
    omega (arith, pow-suc 256 (length l))

pub number_below : (w : ℕ) (s : List ℕ) (i : ℕ) → Bytes s → number_at w s i < 256 ^ w
unfolding number_at
number_below w s i b =
    let h = number-lt (take w (drop i s)) (Bytes-take w (drop i s) (Bytes-drop i s b)) in
    let k : length (take w (drop i s)) ≤ w = omega (arith, length-take w (drop i s)) in
    omega (arith, pow-le-pow_right {n = 256} (zero-lt-suc 255) k)

-- ---- where a number stands

-- what stands inside the first n elements is there without the others
pub part_inside : (i w n : ℕ) (l : List ℕ) → i + w ≤ n → take w (drop i (take n l)) ≡ take w (drop i l)
part_inside zero w n l h = take-take w n l (omega arith)
part_inside (suc i) w zero l h = absurd (omega arith)
part_inside (suc i) w (suc n) [] h = refl
part_inside (suc i) w (suc n) (x ∷ l) h = part_inside i w n l (omega arith)

-- a number depends on its own bytes alone
pub number_same : (w n : ℕ) (s t : List ℕ) (i : ℕ) → take n s ≡ take n t → i + w ≤ n → number_at w s i ≡ number_at w t i
unfolding number_at
number_same w n s t i e h =
    ap number (sym (part_inside i w n s h) ∙ ap (λ (l : List ℕ). take w (drop i l)) e ∙ part_inside i w n t h)

-- a number of a part is a number of the whole
pub number_drop : (w p : ℕ) (s : List ℕ) (i : ℕ) → number_at w (drop p s) i ≡ number_at w s (p + i)
unfolding number_at
number_drop w p s i = rw drop-drop

-- ---- a wider number is two narrower ones

pub number-append : (l r : List ℕ) → number (l ++ r) ≡ number l + 256 ^ length l * number r
unfolding number
number-append [] r = omega arith
number-append (a ∷ l) r = rw (number-append l r, pow-succ' 256 (length l)) (omega arith)

pub number_split : (a b : ℕ) (s : List ℕ) (i : ℕ) → i + a ≤ length s → number_at (a + b) s i ≡ number_at a s i + 256 ^ a * number_at b s (i + a)
unfolding number_at
number_split a b s i h =
    let k : length (take a (drop i s)) ≡ a = length-take a (drop i s) ∙ omega (arith, length-drop i s) in
    ap number (take-add a b (drop i s)) ∙ number-append (take a (drop i s)) (take b (drop a (drop i s))) ∙ rw (k, drop-drop a i s)

-- the lowest digit of a number to the base k, and the rest
pub digits : (k x y n : ℕ) → x < k → 0 < k → x + k * y ≡ n → (x ≡ n % k) × (y ≡ n / k)
digits k x y n h z e =
    let p : (x + k * y) % k ≡ x = add-mul-mod_self_left x k y ∙ mod-eq_of_lt h in
    let q : (x + k * y) / k ≡ y = add-mul-div_left x y z ∙ ap (λ (m : ℕ). m + y) (div-eq_of_lt h) ∙ zero-add y in
    (sym p ∙ ap (λ (m : ℕ). m % k) e, sym q ∙ ap (λ (m : ℕ). m / k) e)
