-- The fewest digits that hold a number are its decimal digits.
use mathlib.Core.Path.{◌≡◌, ap}
use mathlib.Core.List.{List, [], ◌∷◌, ◌++◌}
use Prim.Native.Nat.{ℕ, zero, suc, ◌+◌, ◌-◌, ◌*◌, ◌/◌, ◌%◌, ◌^◌, ◌≤◌, ◌<◌}
use native.Mathlib.Omega.{arith}
use native.Mathlib.Nat.{pow-succ', pow-le-pow_right, mul_comm, le-div_iff_mul-le, div-lt_iff_lt-mul, mod-eq_of_lt, mod-lt}
use borrow.Author.Tests.{lt-ltb, le-ltb}
use Rattle.format.proofs.Bools.{by_order}
use Rattle.io.specs.Digits.{hex_digit_ascii, IsDigitCount}
use Rattle.io.specs.Digits.{last_digits as io-digits}
use Rattle.lines.specs.Text.{digits, decimal}

glyph_low : (d : ℕ) → d < 10 → hex_digit_ascii d ≡ 48 + d
glyph_low d h = rw (lt-ltb d 10 h)

same : (f k n : ℕ) → suc k ≤ f → n < 10 ^ suc k → (1 < suc k → 10 ^ k ≤ n) → io-digits 10 (suc k) n ≡ digits f n
same (suc f) zero n l h g =
    let s : n < 10 = omega arith in
    rw (lt-ltb n 10 s, mod-eq_of_lt s, lt-ltb n 10 s)
same (suc f) (suc k) n l h g =
    let p : 10 ^ suc k ≡ 10 * 10 ^ k = pow-succ' 10 k in
    let q : 10 ^ suc (suc k) ≡ 10 * 10 ^ suc k = pow-succ' 10 (suc k) in
    let o : 1 ≤ 10 ^ k = pow-le-pow_right {n = 10} (omega arith) {i = 0} {j = k} (omega arith) in
    let least : 10 ^ suc k ≤ n = g (omega arith) in
    let big : 10 ≤ n = omega arith in
    let high : n / 10 < 10 ^ suc k = (div-lt_iff_lt-mul {k = 10} (omega arith)).1 (omega (arith, mul_comm (10 ^ suc k) 10)) in
    let low : 10 ^ k ≤ n / 10 = (le-div_iff_mul-le {k = 10} (omega arith)).1 (omega (arith, mul_comm (10 ^ k) 10)) in
    rw (le-ltb n 10 big, lt-ltb (n % 10) 10 (mod-lt n (omega arith))) (ap (λ (x : List ℕ). x ++ (48 + n % 10) ∷ []) (same f k (n / 10) (omega arith) high (λ m. low)))
same zero k n l h g = absurd (omega arith)

-- twenty digits hold every number of 64 bits
few : (k n : ℕ) → n < 18446744073709551616 → (1 < suc k → 10 ^ k ≤ n) → suc k ≤ 20
few k n h g =
    by_order (suc k) 20 (λ l. l)
    (λ l.
    let p : 10 ^ 20 ≤ 10 ^ k = pow-le-pow_right {n = 10} (omega arith) {i = 20} {j = k} (omega arith) in
    absurd (omega (arith, g (omega arith))))

pub decimal_is : {k n : ℕ} → n < 18446744073709551616 → IsDigitCount 10 1 n k → io-digits 10 k n ≡ decimal n
unfolding decimal
decimal_is {k = zero} l (a, h, g) = absurd (omega arith)
decimal_is {k = suc k} {n} l (a, h, g) =
    let e : suc k - 1 ≡ k = omega arith in
    let least : 1 < suc k → 10 ^ k ≤ n = λ m. rw e at (g m) in
    same 20 k n (few k n l least) h least
