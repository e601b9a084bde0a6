-- The library's bytes of a number and its number of bytes are those of the definitions, over the width.
use mathlib.Core.Path.{◌≡◌, refl, sym, ap, ◌∙◌}
use mathlib.Core.List.{List, [], ◌∷◌, ◌++◌}
use Prim.Native.Nat.{ℕ, zero, suc, ◌+◌, ◌*◌, ◌/◌, ◌%◌, ◌^◌, ◌≤◌, ◌<◌}
use native.Mathlib.Omega.{arith}
use native.Mathlib.Nat.{mul_comm, pow-suc, div-div-eq-div-mul}
use lib.ListN.{length, take, drop, get_or, length-drop}
use lib.Seq.{take-suc, take-length, length-take-le}
use Rattle.std.specs.Int.{byte_at, byte_worth, bytes_low_first, sum_through}
use Rattle.octets.specs.Numbers.{number, number_at, little}
use Rattle.octets.proofs.NumberLaws.{number-append}

sum_number : (k : ℕ) (l : List ℕ) → k < length l → sum_through (λ i. byte_worth i (get_or l i 0)) k ≡ number (take (suc k) l)
unfolding number
sum_number zero [] h = absurd (omega arith)
sum_number zero (a ∷ l) h = omega arith
sum_number (suc k) l h =
    let b : ℕ = get_or l (suc k) 0 in
    let e : take (suc (suc k)) l ≡ take (suc k) l ++ (b ∷ []) = take-suc l (suc k) 0 h in
    let m : length (take (suc k) l) ≡ suc k = length-take-le (suc k) l (omega arith) in
    let q : b * 256 ^ suc k ≡ 256 ^ suc k * number (b ∷ []) = mul_comm b (256 ^ suc k) ∙ ap (λ (n : ℕ). 256 ^ suc k * n) (omega arith) in
    rw (e, number-append (take (suc k) l) (b ∷ []), m, sum_number k l (omega arith), q)

pub joined : (k : ℕ) (s : List ℕ) (i : ℕ) {x : List ℕ} → x ≡ take (suc k) (drop i s) → i + suc k ≤ length s → sum_through (λ j. byte_worth j (get_or x j 0)) k ≡ number_at (suc k) s i
unfolding number_at
joined k s i {x} e h =
    let l : length x ≡ suc k = ap length e ∙ length-take-le (suc k) (drop i s) (omega (arith, length-drop i s)) in
    let t : take (suc k) x ≡ x = rw (← l) (take-length x) in
    sum_number k x (omega arith) ∙ ap number (t ∙ e)

byte_is : (i n : ℕ) → byte_at i n ≡ n / 256 ^ i % 256
byte_is zero n = omega arith
byte_is (suc i) n = refl

low_bytes : (i k n : ℕ) → bytes_low_first i k n ≡ little k (n / 256 ^ i)
unfolding little
low_bytes i zero n = refl
low_bytes i (suc k) n =
    let e : n / 256 ^ suc i ≡ n / 256 ^ i / 256 = ap (λ (m : ℕ). n / m) (pow-suc 256 i) ∙ sym (div-div-eq-div-mul n (256 ^ i) 256) in
    rw (byte_is i n, low_bytes (suc i) k n, e)

pub parted : (k n : ℕ) → bytes_low_first 0 k n ≡ little k n
parted k n = low_bytes 0 k n ∙ ap (little k) (omega arith)
