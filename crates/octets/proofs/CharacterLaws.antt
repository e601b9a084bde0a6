-- The first zero, over both kinds of character.
use mathlib.Core.Path.{◌≡◌, refl, ap}
use mathlib.Core.List.{List, [], ◌∷◌, ◌++◌}
use mathlib.Core.Bool.{Bool, true, false}
use Prim.Native.Nat.{ℕ, zero, suc, ◌+◌, ◌*◌, ◌≤◌}
use native.Mathlib.Omega.{arith}
use lib.ListN.{length, take}
use lib.Seq.{take-nil}
use Rattle.octets.specs.Characters.{bytes_of, units, characters, before_zero}

-- ---- before the first zero

pub before_le : (l : List ℕ) → before_zero l ≤ length l
unfolding before_zero
before_le [] = omega arith
before_le (zero ∷ l) = omega arith
before_le (suc a ∷ l) = omega (arith, before_le l)

-- what stands before the first zero holds none
pub before_take : (l : List ℕ) → before_zero (take (before_zero l) l) ≡ before_zero l
unfolding before_zero
before_take [] = refl
before_take (zero ∷ l) = refl
before_take (suc a ∷ l) = ap suc (before_take l)

-- a list without a zero, and a zero after it
pub before_append : (l r : List ℕ) → before_zero l ≡ length l → before_zero (l ++ 0 ∷ r) ≡ length l
unfolding before_zero
before_append [] r e = refl
before_append (zero ∷ l) r e = absurd (omega arith)
before_append (suc a ∷ l) r e = ap suc (before_append l r (omega arith))

-- ---- characters of one byte or of two

pub characters_fit : (u : Bool) (s : List ℕ) → bytes_of u (length (characters u s)) ≤ length s
unfolding units
characters_fit false s = omega arith
characters_fit true [] = omega arith
characters_fit true (a ∷ []) = omega arith
characters_fit true (a ∷ b ∷ s) = omega (arith, characters_fit true s)

two : (k : ℕ) → 2 * suc k ≡ suc (suc (2 * k))
two k = omega arith

units-take : (k : ℕ) (s : List ℕ) → units (take (2 * k) s) ≡ take k (units s)
unfolding units
units-take zero s = refl
units-take (suc k) [] = ap units (take-nil (2 * suc k))
units-take (suc k) (a ∷ []) = rw (two k)
units-take (suc k) (a ∷ b ∷ s) = rw (two k) (ap (λ (l : List ℕ). (a + 256 * b) ∷ l) (units-take k s))

-- the first k characters are those of the bytes of k characters
pub characters-take : (u : Bool) (k : ℕ) (s : List ℕ) → characters u (take (bytes_of u k) s) ≡ take k (characters u s)
characters-take true k s = units-take k s
characters-take false k s = refl

units-append : (x y : List ℕ) → 2 * length (units x) ≡ length x → units (x ++ y) ≡ units x ++ units y
unfolding units
units-append [] y e = refl
units-append (a ∷ []) y e = absurd (omega arith)
units-append (a ∷ b ∷ x) y e = ap (λ (l : List ℕ). (a + 256 * b) ∷ l) (units-append x y (omega arith))

-- after whole characters the next ones begin
pub characters-append : (u : Bool) (x y : List ℕ) → bytes_of u (length (characters u x)) ≡ length x → characters u (x ++ y) ≡ characters u x ++ characters u y
characters-append true x y e = units-append x y e
characters-append false x y e = refl

pub bytes_of-le : (u : Bool) {m n : ℕ} → m ≤ n → bytes_of u m ≤ bytes_of u n
bytes_of-le true h = omega arith
bytes_of-le false h = h

pub bytes_of-add : (u : Bool) (m n : ℕ) → bytes_of u (m + n) ≡ bytes_of u m + bytes_of u n
bytes_of-add true m n = omega arith
bytes_of-add false m n = refl

pub bytes_of_same : (u : Bool) {m n : ℕ} → bytes_of u m ≡ bytes_of u n → m ≡ n
bytes_of_same true e = omega arith
bytes_of_same false e = e

units_whole : (x : List ℕ) (n : ℕ) → length x ≡ 2 * n → length (units x) ≡ n
unfolding units
units_whole [] n e = omega arith
units_whole (a ∷ []) n e = absurd (omega arith)
units_whole (a ∷ b ∷ x) zero e = absurd (omega arith)
units_whole (a ∷ b ∷ x) (suc n) e = ap suc (units_whole x n (omega arith))

-- the bytes of n characters hold n characters
pub characters_whole : (u : Bool) (x : List ℕ) (n : ℕ) → length x ≡ bytes_of u n → length (characters u x) ≡ n
characters_whole true x n e = units_whole x n e
characters_whole false x n e = e
