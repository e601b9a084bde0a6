-- What a section needs: no less when bytes are added, and the same when they are zeros.
use mathlib.Core.Path.{◌≡◌, refl}
use mathlib.Core.List.{List, [], ◌∷◌, ◌++◌}
use mathlib.Core.Bool.{Bool, true, false, cond}
use Prim.Native.Nat.{ℕ, zero, suc, ◌+◌, ◌≤◌}
use native.Mathlib.Omega.{arith}
use lib.ListN.{take, replicate}
use lib.Dec.{eqb}
use borrow.Author.Tests.{lt-ltb, le-ltb}
use Rattle.octets.specs.Numbers.{number, number_at, u16_at, u32_at}
use Rattle.octets.specs.Characters.{bytes_of}
use Rattle.format.specs.Positions.{is_string}
use Rattle.format.proofs.Bools.{by_order}
use Rattle.refusals.specs.Due.{size_or_field, needed}

-- ---- numbers with missing bytes

more_number : (w : ℕ) (b c : List ℕ) → number (take w b) ≤ number (take w (b ++ c))
unfolding number
more_number zero b c = omega arith
more_number (suc w) [] c = omega arith
more_number (suc w) (a ∷ b) c = omega (arith, more_number w b c)

number_more : (w : ℕ) (b c : List ℕ) → number_at w b 0 ≤ number_at w (b ++ c) 0
unfolding number_at
number_more w b c = more_number w b c

zeros_number : (w n : ℕ) → number (take w (replicate n 0)) ≡ 0
unfolding number
zeros_number zero n = refl
zeros_number (suc w) zero = refl
zeros_number (suc w) (suc n) = omega (arith, zeros_number w n)

filled_number : (w : ℕ) (b : List ℕ) (n : ℕ) → number (take w (b ++ replicate n 0)) ≡ number (take w b)
unfolding number
filled_number zero b n = refl
filled_number (suc w) [] n = zeros_number (suc w) n
filled_number (suc w) (a ∷ b) n = omega (arith, filled_number w b n)

number_filled : (w : ℕ) (b : List ℕ) (n : ℕ) → number_at w (b ++ replicate n 0) 0 ≡ number_at w b 0
unfolding number_at
number_filled w b n = filled_number w b n

-- ---- needs

size_more : (least n m : ℕ) → 4 ≤ least → n ≤ m → size_or_field least n ≤ size_or_field least m
size_more least n m h l =
    by_order least m
    (λ a. by_order least n (λ b. rw (le-ltb m least a, le-ltb n least b) l) (λ b. rw (le-ltb m least a, lt-ltb n least b) (omega arith)))
    (λ a. rw (lt-ltb m least a, lt-ltb n least (omega arith)) (omega arith))

count_more : (u : Bool) (n m : ℕ) → n ≤ m → 2 + bytes_of u n ≤ 2 + bytes_of u m
count_more true n m h = omega arith
count_more false n m h = omega arith

pub needed_more : (u : Bool) (k : ℕ) (b c : List ℕ) → needed u k b ≤ needed u k (b ++ c)
needed_more u k b c = go (eqb k 0) (eqb k 1) (eqb k 2) (is_string k) (eqb k 9)
  where
    by : Bool → Bool → Bool → Bool → Bool → List ℕ → ℕ
    by h i n t e b = cond h 76 (cond i (2 + u16_at b 0) (cond n (size_or_field 0x1C (u32_at b 0)) (cond t (2 + bytes_of u (u16_at b 0)) (cond e (size_or_field 8 (u32_at b 0)) 0))))

    go : (h i n t e : Bool) → by h i n t e b ≤ by h i n t e (b ++ c)
    go true i n t e = omega arith
    go false true n t e = omega (arith, number_more 2 b c)
    go false false true t e = size_more 0x1C (u32_at b 0) (u32_at (b ++ c) 0) (omega arith) (number_more 4 b c)
    go false false false true e = count_more u (u16_at b 0) (u16_at (b ++ c) 0) (number_more 2 b c)
    go false false false false true = size_more 8 (u32_at b 0) (u32_at (b ++ c) 0) (omega arith) (number_more 4 b c)
    go false false false false false = omega arith

pub needed_filled : (u : Bool) (k : ℕ) (b : List ℕ) (n : ℕ) → needed u k (b ++ replicate n 0) ≡ needed u k b
needed_filled u k b n = rw (number_filled 2 b n, number_filled 4 b n)
