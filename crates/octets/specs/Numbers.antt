-- FORMAT: Bytes and numbers. A number has its lowest byte first.
use Rattle.std.specs.Prelude.{ℕ, zero, suc, ◌+◌, ◌*◌, ◌/◌, ◌%◌, ◌<◌, List, [], ◌∷◌, Bool, true, false, ◌&&◌, take, drop, get_or, eqb}

-- every element is a byte
pub record Bytes (s : List ℕ) : Type 0 where
  pub at : (i : ℕ) → get_or s i 0 < 256

-- the number that these bytes are, the lowest first
unfoldable pub number : List ℕ → ℕ
number [] = 0
number (a ∷ l) = a + 256 * number l

-- the number in the w bytes from the place i on; past the end bytes count as 0
unfoldable pub number_at : ℕ → List ℕ → ℕ → ℕ
unfolding number
number_at w s i = number (take w (drop i s))

abbrev pub u16_at : List ℕ → ℕ → ℕ
u16_at s i = number_at 2 s i

abbrev pub u32_at : List ℕ → ℕ → ℕ
u32_at s i = number_at 4 s i

abbrev pub u64_at : List ℕ → ℕ → ℕ
u64_at s i = number_at 8 s i

-- the w lowest bytes of a number, the lowest first
unfoldable pub little : ℕ → ℕ → List ℕ
little zero n = []
little (suc w) n = n % 256 ∷ little w (n / 256)

-- two rows of numbers are equal, one by one
abbrev pub same_numbers : List ℕ → List ℕ → Bool
same_numbers [] [] = true
same_numbers [] (y ∷ ys) = false
same_numbers (x ∷ xs) [] = false
same_numbers (x ∷ xs) (y ∷ ys) = eqb x y && same_numbers xs ys
