-- FORMAT: Characters and texts. Characters of one byte or, in Unicode, of a 16-bit unit; and the first zero one.
use Rattle.std.specs.Prelude.{ℕ, zero, suc, ◌+◌, ◌*◌, List, [], ◌∷◌, Bool, true, false, length, ltb}

-- how many bytes n characters are
abbrev pub bytes_of : Bool → ℕ → ℕ
bytes_of true n = 2 * n
bytes_of false n = n

-- the 16-bit units, counted from the start; one byte left over is no unit
unfoldable pub units : List ℕ → List ℕ
units [] = []
units (a ∷ []) = []
units (a ∷ b ∷ l) = (a + 256 * b) ∷ units l

-- the characters of a list of bytes
abbrev pub characters : Bool → List ℕ → List ℕ
characters true s = units s
characters false s = s

-- how many elements stand before the first zero
unfoldable pub before_zero : List ℕ → ℕ
before_zero [] = 0
before_zero (zero ∷ l) = 0
before_zero (suc a ∷ l) = suc (before_zero l)

abbrev pub has_zero : List ℕ → Bool
has_zero l = ltb (before_zero l) (length l)
