-- A search for a zero character: what it answers, and what it passes at once.
use Rattle.std.specs.Prelude.{◌≡◌, List, Bool, true, false, not, cond, if◌then◌else◌, ◌&&◌, ℕ, zero, suc, ◌+◌, ◌*◌, ◌/◌, ◌≤◌, length, drop, eqb, get_or, Option, Some, None}
use Rattle.octets.specs.Steps.Cursors.{inside}
use Rattle.octets.specs.Characters.{bytes_of, characters, before_zero, has_zero}

-- how many characters stand before the first zero one from the place i on
abbrev pub before : Bool → List ℕ → ℕ → ℕ
before u s i = before_zero (characters u (drop i s))

-- how many of these characters stand before the first zero one; nothing where none is zero
abbrev pub first_zero : List ℕ → Option ℕ
first_zero l = if has_zero l then Some (before_zero l) else None

-- how many characters a scan from the place i on finds before the first zero one; nothing where none is zero
abbrev pub zero_from : Bool → List ℕ → ℕ → Option ℕ
zero_from u s i = first_zero (characters u (drop i s))

-- where the first zero character from the place i on stands; nothing where none is zero
abbrev pub zero_at : Bool → List ℕ → ℕ → Option ℕ
zero_at u s i = if has_zero (characters u (drop i s)) then Some (i + bytes_of u (before u s i)) else None

-- the same, and the length where there is none
unfoldable pub zero_place : Bool → List ℕ → ℕ → ℕ
zero_place u s i = cond (has_zero (characters u (drop i s))) (i + bytes_of u (before u s i)) (length s)

-- the first zero character from the place i on stands at the place p
pub record FirstZero (u : Bool) (s : List ℕ) (i p : ℕ) : Type 0 where
  pub ends : has_zero (characters u (drop i s)) ≡ true
  pub text : i + bytes_of u (before u s i) ≡ p
  pub inside : p + bytes_of u 1 ≤ length s

-- ---- numbers and values of the answers

-- 0 OK, or 2 CUT: the bytes end before a zero does
unfoldable pub zero_number : Option ℕ → ℕ
zero_number (Some n) = 0
zero_number None = 2

-- how many characters stand before it
unfoldable pub zero_value : Option ℕ → ℕ
zero_value (Some n) = n
zero_value None = 0

-- ---- many characters at once

-- how many whole characters n bytes hold
abbrev pub characters_in : Bool → ℕ → ℕ
characters_in true n = n / 2
characters_in false n = n

-- none of n characters from number k on is zero
unfoldable pub others : List ℕ → ℕ → ℕ → Bool
others l k zero = true
others l k (suc n) = others l k n && not (eqb (get_or l (k + n) 0) 0)

-- past all whole sixteens of bytes in front of the first that has a zero character
unfoldable pub sixteens : Bool → List ℕ → ℕ → ℕ
sixteens u s i = i + bytes_of u (before u s i) / 16 * 16

-- the first character of the first whole sixteen bytes that have a zero one
abbrev pub sixteen_at : Bool → List ℕ → Option ℕ
sixteen_at u s = if inside s (sixteens u s 0) 16 then Some (characters_in u (sixteens u s 0)) else None
