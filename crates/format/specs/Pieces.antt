-- FORMAT: LinkInfo pieces, LinkInfo overlaps. What an offset field leads to, counted from the start of the structure that holds the field.
use Rattle.std.specs.Prelude.{ℕ, ◌+◌, List, [], ◌∷◌, ◌++◌, map, Bool, true, not, ◌&&◌, ◌||◌, cond, length, take, drop, leb, eqb}
use Rattle.octets.specs.Numbers.{u32_at}
use Rattle.octets.specs.Characters.{bytes_of, characters, before_zero, has_zero}
use Rattle.format.specs.declared.Place.{Place}
use Rattle.format.specs.declared.Fault.TheVariants.{Piece as PIECE}
use Rattle.format.specs.Tests.{Test, ◌else◌at◌, inside, place, no_place}

-- whether it is present, where its offset field stands and what it holds, its own tests, that it ends within its structure among them, and how many bytes it has
pub record Piece : Type 0 where
  pub present : Bool
  pub field : ℕ
  pub offset : ℕ
  pub own : List Test
  pub size : ℕ

-- ---- strings

-- the first zero character ends a string; units are counted off from the string's own start, wherever that is
abbrev pub text_ends : Bool → List ℕ → Bool
text_ends unicode s = has_zero (characters unicode s)

abbrev pub text_length : Bool → List ℕ → ℕ
text_length unicode s = bytes_of unicode (before_zero (characters unicode s))

-- a string counts with its terminator
abbrev pub text_size : Bool → List ℕ → ℕ
text_size unicode s = text_length unicode s + bytes_of unicode 1

-- i is where the offset field stands, o what it holds
abbrev pub text_tests : ℕ → Bool → List ℕ → List Test
text_tests i unicode s = text_ends unicode s else PIECE at i ∷ []

abbrev pub text_piece : Bool → Bool → List ℕ → ℕ → ℕ → Piece
text_piece present unicode l i o =
    record { present = present; field = i; offset = o; own = text_tests i unicode (drop o l); size = text_size unicode (drop o l) }

-- where its body stands in the file, in which l starts at p
abbrev pub text_place : Bool → Bool → ℕ → List ℕ → ℕ → Place
text_place present unicode p l o = cond present (place (p + o) (text_length unicode (drop o l))) no_place

-- ---- structures

-- s is from the structure on: it says its size in its first four bytes, which lie inside, as all of it does, and it has the least size or more; then its own rules
abbrev pub struct_tests : ℕ → ℕ → ℕ → (List ℕ → List Test) → List ℕ → List Test
struct_tests i o least rules s =
    leb 4 (length s) else PIECE at i
    ∷ leb (u32_at s 0) (length s) else PIECE at i
    ∷ inside o (leb least (u32_at s 0) else PIECE at 0 ∷ rules (take (u32_at s 0) s))

-- ---- offset fields

-- offset fields of absent parts are 0
abbrev pub absent_zero : Bool → ℕ → Bool
absent_zero present o = present || eqb o 0

-- a field that only some structures have, and that ends here, is not cut by the declared size
abbrev pub uncut : Bool → ℕ → List ℕ → Bool
uncut there end l = not there || leb end (length l)

-- ---- the tests of all pieces of a structure

-- a piece that is there does not start in the head, and keeps its own tests
abbrev pub tests_of : ℕ → Piece → List Test
tests_of head x = cond x.present (leb head x.offset else PIECE at x.field ∷ x.own) []

-- each where its offset field stands
abbrev pub each_ok : ℕ → List Piece → List Test
each_ok head [] = []
each_ok head (x ∷ xs) = tests_of head x ++ each_ok head xs

-- the bytes of a piece; an absent one has none, and stands at 0, apart from every other
abbrev pub span : Piece → Place
span x = cond x.present (place x.offset x.size) no_place

-- with the field that leads there
abbrev pub led : Piece → ℕ × Place
led x = (x.field, span x)

abbrev pub apart : Place → Place → Bool
apart x y = leb (x.at + x.len) y.at || leb (y.at + y.len) x.at

abbrev pub apart_from : Place → List Place → Bool
apart_from x [] = true
apart_from x (y ∷ ys) = apart x y && apart_from x ys

-- No two share a byte (house): each is apart from those of the fields before it. Order is free and gaps are allowed
abbrev pub apart_tests : List Place → List (ℕ × Place) → List Test
apart_tests before [] = []
apart_tests before ((i, x) ∷ xs) = apart_from x before else PIECE at i ∷ apart_tests (x ∷ before) xs

abbrev pub piece_tests : ℕ → List Piece → List Test
piece_tests head xs = each_ok head xs ++ apart_tests [] (map led xs)
