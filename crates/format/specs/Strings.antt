-- FORMAT: Strings.
use Rattle.std.specs.Prelude.{ℕ, ◌+◌, List, [], ◌∷◌, Bool, length, leb}
use Rattle.octets.specs.Numbers.{u16_at}
use Rattle.octets.specs.Characters.{bytes_of}
use Rattle.format.specs.declared.Place.{Place}
use Rattle.format.specs.declared.Fault.TheVariants.{Cut as CUT}
use Rattle.format.specs.Tests.{◌else◌at◌, section, tests, got, Reader, place}

-- a count of characters in two bytes, then so many of them; nothing ends a string but its count
abbrev pub string_length : Bool → List ℕ → ℕ
string_length unicode s = 2 + bytes_of unicode (u16_at s 0)

-- k is the string's number in the listing. Too few bytes: CUT
abbrev pub string : ℕ → Bool → Reader Place
string k unicode p s =
    tests (section k p) (leb 2 (length s) else CUT at 0 ∷ leb (string_length unicode s) (length s) else CUT at 0 ∷ [])
    (got (place (p + 2) (bytes_of unicode (u16_at s 0))) (string_length unicode s))
