-- FORMAT: Code page. The published table windows-1252, and texts translated by it.
use Rattle.std.specs.Prelude.{ℕ, zero, suc, ◌+◌, List, [], ◌∷◌, ◌++◌, map, Bool, not, ◌&&◌, cond, get_or, ltb, eqb}
use Rattle.octets.specs.Numbers.{little, same_numbers}
use Rattle.octets.specs.Characters.{units}
use Rattle.format.specs.Writing.{every}

-- ---- the table

-- the mark of the five unassigned bytes; no byte has this unit
abbrev pub unassigned : ℕ
unassigned = 0xFFFF

-- n numbers, each one more than the one before it
abbrev pub up_from : ℕ → ℕ → List ℕ
up_from k zero = []
up_from k (suc n) = k ∷ up_from (k + 1) n

-- the units of the bytes 0x80 to 0x9F, eight to a line
abbrev pub middle_units : List ℕ
middle_units =
    0x20AC ∷ unassigned ∷ 0x201A ∷ 0x0192 ∷ 0x201E ∷ 0x2026 ∷ 0x2020 ∷ 0x2021
    ∷ 0x02C6 ∷ 0x2030 ∷ 0x0160 ∷ 0x2039 ∷ 0x0152 ∷ unassigned ∷ 0x017D ∷ unassigned
    ∷ unassigned ∷ 0x2018 ∷ 0x2019 ∷ 0x201C ∷ 0x201D ∷ 0x2022 ∷ 0x2013 ∷ 0x2014
    ∷ 0x02DC ∷ 0x2122 ∷ 0x0161 ∷ 0x203A ∷ 0x0153 ∷ unassigned ∷ 0x017E ∷ 0x0178
    ∷ []

-- the unit of each byte from 0 to 255; outside those lines it is the byte's own number
unfoldable pub windows1252 : List ℕ
windows1252 = up_from 0 0x80 ++ (middle_units ++ up_from 0xA0 0x60)

-- ---- there and back, character by character

unfoldable pub unit_of : ℕ → ℕ
unfolding windows1252
unit_of b = get_or windows1252 b unassigned

abbrev pub assigned : ℕ → Bool
assigned b = not (eqb (unit_of b) unassigned)

-- what stands for the byte of a unit that is not in the table
abbrev pub no_byte : ℕ
no_byte = 256

-- where a unit stands first in a row of them; the row's length if it does not
abbrev pub index_of : ℕ → List ℕ → ℕ
index_of u [] = 0
index_of u (x ∷ xs) = cond (eqb u x) 0 (suc (index_of u xs))

unfoldable pub byte_of : ℕ → ℕ
unfolding windows1252
byte_of u = cond (eqb u unassigned) no_byte (index_of u windows1252)

abbrev pub in_table : ℕ → Bool
in_table u = ltb (byte_of u) no_byte

-- ---- texts

-- a byte text as Unicode
unfoldable pub to_units : List ℕ → List ℕ
unfolding unit_of
to_units [] = []
to_units (b ∷ x) = little 2 (unit_of b) ++ to_units x

abbrev pub all_assigned : List ℕ → Bool
all_assigned x = every (map assigned x)

-- a Unicode text as bytes
unfoldable pub to_bytes : List ℕ → List ℕ
unfolding byte_of
to_bytes x = map byte_of (units x)

abbrev pub all_in_table : List ℕ → Bool
all_in_table x = every (map in_table (units x))

-- y is the translation of the byte text x
abbrev pub is_translation : List ℕ → List ℕ → Bool
is_translation x y = all_assigned x && same_numbers y (to_units x)
