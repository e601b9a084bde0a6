-- The way back without a search: for each unit the one byte whose unit it can be. And each character's other one, if it has one.
use Rattle.std.specs.Prelude.{ℕ, ◌%◌, List, [], ◌∷◌, Option, Some, None, cond, get_or, ltb}
use Rattle.format.specs.Codepage.{unit_of, assigned, byte_of, in_table}

-- by a unit's remainder by 79
unfoldable pub by_remainder : List ℕ
by_remainder =
    0x91 ∷ 0x92 ∷ 0x82 ∷ 0 ∷ 0x93 ∷ 0x94 ∷ 0x84 ∷ 0x83 ∷ 0x86 ∷ 0x87 ∷ 0x95 ∷ 0 ∷ 0
    ∷ 0 ∷ 0x85 ∷ 0 ∷ 0 ∷ 0 ∷ 0 ∷ 0 ∷ 0 ∷ 0x98 ∷ 0x8C ∷ 0x9C ∷ 0x89 ∷ 0
    ∷ 0 ∷ 0 ∷ 0 ∷ 0x99 ∷ 0 ∷ 0 ∷ 0 ∷ 0x8B ∷ 0x9B ∷ 0 ∷ 0x8A ∷ 0x9A ∷ 0
    ∷ 0 ∷ 0 ∷ 0 ∷ 0 ∷ 0 ∷ 0 ∷ 0 ∷ 0 ∷ 0 ∷ 0 ∷ 0 ∷ 0 ∷ 0
    ∷ 0 ∷ 0 ∷ 0 ∷ 0 ∷ 0 ∷ 0 ∷ 0 ∷ 0 ∷ 0x9F ∷ 0 ∷ 0 ∷ 0 ∷ 0
    ∷ 0x8E ∷ 0x9E ∷ 0 ∷ 0 ∷ 0x80 ∷ 0 ∷ 0 ∷ 0 ∷ 0 ∷ 0x96 ∷ 0x97 ∷ 0 ∷ 0
    ∷ 0x88
    ∷ []

unfoldable pub candidate_of : ℕ → ℕ
unfolding by_remainder
candidate_of u = cond (ltb u 256) u (get_or by_remainder (u % 79) 0)

-- the unit of a byte that is assigned, and the byte of a unit that is in the table
abbrev pub unit_if : ℕ → Option ℕ
unit_if b = cond (assigned b) (Some (unit_of b)) None

abbrev pub byte_if : ℕ → Option ℕ
byte_if u = cond (in_table u) (Some (byte_of u)) None
