-- FORMAT: Refusals. Where a section is due, how many bytes it needs for not being cut, what beginnings are refused with, and with which numbers.
use Rattle.std.specs.Prelude.{ℕ, ◌+◌, ◌≡◌, List, [], ◌∷◌, Bool, cond, take, drop, ltb, eqb, Err}
use Rattle.octets.specs.Numbers.{u16_at, u32_at}
use Rattle.octets.specs.Characters.{bytes_of}
use Rattle.format.specs.declared.Profile.{Profile}
use Rattle.format.specs.declared.Fault.{Fault}
use Rattle.format.specs.declared.Fault.TheVariants.{Cut as CUT}
use Rattle.format.specs.Presence.{strings_unicode}
use Rattle.format.specs.Positions.{is_string}
use Rattle.format.specs.Shortcut.{faulted}
use Rattle.format.specs.Demands.{Refuses}

-- in s the section k is due at q: the first q bytes alone are cut, and all that they lack begins with that section, where they end. 9: a block or the terminal
abbrev pub Due : Profile → List ℕ → ℕ → ℕ → Type 0
Due profile s k q = faulted profile (take q s) ≡ Err (record { fault = CUT; spot = record { section = k; start = q; position = q } })

-- a size that is refused for being below the least needs its four bytes alone
abbrev pub size_or_field : ℕ → ℕ → ℕ
size_or_field least n = cond (ltb n least) 4 n

-- b is the bytes from the start of the section k on; a size or count takes its missing bytes as 0
abbrev pub needed : Bool → ℕ → List ℕ → ℕ
needed unicode k b =
    cond (eqb k 0) 76
    (cond (eqb k 1) (2 + u16_at b 0)
    (cond (eqb k 2) (size_or_field 0x1C (u32_at b 0))
    (cond (is_string k) (2 + bytes_of unicode (u16_at b 0))
    (cond (eqb k 9) (size_or_field 8 (u32_at b 0)) 0))))

-- the first place in the file s by which the section k that starts at q is not cut
abbrev pub needed_to : List ℕ → ℕ → ℕ → ℕ
needed_to s k q = q + needed (strings_unicode (u32_at s 20)) k (drop q s)

-- b, a beginning of a file refused with f at p, is refused so too, or it is cut
pub data Begun (profile : Profile) (b : List ℕ) (f : Fault) (p : ℕ) : Type 0 where
  same : Refuses profile b f p → Begun profile b f p
  cut : (q : ℕ) → Refuses profile b CUT q → Begun profile b f p

-- the numbers that reading gives
abbrev pub numbers_given : List ℕ
numbers_given = 1 ∷ 2 ∷ 3 ∷ 4 ∷ 5 ∷ 6 ∷ 7 ∷ 8 ∷ 9 ∷ 14 ∷ 15 ∷ []
