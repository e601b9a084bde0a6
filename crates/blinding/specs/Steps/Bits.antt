-- Where the texts and blocks stand that the bits are made from.
use Rattle.std.specs.Prelude.{ℕ, ◌+◌, ◌≤◌, ◌≡◌, List, Bool, not, ◌&&◌, ◌||◌, cond, length}
use Rattle.format.specs.declared.Profile.{Profile}
use Rattle.format.specs.declared.Place.{Place}
use Rattle.format.specs.declared.Record.{Record}
use Rattle.format.specs.declared.StoreRow.{StoreRow}
use Rattle.format.specs.Tests.{Outcome, got, refused}
use Rattle.format.specs.Shortcut.{Sections, shortcut}
use Rattle.format.specs.Bodies.{place_in}
use Rattle.format.specs.Target.{has_target, target_text}
use Rattle.format.specs.Key.{part_if, environment}
use Rattle.format.specs.Blind.{says_text, could_name, other_twin, text_in, first_slot, first_twin_slot, first_twin_there, other_target, is_there, other_environment, has_values, blind_bits}

-- the bodies of a record
pub record AllInside (s : List ℕ) (r : Record) : Type 0 where
  pub body : (k : ℕ) → (place_in r k).at + (place_in r k).len ≤ length s

-- a path block stands there, or none
pub record PathAt (s : List ℕ) (b : Place) : Type 0 where
  pub inside : b.at + b.len ≤ length s
  pub long : (b.len ≡ 0 → ⊥) → b.len ≡ 788

-- a path block stands there
pub record PathBlock (s : List ℕ) (b : Place) : Type 0 where
  pub inside : b.at + b.len ≤ length s
  pub long : b.len ≡ 788

-- the key of a shortcut with this record and this environment block names a driver
unfoldable pub names_in : List ℕ → Record → Place → Bool
names_in s r b = says_text (part_if (has_target r) (target_text s r)) || says_text (environment s b)

-- the twin of the target's first text is there and is no translation
unfoldable pub first_twin : List ℕ → Record → Bool
first_twin s r = other_twin (first_twin_there r) (text_in s r (first_slot r)) (text_in s r (first_twin_slot r))

-- the bits by the record, where the blocks A0000001, A0000006 and A000000C stand, and the rows of the store
unfoldable pub bits_from : List ℕ → Record → Place → Place → Place → List StoreRow → ℕ
unfolding names_in
bits_from s r environment darwin items rows =
    cond (not (names_in s r environment) && could_name r) 1 0
    + cond (other_target s r) 2 0
    + cond (other_environment s environment) 4 0
    + cond (is_there darwin || is_there items) 8 0
    + cond (has_values rows) 16 0

-- the bits of an accepted shortcut
abbrev pub bits_by : List ℕ → Outcome Sections → ℕ
bits_by s (got c n) = blind_bits s c
bits_by s (refused f p) = 0

unfoldable pub bits_in : Profile → List ℕ → ℕ
unfolding shortcut
bits_in profile s = bits_by s (shortcut profile s)
