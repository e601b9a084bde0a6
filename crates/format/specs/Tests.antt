-- FORMAT: Order of reading. How a section is read: tests in the order given, each with the field that it is of and the number that its failure gives; then what was read, and how many bytes it took.
use Rattle.std.specs.Prelude.{ℕ, ◌+◌, ◌/◌, ◌%◌, ◌^◌, List, [], ◌∷◌, Bool, true, false, ◌&&◌, cond, drop, eqb}
use Rattle.format.specs.declared.Fault.{Fault}
use Rattle.format.specs.declared.Place.{Place}
use Rattle.format.specs.declared.Spot.{Spot}

-- a section by its number in the listing and its first byte
pub record Site : Type 0 where
  pub number : ℕ
  pub start : ℕ

abbrev pub section : ℕ → ℕ → Site
section k p = record { number = k; start = p }

-- what is refused before any section is looked at, and what is no reading
abbrev pub no_section : Site
no_section = section 0 0

-- where a refusal stands: the section at fault, and its field that stands i bytes after its start
abbrev pub spot_at : Site → ℕ → Spot
spot_at w i = record { section = w.number; start = w.start; position = w.start + i }

-- what was read and how many bytes it took; or a fault and where it stands
pub data Outcome (A : Type 0) : Type 0 where
  got : A → ℕ → Outcome A
  refused : Fault → Spot → Outcome A

-- bit k of a number
abbrev pub bit : ℕ → ℕ → Bool
bit k n = eqb (n / 2 ^ k % 2) 1

abbrev pub one_or_0 : Bool → ℕ
one_or_0 b = cond b 1 0

abbrev pub place : ℕ → ℕ → Place
place a n = record { at = a; len = n }

-- reading puts zeros for what is absent
abbrev pub no_place : Place
no_place = place 0 0

-- ---- tests

-- the field is counted from the start of the section
pub record Test : Type 0 where
  pub holds : Bool
  pub fault : Fault
  pub field : ℕ

infix 90 ◌else◌at◌
abbrev pub ◌else◌at◌ : Bool → Fault → ℕ → Test
b else f at i = record { holds = b; fault = f; field = i }

-- the first test that fails decides
abbrev pub tests : {A : Type 0} → Site → List Test → Outcome A → Outcome A
tests w [] r = r
tests w (t ∷ ts) r = cond t.holds (tests w ts r) (refused t.fault (spot_at w t.field))

-- all tests of a list as one
abbrev pub all : List Test → Bool
all [] = true
all (t ∷ ts) = t.holds && all ts

-- the tests of a structure that starts o bytes after the start of what holds it
abbrev pub inside : ℕ → List Test → List Test
inside o [] = []
inside o (t ∷ ts) = t.holds else t.fault at (o + t.field) ∷ inside o ts

-- ---- sections one after another

-- a reader is given the position and the bytes from there on
abbrev pub Reader : Type 0 → Type 0
Reader A = ℕ → List ℕ → Outcome A

abbrev pub and_then : {A B : Type 0} → Outcome A → (A → ℕ → Outcome B) → Outcome B
and_then (got a n) f = f a n
and_then (refused e p) f = refused e p

-- Q reads where P ended, and may go by what P read
abbrev pub chain : {A B : Type 0} → Reader A → (A → Reader B) → Reader (A × B)
chain P Q p s = and_then (P p s) (λ a n. and_then (Q a (p + n) (drop n s)) (λ b m. got (a, b) (n + m)))

infixr 60 ◌then◌
abbrev pub ◌then◌ : {A B : Type 0} → Reader A → Reader B → Reader (A × B)
P then Q = chain P (λ a. Q)

-- a section that is there or not; d stands for what is absent
abbrev pub optional : {A : Type 0} → Bool → A → Reader A → Reader A
optional true d P = P
optional false d P = λ p s. got d 0
