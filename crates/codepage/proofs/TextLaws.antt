-- Texts character by character: what is left to test after i of them.
use mathlib.Core.Path.{◌≡◌, refl, sym, ap, ◌∙◌}
use mathlib.Core.List.{List, [], ◌∷◌, map}
use mathlib.Core.Bool.{Bool, true, false, ◌&&◌, cond}
use Rattle.std.specs.Prelude.{Some, None}
use Prim.Native.Nat.{ℕ, zero, suc, ◌+◌, ◌*◌, ◌/◌, ◌%◌, ◌<◌}
use native.Mathlib.Omega.{arith}
use lib.ListN.{length, get_or}
use lib.Dec.{eqb}
use borrow.Author.Tests.{eqb-true, eq-eqb, ne_eqb}
use Rattle.octets.specs.Numbers.{Bytes, number, number_at, u16_at, little, same_numbers}
use Rattle.octets.specs.Characters.{units}
use Rattle.octets.proofs.NumberLaws.{number_drop, Bytes-tail}
use Rattle.format.specs.Writing.{every}
use Rattle.format.specs.Codepage.{unit_of, assigned, in_table, to_units, all_assigned, all_in_table, is_translation}
use Rattle.format.proofs.Bools.{and-true, and_both, and_assoc, and_no, same_truth}
use Rattle.codepage.specs.Steps.Candidates.{unit_if}
use Rattle.format.proofs.CodepageLaws.{unit_small, units_long, same_equal}

-- ---- the units of a text by their places

pub units_count : (x : List ℕ) → length (units x) ≡ length x / 2
unfolding units
units_count [] = refl
units_count (a ∷ []) = refl
units_count (a ∷ b ∷ x) = omega (arith, units_count x)

pub unit_at : (x : List ℕ) (i : ℕ) → i < length x / 2 → get_or (units x) i 0 ≡ u16_at x (2 * i)
unfolding units number_at number
unit_at [] i h = absurd (omega arith)
unit_at (a ∷ []) i h = absurd (omega arith)
unit_at (a ∷ b ∷ x) zero h = omega arith
unit_at (a ∷ b ∷ x) (suc i) h =
    let e : 2 * suc i ≡ 2 + 2 * i = omega arith in
    unit_at x i (omega arith) ∙ rw e (number_drop 2 2 (a ∷ b ∷ x) (2 * i))

-- ---- a test of every character

module _ (f : ℕ → Bool) where
  every_each : (xs : List ℕ) → ((j : ℕ) → j < length xs → f (get_or xs j 0) ≡ true) → true ≡ every (map f xs)
  every_each [] h = refl
  every_each (x ∷ xs) h = every_each xs (λ j k. h (suc j) (omega arith)) ∙ sym (rw (h 0 (omega arith)))

  every_one : (xs : List ℕ) (j : ℕ) → j < length xs → f (get_or xs j 0) ≡ false → false ≡ every (map f xs)
  every_one [] j h e = absurd (omega arith)
  every_one (x ∷ xs) zero h e = sym (rw e)
  every_one (x ∷ xs) (suc j) h e = sym (ap (λ (t : Bool). f x && t) (sym (every_one xs j (omega arith) e)) ∙ and_no (f x))

pub assigned_each : (x : List ℕ) → ((j : ℕ) → j < length x → assigned (get_or x j 0) ≡ true) → true ≡ all_assigned x
assigned_each = every_each assigned

pub assigned_one : (x : List ℕ) (j : ℕ) → j < length x → assigned (get_or x j 0) ≡ false → false ≡ all_assigned x
assigned_one = every_one assigned

module _ (x : List ℕ) where
  inside : (i : ℕ) → i < length x / 2 → i < length (units x)
  inside i h = omega (arith, units_count x)

  pub known_each : ((j : ℕ) → j < length x / 2 → in_table (u16_at x (2 * j)) ≡ true) → true ≡ all_in_table x
  known_each h = every_each in_table (units x) (λ j k. let i : j < length x / 2 = omega (arith, units_count x) in rw (unit_at x j i) (h j i))

  pub known_one : (j : ℕ) → j < length x / 2 → in_table (u16_at x (2 * j)) ≡ false → false ≡ all_in_table x
  known_one j h e = every_one in_table (units x) j (inside j h) (rw (unit_at x j h) e)

-- ---- a translation

-- a unit by its two bytes
two_bytes : (a b u : ℕ) → a < 256 → b < 256 → u < 65536 → (eqb a (u % 256) && eqb b (u / 256 % 256)) ≡ eqb (a + 256 * b) u
two_bytes a b u h k l =
    same_truth (eqb a (u % 256) && eqb b (u / 256 % 256)) (eqb (a + 256 * b) u)
    (λ e.
    let (p, q) = and-true (eqb a (u % 256)) (eqb b (u / 256 % 256)) e in
    let r : a ≡ u % 256 = eqb-true a (u % 256) p in
    let s : b ≡ u / 256 % 256 = eqb-true b (u / 256 % 256) q in
    eq-eqb (a + 256 * b) u (omega arith))
    (λ e.
    let r : a + 256 * b ≡ u = eqb-true (a + 256 * b) u e in
    and_both (eqb a (u % 256)) (eqb b (u / 256 % 256)) (eq-eqb a (u % 256) (omega arith)) (eq-eqb b (u / 256 % 256) (omega arith)))

regroup : (p a q r s : Bool) → ((p && a) && (q && (r && s))) ≡ ((p && (q && r)) && (a && s))
regroup true true q r s = sym (and_assoc q r s)
regroup true false true true s = refl
regroup true false true false s = refl
regroup true false false r s = refl
regroup false a q r s = refl

agrees : ℕ → ℕ → Bool
agrees b u = assigned b && eqb u (unit_of b)

-- the first character, and the others
translation_next : (b c d : ℕ) (x y : List ℕ) → c < 256 → d < 256 → is_translation (b ∷ x) (c ∷ d ∷ y) ≡ (agrees b (c + 256 * d) && is_translation x y)
unfolding to_units little agrees
translation_next b c d x y h k =
    rw (← two_bytes c d (unit_of b) h k (unit_small b))
    (regroup (assigned b) (all_assigned x) (eqb c (unit_of b % 256)) (eqb d (unit_of b / 256 % 256)) (same_numbers y (to_units x)))

agrees_if : (b u : ℕ) → unit_if b ≡ Some u → agrees b u ≡ true
unfolding agrees
agrees_if b u = go (assigned b)
  where
    go : (t : Bool) → cond t (Some (unit_of b)) None ≡ Some u → (t && eqb u (unit_of b)) ≡ true
    go true e = eq-eqb u (unit_of b) (cc)
    go false e = cc

agrees_not : (b u : ℕ) → (unit_if b ≡ Some u → ⊥) → agrees b u ≡ false
unfolding agrees
agrees_not b u = go (assigned b)
  where
    go : (t : Bool) → (cond t (Some (unit_of b)) None ≡ Some u → ⊥) → (t && eqb u (unit_of b)) ≡ false
    go true n = ne_eqb u (unit_of b) (λ e. n (rw e refl))
    go false n = refl

first_unit : (c d : ℕ) (y : List ℕ) → u16_at (c ∷ d ∷ y) 0 ≡ c + 256 * d
unfolding number_at number
first_unit c d y = omega arith

later_unit : (c d : ℕ) (y : List ℕ) (j : ℕ) → u16_at (c ∷ d ∷ y) (2 * suc j) ≡ u16_at y (2 * j)
later_unit c d y j = let e : 2 * suc j ≡ 2 + 2 * j = omega arith in sym (rw e (number_drop 2 2 (c ∷ d ∷ y) (2 * j)))

pub translation_each : (x y : List ℕ) → Bytes y → length y ≡ 2 * length x → ((j : ℕ) → j < length x → unit_if (get_or x j 0) ≡ Some (u16_at y (2 * j))) → true ≡ is_translation x y
unfolding to_units
translation_each [] [] bs l h = refl
translation_each [] (c ∷ y) bs l h = absurd (omega arith)
translation_each (b ∷ x) [] bs l h = absurd (omega arith)
translation_each (b ∷ x) (c ∷ []) bs l h = absurd (omega arith)
translation_each (b ∷ x) (c ∷ d ∷ y) bs l h =
    translation_each x y (Bytes-tail (Bytes-tail bs)) (omega arith) (λ j k. h (suc j) (omega arith) ∙ ap Some (later_unit c d y j))
    ∙ sym (translation_next b c d x y (bs.at 0) (bs.at 1) ∙ rw (agrees_if b (c + 256 * d) (h 0 (omega arith) ∙ ap Some (first_unit c d y))))

pub translation_one : (x y : List ℕ) → Bytes y → length y ≡ 2 * length x → (j : ℕ) → j < length x → (unit_if (get_or x j 0) ≡ Some (u16_at y (2 * j)) → ⊥) → false ≡ is_translation x y
translation_one [] y bs l j h n = absurd (omega arith)
translation_one (b ∷ x) [] bs l j h n = absurd (omega arith)
translation_one (b ∷ x) (c ∷ []) bs l j h n = absurd (omega arith)
translation_one (b ∷ x) (c ∷ d ∷ y) bs l zero h n =
    sym (translation_next b c d x y (bs.at 0) (bs.at 1) ∙ rw (agrees_not b (c + 256 * d) (λ e. n (e ∙ ap Some (sym (first_unit c d y))))))
translation_one (b ∷ x) (c ∷ d ∷ y) bs l (suc j) h n =
    sym
    (translation_next b c d x y (bs.at 0) (bs.at 1)
    ∙ ap (λ (t : Bool). agrees b (c + 256 * d) && t) (sym (translation_one x y (Bytes-tail (Bytes-tail bs)) (omega arith) j (omega arith) (λ e. n (e ∙ ap Some (sym (later_unit c d y j))))))
    ∙ and_no (agrees b (c + 256 * d)))

-- texts of other lengths
pub translation_long : (x y : List ℕ) → (length y ≡ 2 * length x → ⊥) → false ≡ is_translation x y
translation_long x y n = go (is_translation x y) refl
  where
    go : (t : Bool) → is_translation x y ≡ t → false ≡ t
    go true i = absurd (n (ap length (same_equal y (to_units x) (and-true (all_assigned x) (same_numbers y (to_units x)) i).1) ∙ units_long x))
    go false i = refl

-- each character of a text that is all in the table is in it
pub known_at : (x : List ℕ) → all_in_table x ≡ true → (i : ℕ) → i < length x / 2 → {v : ℕ} → v ≡ u16_at x (2 * i) → in_table v ≡ true
known_at x t i h {v} e = rw (e, ← unit_at x i h) (go (units x) i (inside x i h) t)
  where
    go : (us : List ℕ) (i : ℕ) → i < length us → every (map in_table us) ≡ true → in_table (get_or us i 0) ≡ true
    go [] i h t = absurd (omega arith)
    go (u ∷ us) zero h t = (and-true (in_table u) (every (map in_table us)) t).0
    go (u ∷ us) (suc i) h t = go us i (omega arith) (and-true (in_table u) (every (map in_table us)) t).1
