-- What clear bits leave, and that translations are joined as their byte texts are.
use mathlib.Core.Path.{◌≡◌, refl, sym, ap, ◌∙◌}
use mathlib.Core.List.{List, [], ◌∷◌, ◌++◌, map, map-append}
use mathlib.Core.Bool.{Bool, true, false, not, ◌&&◌, ◌||◌, cond}
use Prim.Native.Nat.{ℕ, zero, suc, ◌+◌, ◌*◌, ◌-◌, ◌%◌, ◌≤◌, ◌<◌}
use native.Mathlib.Omega.{arith}
use lib.ListN.{length, get_or, length-map, get_or-map}
use lib.Dec.{eqb}
use borrow.Author.Tests.{eqb-true, eq-eqb}
use Rattle.octets.specs.Numbers.{same_numbers}
use Rattle.format.specs.Tests.{one_or_0}
use Rattle.format.specs.Target.{separated, backslash, separator, joined}
use Rattle.format.specs.Shortcut.{Sections, record_of}
use Rattle.format.specs.Key.{part_if, key_of}
use Rattle.format.specs.StoreList.{rows_of}
use Rattle.format.specs.Codepage.{unassigned, windows1252, unit_of, assigned, byte_of, to_units, all_assigned, is_translation}
use Rattle.format.specs.Moving.{translated_part}
use Rattle.format.specs.Blind.{nameless, other_twin, other_target, block_of, is_there, other_environment, has_values, blind_bits, is_told}
use Rattle.format.proofs.Bools.{and-true, same_truth, by_order, clash}
use Rattle.format.proofs.CodepageLaws.{unit_beyond, assigned_back, same_equal}

-- ---- the bits

weighed : (b : Bool) (n : ℕ) → cond b n 0 ≡ n * one_or_0 b
weighed true n = omega arith
weighed false n = omega arith

one_most : (b : Bool) → one_or_0 b ≤ 1
one_most true = omega arith
one_most false = omega arith

not_one : (b : Bool) → one_or_0 b ≡ 0 → b ≡ false
not_one true e = absurd (omega arith)
not_one false e = refl

pub record Clear (p q e : Bool) : Type 0 where
  pub named : p ≡ false
  pub target : q ≡ false
  pub environment : e ≡ false

pub clear : (p q e x y : Bool) → is_told (cond p 1 0 + cond q 2 0 + cond e 4 0 + cond x 8 0 + cond y 16 0) ≡ true → Clear p q e
clear p q e x y h =
    let t : (cond p 1 0 + cond q 2 0 + cond e 4 0 + cond x 8 0 + cond y 16 0) % 8 ≡ 0 = eqb-true ((cond p 1 0 + cond q 2 0 + cond e 4 0 + cond x 8 0 + cond y 16 0) % 8) 0 h in
    let n : (one_or_0 p + 2 * one_or_0 q + 4 * one_or_0 e + 8 * one_or_0 x + 16 * one_or_0 y) % 8 ≡ 0
    = omega (arith, t, weighed p 1, weighed q 2, weighed e 4, weighed x 8, weighed y 16) in
    record {
      named = not_one p (omega (arith, n, one_most p, one_most q, one_most e));
      target = not_one q (omega (arith, n, one_most p, one_most q, one_most e));
      environment = not_one e (omega (arith, n, one_most p, one_most q, one_most e));
    }

-- no more than all of them
sum_few : (p q e x y : Bool) → cond p 1 0 + cond q 2 0 + cond e 4 0 + cond x 8 0 + cond y 16 0 ≤ 31
sum_few p q e x y =
    omega (arith, weighed p 1, weighed q 2, weighed e 4, weighed x 8, weighed y 16, one_most p, one_most q, one_most e, one_most x, one_most y)

pub bits_few : (s : List ℕ) (c : Sections) → blind_bits s c ≤ 31
unfolding blind_bits
bits_few s c =
    sum_few (nameless (key_of s c) (record_of c)) (other_target s (record_of c)) (other_environment s (block_of s c 0xA0000001)) (is_there (block_of s c 0xA0000006) || is_there (block_of s c 0xA000000C)) (has_values (rows_of s c))

-- ---- twins

pub both_false : (a b : Bool) → (a || b) ≡ false → (a ≡ false) × (b ≡ false)
both_false true b e = clash refl e
both_false false b e = (refl, e)

pub second_false : {a b : Bool} → a ≡ true → (a && b) ≡ false → b ≡ false
second_false {a} {b} t e = rw t at e

not-false : (a : Bool) → not a ≡ false → a ≡ true
not-false true e = refl
not-false false e = clash refl e

-- a twin that is there is the translation
pub twin_translates : {there : Bool} (x y : List ℕ) → other_twin there x y ≡ false → there ≡ true → is_translation x y ≡ true
twin_translates x y e t = not-false (is_translation x y) (second_false t e)

pub translation_is : (x y : List ℕ) → is_translation x y ≡ true → (all_assigned x ≡ true) × (y ≡ to_units x)
translation_is x y e = let (p, q) = and-true (all_assigned x) (same_numbers y (to_units x)) e in (p, same_equal y (to_units x) q)

-- a part and its twin
pub part_translates : (there : Bool) (x y : List ℕ) → other_twin there x y ≡ false → part_if there y ≡ translated_part to_units (part_if there x)
part_translates true x y e = ap (part_if true) (translation_is x y (twin_translates {there = true} x y e refl)).1
part_translates false x y e = refl

-- ---- joined texts

backslash_unit : unit_of 0x5C ≡ 0x5C
unfolding windows1252 unit_of
backslash_unit = refl

backslash_byte : byte_of 0x5C ≡ 0x5C
unfolding windows1252 byte_of
backslash_byte = refl

assigned_small : (b : ℕ) → assigned b ≡ true → b < 256
assigned_small b e = by_order 256 b (λ h. clash e (ap not (eq-eqb (unit_of b) unassigned (unit_beyond b h)))) (λ h. h)

-- an assigned byte is a backslash exactly if its unit is
is_backslash : (b : ℕ) → assigned b ≡ true → eqb (unit_of b) 0x5C ≡ eqb b 0x5C
is_backslash b e =
    same_truth (eqb (unit_of b) 0x5C) (eqb b 0x5C)
    (λ h. eq-eqb b 0x5C (sym (assigned_back b (assigned_small b e) e) ∙ ap byte_of (eqb-true (unit_of b) 0x5C h) ∙ backslash_byte))
    (λ h. eq-eqb (unit_of b) 0x5C (ap unit_of (eqb-true b 0x5C h) ∙ backslash_unit))

zero_unit : unit_of 0 ≡ 0
unfolding windows1252 unit_of
zero_unit = refl

zero-assigned : assigned 0 ≡ true
unfolding windows1252 unit_of
zero-assigned = refl

-- past its end a text has zeros
assigned_at : (x : List ℕ) (i : ℕ) → all_assigned x ≡ true → assigned (get_or x i 0) ≡ true
assigned_at [] i e = zero-assigned
assigned_at (b ∷ x) zero e = (and-true (assigned b) (all_assigned x) e).0
assigned_at (b ∷ x) (suc i) e = assigned_at x i (and-true (assigned b) (all_assigned x) e).1

unit_at : (x : List ℕ) (i : ℕ) → get_or (map unit_of x) i 0 ≡ unit_of (get_or x i 0)
unit_at x i = ap (get_or (map unit_of x) i) (sym zero_unit) ∙ get_or-map unit_of x i 0

module _ (x y : List ℕ) (e : all_assigned x ≡ true) where
  separated_units : separated (map unit_of x) (map unit_of y) ≡ separated x y
  separated_units =
      let i = length x - 1 in
      let same : eqb (get_or (map unit_of x) i 0) 0x5C ≡ eqb (get_or x i 0) 0x5C
      = ap (λ (u : ℕ). eqb u 0x5C) (unit_at x i) ∙ is_backslash (get_or x i 0) (assigned_at x i e) in
      rw (length-map x unit_of, length-map y unit_of, same)

  separator_units : (b : Bool) → cond b backslash [] ≡ map unit_of (cond b backslash [])
  separator_units true = ap (λ (u : ℕ). u ∷ []) (sym backslash_unit)
  separator_units false = refl

  pub joined_units : joined (map unit_of x) (map unit_of y) ≡ map unit_of (joined x y)
  joined_units =
      rw separated_units
      (ap (λ (w : List ℕ). map unit_of x ++ (w ++ map unit_of y)) (separator_units (separated x y))
      ∙ ap (λ (w : List ℕ). map unit_of x ++ w) (sym (map-append unit_of (separator x y) y))
      ∙ sym (map-append unit_of x (separator x y ++ y)))
