-- Offset fields of the canonical layout: what is read there is where the piece stands, or zero.
use mathlib.Core.Path.{◌≡◌, refl}
use mathlib.Core.List.{List, ◌++◌}
use mathlib.Core.Bool.{Bool, true, false, not, ◌&&◌, ◌||◌, cond}
use Prim.Native.Nat.{ℕ, ◌≤◌}
use native.Mathlib.Omega.{arith}
use lib.ListN.{length}
use borrow.Author.Tests.{eq-eqb}
use Rattle.octets.specs.Numbers.{Bytes, number, number_at, little}
use Rattle.octets.proofs.NumberLaws.{Bytes-append, Bytes-nil, Bytes-little, number-little}
use Rattle.format.specs.Pieces.{absent_zero}
use Rattle.format.specs.Shortcut.{most}
use Rattle.format.specs.Writing.{two_fields}

pub choose_below : (b : Bool) (o : ℕ) → o ≤ most → cond b o 0 ≤ most
choose_below true o h = h
choose_below false o h = omega arith

pub field_is : (b : Bool) (o : ℕ) → o ≤ most → number (little 4 (cond b o 0)) ≡ cond b o 0
field_is b o h = number-little 4 (cond b o 0) (omega (arith, choose_below b o h))

-- ---- two fields that are there or not

pub length_two : (u : Bool) (x y : ℕ) → length (two_fields u x y) ≡ cond u 8 0
unfolding little
length_two true x y = refl
length_two false x y = refl

pub Bytes-two : (u : Bool) (x y : ℕ) → Bytes (two_fields u x y)
Bytes-two true x y = Bytes-append (little 4 x) (little 4 y) (Bytes-little 4 x) (Bytes-little 4 y)
Bytes-two false x y = Bytes-nil

pub first_field : (u : Bool) (x y : ℕ) (r : List ℕ) → x ≤ most → cond u (number_at 4 (two_fields u x y ++ r) 0) 0 ≡ cond u x 0
unfolding number_at little number
first_field true x y r h = number-little 4 x (omega arith)
first_field false x y r h = refl

pub second_field : (u : Bool) (x y : ℕ) (r : List ℕ) → y ≤ most → cond u (number_at 4 (two_fields u x y ++ r) 4) 0 ≡ cond u y 0
unfolding number_at little number
second_field true x y r h = number-little 4 y (omega arith)
second_field false x y r h = refl

-- ---- a field of a part that may be absent although the fields are there

pub both_there : (u d : Bool) (o a : ℕ) → cond u o 0 ≡ cond u (cond d a 0) 0 → cond (u && d) o 0 ≡ cond (u && d) a 0
both_there true true o a e = e
both_there true false o a e = refl
both_there false d o a e = refl

pub zero_absent : (b : Bool) (a : ℕ) → absent_zero b (cond b a 0) ≡ true
zero_absent true a = refl
zero_absent false a = refl

pub zero_either : (u d : Bool) (o a : ℕ) → cond u o 0 ≡ cond u (cond d a 0) 0 → (not u || absent_zero d o) ≡ true
zero_either true true o a e = refl
zero_either true false o a e = eq-eqb o 0 e
zero_either false d o a e = refl
