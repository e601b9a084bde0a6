-- The rules of a body of characters.
use mathlib.Core.Path.{◌≡◌, refl, sym, ap, ◌∙◌}
use mathlib.Core.List.{List}
use mathlib.Core.Bool.{Bool, true, false, not, ◌&&◌, ◌||◌}
use Prim.Native.Nat.{ℕ, ◌*◌, ◌%◌, ◌≤◌, ◌<◌}
use native.Mathlib.Omega.{arith}
use lib.ListN.{length}
use lib.Dec.{eqb, ltb}
use borrow.Author.Tests.{eq-eqb, ne_eqb, ltb-true, ltb-false}
use Rattle.octets.specs.Characters.{bytes_of, units, characters, before_zero, has_zero}
use Rattle.octets.proofs.CharacterLaws.{before_le, characters_fit}
use Rattle.format.specs.Writing.{writable_text, writable_string}
use Rattle.format.proofs.Bools.{and_no, and_yes}
use Rattle.canonical.specs.Steps.Puts.{characters_in}
use Rattle.canonical.proofs.LayoutLaws.{units_count, characters_count}
use Rattle.writable.proofs.TestLaws.{same_test}

-- ---- whole characters

pub count_is : (u : Bool) (x : List ℕ) → characters_in u (length x) ≡ length (characters u x)
count_is u x = sym (characters_count u x)

-- the test by the number of bytes
abbrev whole_of : Bool → ℕ → Bool
whole_of u n = not u || eqb (n % 2) 0

whole_is : (u : Bool) (x : List ℕ) → whole_of u (length x) ≡ eqb (bytes_of u (length (characters u x))) (length x)
whole_is true x =
    let h = units_count x in
    same_test (length x % 2) 0 (2 * length (units x)) (length x) (λ e. omega arith) (λ e. omega arith)
whole_is false x = sym (eq-eqb (length x) (length x) refl)

pub string_is : (u : Bool) (x : List ℕ) {w : Bool} {n : ℕ} → w ≡ whole_of u (length x) → n ≡ characters_in u (length x) → (w && ltb n 65536) ≡ writable_string u x
string_is u x ew en = rw (ew ∙ whole_is u x, en ∙ count_is u x)

-- ---- no zero character

more_bytes : (u : Bool) {m n : ℕ} → m < n → bytes_of u m < bytes_of u n
more_bytes true h = omega arith
more_bytes false h = h

pub text_is : (u : Bool) (x : List ℕ) {w z : Bool} → w ≡ whole_of u (length x) → z ≡ has_zero (characters u x) → (w && not z) ≡ writable_text u x
text_is u x {w} {z} ew ez = rw (ew ∙ whole_is u x) (go z ez)
  where
    go : (t : Bool) → t ≡ has_zero (characters u x) → (eqb (bytes_of u (length (characters u x))) (length x) && not t) ≡ writable_text u x
    go true e =
        let h : before_zero (characters u x) < length (characters u x) = ltb-true _ _ (sym e) in
        and_no (eqb (bytes_of u (length (characters u x))) (length x)) ∙ sym (ne_eqb (bytes_of u (before_zero (characters u x))) (length x) (λ q. omega (arith, more_bytes u h, characters_fit u x)))
    go false e =
        let h : length (characters u x) ≤ before_zero (characters u x) = ltb-false _ _ (sym e) in
        let k : length (characters u x) ≡ before_zero (characters u x) = omega (arith, before_le (characters u x)) in
        and_yes (eqb (bytes_of u (length (characters u x))) (length x)) ∙ ap (λ (n : ℕ). eqb (bytes_of u n) (length x)) k
