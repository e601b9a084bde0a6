-- The string that an offset leads to, and a field that is there or not.
use mathlib.Core.Path.{◌≡◌, refl}
use mathlib.Core.List.{List, [], ◌∷◌}
use mathlib.Core.Bool.{Bool, true, false, not, ◌||◌, cond}
use Prim.Native.Nat.{ℕ, ◌+◌, ◌<◌}
use native.Mathlib.Omega.{arith}
use lib.ListN.{drop}
use lib.Dec.{leb}
use Rattle.std.specs.Prelude.{Some, None, Ok, Err}
use Rattle.octets.specs.Numbers.{Bytes, u32_at}
use Rattle.octets.proofs.NumberLaws.{number_below}
use Rattle.format.specs.declared.Fault.TheVariants.{Piece as PIECE}
use Rattle.format.specs.Tests.{◌else◌at◌, all, place, no_place}
use Rattle.format.specs.Steps.Wrong.{given}
use Rattle.format.specs.Pieces.{tests_of, span, text_ends, text_piece, text_place, absent_zero}
use Rattle.pieces.specs.declared.Found.{Found}
use Rattle.pieces.specs.Steps.Found.{field_if, found, body_length, text_found}

-- ---- what was found

-- both tests of a string are of the field that leads there
both_tests : {A B : Type 0} (b x y : Bool) (i : ℕ) (a : A) → cond (all (cond b (x else PIECE at 0 ∷ y else PIECE at 0 ∷ []) [])) (Some a) None ≡ None
    → (z : B) → given (cond b (x else PIECE at i ∷ y else PIECE at i ∷ []) []) z ≡ Err i
both_tests true true true i a e z = cc
both_tests true true false i a e z = refl
both_tests true false y i a e z = refl
both_tests false x y i a e z = cc

both_hold : {A B : Type 0} (b x y : Bool) (i : ℕ) (a : A) {r : A} → cond (all (cond b (x else PIECE at 0 ∷ y else PIECE at 0 ∷ []) [])) (Some a) None ≡ Some r
    → (z : B) → (given (cond b (x else PIECE at i ∷ y else PIECE at i ∷ []) []) z ≡ Ok z) × (r ≡ a)
both_hold true true true i a e z = (refl, cc)
both_hold true true false i a e z = cc
both_hold true false y i a e z = cc
both_hold false x y i a e z = (refl, cc)

module _ (b u : Bool) (l : List ℕ) (head o i : ℕ) where
  pub text_lost : {B : Type 0} → text_found b u l head o ≡ None → (z : B) → given (tests_of head (text_piece b u l i o)) z ≡ Err i
  unfolding text_found
  text_lost e z = both_tests b (leb head o) (text_ends u (drop o l)) i _ e z

  pub text_right : {B : Type 0} {t : Found ℕ} → text_found b u l head o ≡ Some t → (z : B)
      → (given (tests_of head (text_piece b u l i o)) z ≡ Ok z) × (t ≡ found (span (text_piece b u l i o)) (body_length b u l o))
  unfolding text_found
  text_right e z = both_hold b (leb head o) (text_ends u (drop o l)) i _ e z

-- ---- the body's place, by its length

-- the length is the same wherever the part starts
pub place_length : (b u : Bool) (p : ℕ) (l : List ℕ) (o : ℕ) → (text_place b u p l o).len ≡ body_length b u l o
place_length true u p l o = refl
place_length false u p l o = refl

pub body_place : (b u : Bool) (p : ℕ) (l : List ℕ) (o : ℕ) {n : ℕ} → n ≡ (text_place b u p l o).len → cond b (place (p + o) n) no_place ≡ text_place b u p l o
body_place true u p l o e = rw e
body_place false u p l o e = refl

-- ---- a field that is there or not

pub field_below : (w : Bool) (l : List ℕ) (i : ℕ) {n : ℕ} → n ≡ field_if w l i → Bytes l → n < 4294967296
unfolding field_if
field_below true l i e b = omega (arith, number_below 4 l i b)
field_below false l i e b = omega arith

-- an absent string is the same wherever its offset leads
pub text_field : (b u : Bool) (l : List ℕ) (head i : ℕ) (w : Bool) → (w ≡ false → b ≡ false)
    → text_found b u l head (field_if w l i) ≡ text_found b u l head (u32_at l i)
unfolding field_if text_found
text_field b u l head i true h = refl
text_field b u l head i false h = rw (h refl)

-- so is the place of its body
pub place_field : (b : Bool) (p : ℕ) (l : List ℕ) (i n : ℕ) (w : Bool) → (w ≡ false → b ≡ false)
    → cond b (place (p + field_if w l i) n) no_place ≡ cond b (place (p + u32_at l i) n) no_place
unfolding field_if
place_field b p l i n true h = refl
place_field b p l i n false h = rw (h refl)

-- an absent field is 0
pub zero_field : (b w : Bool) (l : List ℕ) (i : ℕ) → absent_zero b (field_if w l i) ≡ (not w || absent_zero b (u32_at l i))
unfolding field_if
zero_field true true l i = refl
zero_field false true l i = refl
zero_field true false l i = refl
zero_field false false l i = refl
