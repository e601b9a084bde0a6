-- A structure that says its size, and what was read of it: VolumeID and the network link.
use mathlib.Core.Path.{◌≡◌, refl, sym, ap, ◌∙◌}
use mathlib.Core.List.{List}
use mathlib.Core.Bool.{Bool, true, false, cond}
use Prim.Native.Nat.{ℕ, ◌+◌, ◌-◌, ◌≤◌}
use native.Mathlib.Omega.{arith}
use native.Mathlib.Nat.{add-zero}
use lib.ListN.{length, take, drop, length-drop}
use lib.Dec.{leb}
use borrow.Author.Tests.{leb-true}
use Rattle.std.specs.Prelude.{Result, Ok, Err}
use Rattle.octets.specs.Numbers.{u32_at, number_at}
use Rattle.octets.proofs.NumberLaws.{number_drop}
use Rattle.format.specs.Tests.{Test, inside, place, no_place}
use Rattle.format.specs.Steps.Wrong.{given}
use Rattle.format.specs.Pieces.{Piece, struct_tests}
use Rattle.format.proofs.WrongLaws.{given_none}
use Rattle.pieces.specs.declared.Found.{Found}
use Rattle.pieces.specs.Steps.Found.{found, placed, piece_found, frame_tests, end_at, OwnPart}
use Rattle.pieces.proofs.TestLaws.{given_lost, given_then, inside_lost, inside_then, here, Fields, Fields-inside, PieceFields}

-- ---- a structure of LinkInfo as a piece, and what it says

-- to which the field at i leads by the offset o
abbrev pub struct_at : ℕ → ℕ → (List ℕ → List Test) → Bool → List ℕ → ℕ → Piece
struct_at i least rules b l o = record { present = b; field = i; offset = o; own = struct_tests i o least rules (drop o l); size = u32_at (drop o l) 0 }

abbrev pub struct_says : {A : Type 0} → (List ℕ → A) → A → Bool → List ℕ → ℕ → A
struct_says fields none b l o = cond b (fields (take (u32_at (drop o l) 0) (drop o l))) none

-- a structure starts after the head, and before the end
pub struct_Fields : (k i m least : ℕ) (rules : List ℕ → List Test) (b : Bool) (l : List ℕ) (h o : ℕ)
    → i ≤ k → length l + m ≤ k → ((v : List ℕ) → Fields m (rules v)) → PieceFields k h (struct_at i least rules b l o)
struct_Fields k i m least rules b l h o q r F =
    let s : List ℕ = drop o l in
    let v : List ℕ = take (u32_at s 0) s in
    record {
      most = q;
      own = λ e. (
        here k i q,
        λ f.
            let j : o ≤ length l = omega (arith, leb-true 4 (length s) f, length-drop o l) in
            (here k i q, λ t. (here k (o + 0) (omega arith), λ t. Fields-inside o m k (rules v) (omega arith) (F v))),
      );
    }

-- ---- where it ends

pub first_number : (l : List ℕ) (o : ℕ) → u32_at (drop o l) 0 ≡ u32_at l o
first_number l o = number_drop 4 o l 0 ∙ ap (number_at 4 l) (add-zero o)

-- a structure that ends at e
pub record Ended (l : List ℕ) (head least o e : ℕ) : Type 0 where
  pub after : head ≤ o
  pub field : 4 ≤ length (drop o l)
  pub sized : u32_at (drop o l) 0 ≡ e - o
  pub enough : least ≤ e - o
  pub ordered : o ≤ e
  pub inside : e ≤ length l

pub ended : (l : List ℕ) (head least i o : ℕ) {e : ℕ} → end_at l head least i o ≡ Ok e → Ended l head least o e
ended l head least i o {e} q =
    go (leb head o) (leb 4 n) (leb k n) (leb least k) refl refl refl refl q
  where
    n : ℕ
    n = length (drop o l)

    k : ℕ
    k = u32_at (drop o l) 0

    go : (a b c d : Bool) → leb head o ≡ a → leb 4 n ≡ b → leb k n ≡ c → leb least k ≡ d → ◌≡◌ {A = Result ℕ ℕ} (cond a (cond b (cond c (cond d (Ok (o + k)) (Err (o + 0))) (Err i)) (Err i)) (Err i)) (Ok e) → Ended l head least o e
    go true true true true r f g h q =
        let j : o + k ≡ e = cc in
        let x = leb-true 4 n f in
        let y = leb-true k n g in
        let z = leb-true least k h in
        let w = length-drop o l in
        record { after = leb-true head o r; field = x; sized = omega arith; enough = omega arith; ordered = omega arith; inside = omega arith }
    go true true true false r f g h q = cc
    go true true false d r f g h q = cc
    go true false c d r f g h q = cc
    go false b c d r f g h q = cc

-- ---- what was found of it

module _ {A : Type 0} (i least : ℕ) (rules : List ℕ → List Test) (fields : List ℕ → A) (none : A) (b : Bool) (l : List ℕ) (head : ℕ) where
  abbrev found_at : ℕ → Result (Found A) ℕ
  found_at o = piece_found head (struct_at i least rules b l o) (struct_says fields none b l o)

  abbrev read : Result (Found A) ℕ
  read = found_at (u32_at l i)

  pub struct_absent : b ≡ false → read ≡ Ok (found no_place none)
  struct_absent t = rw t

  pub struct_lost : {w : ℕ} → b ≡ true → end_at l head least i (u32_at l i) ≡ Err w → read ≡ Err w
  struct_lost t e =
      let o : ℕ = u32_at l i in
      let own : List Test = rules (take (u32_at (drop o l) 0) (drop o l)) in
      rw t (given_lost (frame_tests l head least i o) (inside o own) _ _ e)

  module _ {o : ℕ} {v : List ℕ} (t : b ≡ true) (P : OwnPart l head least i o v) where
    framed : read ≡ given (inside o (rules v)) (found (place o (length v)) (fields v))
    framed =
        let own : List Test = rules (take (u32_at (drop o l) 0) (drop o l)) in
        let E = ended l head least i o P.ends in
        let k : u32_at (drop o l) 0 ≡ length v = omega (arith, E.sized) in
        ap found_at (sym P.offset) ∙ rw t (given_then (frame_tests l head least i o) (inside o own) _ _ P.ends ∙ rw (← P.bytes, k))

    pub struct_placed : read ≡ placed o (length v) (given (rules v) (fields v))
    unfolding placed
    struct_placed = framed ∙ go (given (rules v) (fields v)) refl
      where
        go : (r : Result A ℕ) → given (rules v) (fields v) ≡ r → given (inside o (rules v)) (found (place o (length v)) (fields v)) ≡ placed o (length v) r
        go (Ok a) e = let k : fields v ≡ a = (given_none (rules v) (fields v) e).1 in rw k (inside_then o (rules v) _ _ (rw k at e))
        go (Err w) e = inside_lost o (rules v) _ _ e
