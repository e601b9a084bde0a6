-- Fields put end to end are numbers at places, and back.
use mathlib.Core.Path.{◌≡◌, refl, sym, ap, ◌∙◌}
use mathlib.Core.List.{List, [], ◌∷◌, ◌++◌, append_assoc}
use mathlib.Core.Bool.{Bool, cond}
use Prim.Native.Nat.{ℕ, ◌+◌, ◌^◌, ◌≤◌, ◌<◌}
use native.Mathlib.Omega.{arith}
use lib.ListN.{length, take, drop, take-append-drop, length-drop, length-append}
use lib.Seq.{length-take-le, drop-drop, drop_at}
use Rattle.octets.specs.Numbers.{Bytes, number, number_at, little}
use Rattle.octets.proofs.NumberLaws.{Bytes-drop, Bytes-take, length-little, number_back, number_below, little-number}
use Rattle.grammar.specs.Grammar.{EachOf, field_bytes, Fields}

-- each number fits its bytes
abbrev pub AllFit : List (ℕ × ℕ) → Type 0
AllFit rows = EachOf (λ (w, n). n < 256 ^ w) rows

abbrev pub widths : List (ℕ × ℕ) → ℕ
widths [] = 0
widths ((w, n) ∷ rows) = w + widths rows

-- the two fields that only a long head has
abbrev pub long_rows : Bool → ℕ → ℕ → List (ℕ × ℕ)
long_rows long m n = cond long ((4, m) ∷ (4, n) ∷ []) []

-- from i on
abbrev pub Told : List (ℕ × ℕ) → ℕ → List ℕ → Type 0
Told [] i s = Unit {0}
Told ((w, n) ∷ rows) i s = (number_at w s i ≡ n) × Told rows (i + w) s

pub length_fields : (rows : List (ℕ × ℕ)) → length (field_bytes rows) ≡ widths rows
length_fields [] = refl
length_fields ((w, n) ∷ rows) = rw (length-append, length-little, length_fields rows)

-- the number at the start of what follows
number_here : (w n : ℕ) (t : List ℕ) (i : ℕ) (r : List ℕ) → n < 256 ^ w → drop i t ≡ little w n ++ r → number_at w t i ≡ n
unfolding number_at
number_here w n t i r h e = ap (λ (l : List ℕ). number (take w l)) e ∙ number_back w n r h

-- what follows the first field
behind : (w n : ℕ) (t : List ℕ) (i : ℕ) (r : List ℕ) → drop i t ≡ little w n ++ r → drop (i + w) t ≡ r
behind w n t i r e = sym (drop-drop w i t) ∙ ap (drop w) e ∙ drop_at (little w n) r w (length-little w n)

pub Told-from : (rows : List (ℕ × ℕ)) (t : List ℕ) (i : ℕ) (r : List ℕ) → AllFit rows → drop i t ≡ field_bytes rows ++ r → Told rows i t
Told-from [] t i r f e = tt
Told-from ((w, n) ∷ rows) t i r f e =
    let d : drop i t ≡ little w n ++ (field_bytes rows ++ r) = e ∙ append_assoc (little w n) (field_bytes rows) r in
    (number_here w n t i (field_bytes rows ++ r) f.0 d, Told-from rows t (i + w) r f.1 (behind w n t i (field_bytes rows ++ r) d))

pub Fields-Told : (rows : List (ℕ × ℕ)) (rest s : List ℕ) → Fields rows rest s → Told rows 0 s
Fields-Told rows rest s f = Told-from rows s 0 rest f.fit f.is

pub Fields-length : (rows : List (ℕ × ℕ)) (rest s : List ℕ) → Fields rows rest s → length s ≡ widths rows + length rest
Fields-length rows rest s f = ap length f.is ∙ length-append (field_bytes rows) rest ∙ ap (λ (n : ℕ). n + length rest) (length_fields rows)

-- w bytes that are a number
pub Bytes-here : (w n : ℕ) (t : List ℕ) (i : ℕ) → Bytes t → i + w ≤ length t → number_at w t i ≡ n → take w (drop i t) ≡ little w n
unfolding number_at
Bytes-here w n t i bs h e =
    let l : length (take w (drop i t)) ≡ w = length-take-le w (drop i t) (omega (arith, length-drop i t)) in
    sym (little-number (take w (drop i t)) (Bytes-take w (drop i t) (Bytes-drop i t bs))) ∙ rw (l, e)

pub fields_from : (rows : List (ℕ × ℕ)) (t : List ℕ) (i : ℕ) → Bytes t → i + widths rows ≤ length t → Told rows i t
    → AllFit rows × (drop i t ≡ field_bytes rows ++ drop (i + widths rows) t)
fields_from [] t i bs h e = let k : i + 0 ≡ i = omega arith in (tt, rw k)
fields_from ((w, n) ∷ rows) t i bs h e =
    let x = fields_from rows t (i + w) bs (omega arith) e.1 in
    let y : take w (drop i t) ≡ little w n = Bytes-here w n t i bs (omega arith) e.0 in
    let k : i + w + widths rows ≡ i + (w + widths rows) = omega arith in
    let z : drop (i + w) t ≡ field_bytes rows ++ drop (i + (w + widths rows)) t = rw k at x.1 in (
      (rw e.0 at (number_below w t i bs), x.0),
      sym (take-append-drop w (drop i t)) ∙ rw (y, drop-drop w i t, z) (sym (append_assoc (little w n) (field_bytes rows) (drop (i + (w + widths rows)) t))),
    )

pub Told-Fields : (rows : List (ℕ × ℕ)) (s : List ℕ) → Bytes s → widths rows ≤ length s → Told rows 0 s → Fields rows (drop (widths rows) s) s
Told-Fields rows s bs h e =
    let x = fields_from rows s 0 bs (omega arith) e in
    let k : 0 + widths rows ≡ widths rows = omega arith in
    record { fit = x.0; is = rw k at x.1 }

-- one field, and what follows
pub first_field : (w : ℕ) (s : List ℕ) → Bytes s → w ≤ length s → s ≡ little w (number_at w s 0) ++ drop w s
first_field w s bs h = sym (take-append-drop w s) ∙ ap (λ (l : List ℕ). l ++ drop w s) (Bytes-here w (number_at w s 0) s 0 bs (omega arith) refl)
