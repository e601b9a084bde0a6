-- The pieces: texts at offsets, structures at offsets, and that none share a byte.
use mathlib.Core.Path.{◌≡◌, refl, sym, ap, ◌∙◌}
use mathlib.Core.List.{List, [], ◌∷◌, ◌++◌}
use mathlib.Core.Bool.{Bool, true, false}
use Prim.Native.Nat.{ℕ, ◌+◌, ◌≤◌, ◌<◌}
use native.Mathlib.Omega.{arith}
use lib.ListN.{length, take, drop, take-append-drop, length-append, length-drop}
use lib.Seq.{length-take-le, take-take, take-append-le, take-append_seam}
use borrow.Author.Tests.{leb-true, le-leb}
use Rattle.octets.specs.Numbers.{u32_at}
use Rattle.octets.specs.Characters.{bytes_of}
use Rattle.octets.proofs.NumberLaws.{number_same}
use Rattle.format.specs.declared.Place.{Place}
use Rattle.format.specs.Tests.{place, no_place}
use Rattle.format.specs.Pieces.{text_length, text_piece, text_place, tests_of, span, apart, apart_from}
use Rattle.format.proofs.Bools.{and-true, and_both, by_order, clash}
use Rattle.format.proofs.Chains.{Pass}
use Rattle.format.proofs.Intervals.{all_apart, apart_cases, apart_before, apart_behind}
use Rattle.grammar.specs.Grammar.{If, EachOf, StandsAt, nowhere, width, Within, NoneShared, piece_span, TextPiece}
use Rattle.grammar.proofs.TextLaws.{Text-at, Text-there, Text-fits, stands_drop}

-- ---- no byte belongs to two

-- x shares none with these
abbrev Apart : Place → List Place → Type 0
Apart x ys = EachOf (λ y. (k : ℕ) → Within k x → Within k y → ⊥) ys

-- it has bytes, or is that of what is absent
pub data Solid (x : Place) : Type 0 where
  some : 0 < x.len → Solid x
  absent : x ≡ no_place → Solid x

abbrev pub AllSolid : List Place → Type 0
AllSolid [] = Unit {0}
AllSolid (x ∷ xs) = Solid x × AllSolid xs

Apart-none : (x : Place) (ys : List Place) → apart_from x ys ≡ true → Apart x ys
Apart-none x [] e = tt
Apart-none x (y ∷ ys) e =
    let i = and-true (apart x y) (apart_from x ys) e in
    ((λ k a b. apart_cases x y i.0 (λ h. omega (arith, a.0, a.1, b.0, b.1)) (λ h. omega (arith, a.0, a.1, b.0, b.1))), Apart-none x ys i.1)

pub none_shared_lem : (xs : List Place) → all_apart xs ≡ true → NoneShared xs
none_shared_lem [] e = tt
none_shared_lem (x ∷ xs) e = let i = and-true (apart_from x xs) (all_apart xs) e in (Apart-none x xs i.0, none_shared_lem xs i.1)

two_apart : (x y : Place) → Solid x → Solid y → ((k : ℕ) → Within k x → Within k y → ⊥) → apart x y ≡ true
two_apart x y (absent e) s f = apart_before x y (rw e (omega arith))
two_apart x y (some h) (absent e) f = apart_behind x y (rw e (omega arith))
two_apart x y (some h) (some k) f =
    by_order (x.at + x.len) y.at
    (λ a. apart_before x y a)
    (λ a. by_order (y.at + y.len) x.at
    (λ b. apart_behind x y b)
    (λ b. by_order x.at y.at
    (λ c. absurd (f y.at (c, a) (omega arith, omega arith)))
    (λ c. absurd (f x.at (omega arith, omega arith) (omega arith, b)))))

none_Apart : (x : Place) (ys : List Place) → Solid x → AllSolid ys → Apart x ys → apart_from x ys ≡ true
none_Apart x [] s h a = refl
none_Apart x (y ∷ ys) s h a = and_both (apart x y) (apart_from x ys) (two_apart x y s h.0 a.0) (none_Apart x ys s h.1 a.1)

pub shared_none : (xs : List Place) → AllSolid xs → NoneShared xs → all_apart xs ≡ true
shared_none [] h n = refl
shared_none (x ∷ xs) h n = and_both (apart_from x xs) (all_apart xs) (none_Apart x xs h.0 h.1 n.0) (shared_none xs h.1 n.1)

-- ---- a text

width_is : (u : Bool) → bytes_of u 1 ≡ width u
width_is true = refl
width_is false = refl

pub text_told : (there u : Bool) (head p : ℕ) (l : List ℕ) (i o : ℕ) (b : Place) → text_place there u p l o ≡ b → Pass (tests_of head (text_piece there u l i o))
    → If there (TextPiece u head p l o b) (b ≡ nowhere)
text_told false u head p l i o b e c = sym e
text_told true u head p l i o b e c =
    let n : text_length u (drop o l) ≡ b.len = ap (λ (x : Place). x.len) e in
    record { outside = omega (arith, leb-true head o c.0); text = rw n at (Text-at u l o c.1.0); place = ap (λ (x : Place). x.at) (sym e) }

pub record TextRead (u : Bool) (head p : ℕ) (l : List ℕ) (i o : ℕ) (b : Place) : Type 0 where
  pub passes : Pass (tests_of head (text_piece true u l i o))
  pub held : text_place true u p l o ≡ b
  pub inside : o + b.len + width u ≤ length l

pub text_read : (u : Bool) (head p : ℕ) (l : List ℕ) (i o : ℕ) (b : Place) → TextPiece u head p l o b → TextRead u head p l i o b
text_read u head p l i o b t =
    let x = Text-there u l o b.len t.text in
    record {
      passes = (le-leb head o t.outside, (x.ends, tt));
      held = ap (place (p + o)) x.long ∙ ap (λ (k : ℕ). place k b.len) (sym t.place);
      inside = Text-fits u l o b.len t.text;
    }

-- with its zero character
abbrev pub text_span : Bool → Bool → ℕ → Place → Place
text_span there unicode o body = piece_span there o (body.len + width unicode)

-- its bytes, as reading and the grammar count them
pub text_span_lem : (there u : Bool) (p : ℕ) (l : List ℕ) (i o : ℕ) (b : Place) → text_place there u p l o ≡ b → span (text_piece there u l i o) ≡ text_span there u o b
text_span_lem false u p l i o b e = refl
text_span_lem true u p l i o b e = rw (width_is u) (ap (λ (x : Place). place o (x.len + width u)) e)

pub text_Solid : (there u : Bool) (o : ℕ) (b : Place) → Solid (text_span there u o b)
text_Solid false u o b = absent refl
text_Solid true true o b = some (omega arith)
text_Solid true false o b = some (omega arith)

-- ---- a structure

pub struct_stands : (l : List ℕ) (o n : ℕ) → 4 ≤ length (drop o l) → StandsAt (take n (drop o l)) l o
struct_stands l o n h = record {
  before = take o l;
  after = drop n (drop o l);
  is = sym (take-append-drop o l) ∙ ap (λ (x : List ℕ). take o l ++ x) (sym (take-append-drop n (drop o l)));
  start = length-take-le o l (omega (arith, length-drop o l));
}

-- what stands at o in l, and says its size there
pub record StructRead (v l : List ℕ) (o : ℕ) : Type 0 where
  pub size : u32_at (drop o l) 0 ≡ length v
  pub is : take (u32_at (drop o l) 0) (drop o l) ≡ v
  pub inside : length v ≤ length (drop o l)

pub struct_read : (v l : List ℕ) (o : ℕ) → StandsAt v l o → 4 ≤ length v → u32_at v 0 ≡ length v → StructRead v l o
struct_read v l o s four e =
    let d = stands_drop s in
    let z : u32_at (drop o l) 0 ≡ length v
    = ap (λ (x : List ℕ). u32_at x 0) d ∙ number_same 4 (length v) (v ++ s.after) v 0 (take-append-le (length v) v s.after (omega arith)) (omega arith) ∙ e in
    record {
      size = z;
      is = rw (z, d) (take-append_seam v s.after);
      inside = omega (arith, ap length d, length-append v s.after);
    }

-- the size that a structure says is how many bytes it has
pub struct_size : (s : List ℕ) → 4 ≤ u32_at s 0 → u32_at s 0 ≤ length s → u32_at (take (u32_at s 0) s) 0 ≡ length (take (u32_at s 0) s)
struct_size s four fits =
    number_same 4 4 (take (u32_at s 0) s) s 0 (take-take 4 (u32_at s 0) s four) (omega arith) ∙ sym (length-take-le (u32_at s 0) s fits)

-- ---- a text that is there or not

-- one whose offset is held to something where it is absent
pub text_or : (Y : Type 0) (there u : Bool) (head p : ℕ) (l : List ℕ) (i o : ℕ) (b : Place) → text_place there u p l o ≡ b → Pass (tests_of head (text_piece there u l i o))
    → (there ≡ false → Y) → If there (TextPiece u head p l o b) (Y × (b ≡ nowhere))
text_or Y true u head p l i o b e c f = text_told true u head p l i o b e c
text_or Y false u head p l i o b e c f = (f refl, sym e)

pub record TextOr (Y : Type 0) (there u : Bool) (head p : ℕ) (l : List ℕ) (i o : ℕ) (b : Place) : Type 0 where
  pub passes : Pass (tests_of head (text_piece there u l i o))
  pub held : text_place there u p l o ≡ b
  pub unused : there ≡ false → Y

pub or_text : (Y : Type 0) (there u : Bool) (head p : ℕ) (l : List ℕ) (i o : ℕ) (b : Place) → If there (TextPiece u head p l o b) (Y × (b ≡ nowhere)) → TextOr Y there u head p l i o b
or_text Y true u head p l i o b t = let x = text_read u head p l i o b t in record { passes = x.passes; held = x.held; unused = λ e. clash refl e }
or_text Y false u head p l i o b t = record { passes = tt; held = sym t.1; unused = λ e. t.0 }
