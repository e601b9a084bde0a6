-- The laws of a piece that an offset leads to: of a string, and of a piece that is there or not.
use mathlib.Core.Path.{◌≡◌, refl, sym, ap, ◌∙◌}
use mathlib.Core.List.{List, ◌∷◌, ◌++◌, append_assoc}
use mathlib.Core.Bool.{Bool, true, false, cond}
use Prim.Native.Nat.{ℕ, suc, ◌+◌, ◌≤◌, ◌<◌}
use native.Mathlib.Omega.{arith}
use lib.ListN.{length, take, drop, replicate, length-append, length-drop, length-replicate}
use lib.Seq.{length-take-le, take_at, drop-drop, drop-append_seam}
use borrow.Author.Tests.{leb-true, le-leb, ltb-true, lt-ltb, eqb-true, eq-eqb}
use Rattle.octets.specs.Numbers.{Bytes, u32_at}
use Rattle.octets.specs.Characters.{bytes_of, units, characters, before_zero}
use Rattle.octets.proofs.NumberLaws.{Bytes-append, Bytes-drop, Bytes-take, Bytes-nil, Bytes-cons}
use Rattle.octets.proofs.CharacterLaws.{before_le, before_take, before_append, characters_fit, characters-take, characters-append, bytes_of-le, bytes_of-add, bytes_of_same}
use Rattle.format.specs.declared.Place.{Place}
use Rattle.format.specs.Tests.{Test, place, no_place}
use Rattle.format.specs.Pieces.{Piece, text_length, text_size, text_tests, struct_tests, tests_of, span}
use Rattle.format.specs.Shortcut.{most}
use Rattle.format.specs.Writing.{text_bytes, if_there, writable_text}
use Rattle.format.proofs.Intervals.{Ordered, skip, put}
use Rattle.format.proofs.Chains.{Pass, Ok, Fits, IfThere}
use Rattle.format.proofs.Holds.{struct_holds, struct_passes}

-- ---- what is asked of a kind of piece: its own tests, how many bytes it has, and what it says

pub record PieceBack {A : Type 0} (own : List ℕ → List Test) (size : List ℕ → ℕ) (value : List ℕ → A) (s : List ℕ) (a : A) (n : ℕ) : Type 0 where
  pub passes : Pass (own s)
  pub sized : size s ≡ n
  pub same : value s ≡ a

pub record PieceFits {A : Type 0} (size : List ℕ → ℕ) (value : List ℕ → A) (enc : A → List ℕ) (Valid : A → Type 0) (s : List ℕ) : Type 0 where
  pub valid : Valid (value s)
  pub short : length (enc (value s)) ≤ size s
  pub some : 0 < size s
  pub inside : size s ≤ length s

pub record PieceLaw {A : Type 0} (own : List ℕ → List Test) (size : List ℕ → ℕ) (value : List ℕ → A) (enc : A → List ℕ) (Valid : A → Type 0) : Type 0 where
  pub bytes : (a : A) → Valid a → Bytes (enc a)
  pub back : (a : A) → Valid a → length (enc a) ≤ most → (r : List ℕ) → PieceBack own size value (enc a ++ r) a (length (enc a))
  pub fits : (s : List ℕ) → Bytes s → Pass (own s) → PieceFits size value enc Valid s

-- ---- a string with its terminator, of either kind

abbrev pub text_value : Bool → List ℕ → List ℕ
text_value u s = take (text_length u s) s

abbrev pub TextV : Bool → List ℕ → Type 0
TextV u = Ok Bytes (writable_text u)

length_text : (u : Bool) (x : List ℕ) → length (text_bytes u x) ≡ length x + bytes_of u 1
length_text u x = length-append x (replicate (bytes_of u 1) 0) ∙ ap (λ (n : ℕ). length x + n) (length-replicate (bytes_of u 1) 0)

one_more : (u : Bool) → 0 < bytes_of u 1
one_more true = omega arith
one_more false = omega arith

-- the zero character
zero_first : (u : Bool) (r : List ℕ) → characters u (replicate (bytes_of u 1) 0 ++ r) ≡ 0 ∷ characters u r
unfolding units
zero_first true r = refl
zero_first false r = refl

-- a text that can be written: whole characters, and none is zero
pub record Plain (u : Bool) (x : List ℕ) : Type 0 where
  pub whole : bytes_of u (length (characters u x)) ≡ length x
  pub no_zero : before_zero (characters u x) ≡ length (characters u x)

pub plain : (u : Bool) (x : List ℕ) → writable_text u x ≡ true → Plain u x
plain u x e =
    let c : List ℕ = characters u x in
    let a : bytes_of u (before_zero c) ≡ length x = eqb-true _ _ e in
    let b : bytes_of u (before_zero c) ≤ bytes_of u (length c) = bytes_of-le u (before_le c) in
    let d : bytes_of u (length c) ≤ length x = characters_fit u x in
    let w : bytes_of u (length c) ≡ length x = omega arith in
    record { whole = w; no_zero = bytes_of_same u (a ∙ sym w) }

text_back : (i : ℕ) (u : Bool) (x : List ℕ) → TextV u x → (r : List ℕ) → PieceBack (text_tests i u) (text_size u) (text_value u) (text_bytes u x ++ r) x (length (text_bytes u x))
text_back i u x v r =
    let p = plain u x v.can in
    let s : List ℕ = text_bytes u x ++ r in
    let z : List ℕ = replicate (bytes_of u 1) 0 in
    let c : characters u s ≡ characters u x ++ 0 ∷ characters u r
    = ap (characters u) (append_assoc x z r) ∙ characters-append u x (z ++ r) p.whole ∙ ap (λ (l : List ℕ). characters u x ++ l) (zero_first u r) in
    let k : before_zero (characters u s) ≡ length (characters u x) = rw c (before_append (characters u x) (characters u r) p.no_zero) in
    let m : length (characters u s) ≡ length (characters u x) + suc (length (characters u r)) = ap length c ∙ length-append (characters u x) (0 ∷ characters u r) in
    let n : text_length u s ≡ length x = ap (bytes_of u) k ∙ p.whole in
    record {
      passes = (lt-ltb (before_zero (characters u s)) (length (characters u s)) (omega arith), tt);
      sized = ap (λ (l : ℕ). l + bytes_of u 1) n ∙ sym (length_text u x);
      same = ap (λ (l : ℕ). take l s) n ∙ ap (take (length x)) (append_assoc x z r) ∙ take_at x (z ++ r) (length x) refl;
    }

text_fits : (i : ℕ) (u : Bool) (s : List ℕ) → Bytes s → Pass (text_tests i u s) → PieceFits (text_size u) (text_value u) (text_bytes u) (TextV u) s
text_fits i u s bs e =
    let c : List ℕ = characters u s in
    let k : ℕ = before_zero c in
    let h : k < length c = ltb-true _ _ e.0 in
    let f : bytes_of u (length c) ≤ length s = characters_fit u s in
    let g : bytes_of u (k + 1) ≤ bytes_of u (length c) = bytes_of-le u (omega arith) in
    let a : bytes_of u (k + 1) ≡ bytes_of u k + bytes_of u 1 = bytes_of-add u k 1 in
    let o : 0 < bytes_of u 1 = one_more u in
    let x : List ℕ = take (bytes_of u k) s in
    let l : length x ≡ bytes_of u k = length-take-le (bytes_of u k) s (omega arith) in
    let t : text_length u x ≡ bytes_of u k = ap (λ (y : List ℕ). bytes_of u (before_zero y)) (characters-take u k s) ∙ ap (bytes_of u) (before_take c) in
    record {
      valid = record { typed = Bytes-take (bytes_of u k) s bs; can = eq-eqb (text_length u x) (length x) (t ∙ sym l) };
      short = rw (length_text u x, l) (omega arith);
      some = omega arith;
      inside = omega arith;
    }

pub text_law : (i : ℕ) (u : Bool) → PieceLaw (text_tests i u) (text_size u) (text_value u) (text_bytes u) (TextV u)
text_law i u = record {
  bytes = λ x v. Bytes-append x (replicate (bytes_of u 1) 0) v.typed (zeros_Bytes u);
  back = λ x v h r. text_back i u x v r;
  fits = text_fits i u;
}
  where
    zeros_Bytes : (u : Bool) → Bytes (replicate (bytes_of u 1) 0)
    zeros_Bytes true = Bytes-cons (omega arith) (Bytes-cons (omega arith) Bytes-nil)
    zeros_Bytes false = Bytes-cons (omega arith) Bytes-nil

-- ---- a piece that is there or not, at an offset of l, to which the field at i leads

abbrev pub slot : {A : Type 0} → (List ℕ → A) → Bool → A → List ℕ → ℕ → A
slot value b d l o = cond b (value (drop o l)) d

module _ {A : Type 0} (i : ℕ) (own : ℕ → List ℕ → List Test) (size : List ℕ → ℕ) (value : List ℕ → A) where
  abbrev pub piece_at : Bool → List ℕ → ℕ → Piece
  piece_at b l o = record { present = b; field = i; offset = o; own = own o (drop o l); size = size (drop o l) }

  -- what a piece that was read says
  pub record SlotFits (b : Bool) (d : A) (enc : A → List ℕ) (Valid : A → Type 0) (h : ℕ) (l : List ℕ) (o : ℕ) : Type 0 where
    pub valid : IfThere b d Valid (slot value b d l o)
    pub short : length (if_there b enc (slot value b d l o)) ≤ (span (piece_at b l o)).len
    pub within : 0 < (span (piece_at b l o)).len → (h ≤ (span (piece_at b l o)).at) × ((span (piece_at b l o)).at + (span (piece_at b l o)).len ≤ length l)

  -- a piece of the canonical layout, from the place a on, to which its offset field o leads
  pub record SlotBack (b : Bool) (d : A) (enc : A → List ℕ) (h : ℕ) (l : List ℕ) (o a : ℕ) (x : A) : Type 0 where
    pub good : Pass (tests_of h (piece_at b l o))
    pub spans : span (piece_at b l o) ≡ cond b (place a (length (if_there b enc x))) no_place
    pub same : slot value b d l o ≡ x

  module _ {enc : A → List ℕ} {Valid : A → Type 0} (F : (o : ℕ) → PieceLaw (own o) size value enc Valid) where
    pub slot_fits : (b : Bool) (d : A) (h : ℕ) (l : List ℕ) (o : ℕ) → Bytes l → Pass (tests_of h (piece_at b l o)) → SlotFits b d enc Valid h l o
    slot_fits true d h l o bs e =
        let f = (F o).fits (drop o l) (Bytes-drop o l bs) e.1 in
        let n = f.inside in
        let p = f.some in
        record { valid = f.valid; short = f.short; within = λ z. (leb-true h o e.0, omega (arith, length-drop o l)) }
    slot_fits false d h l o bs e = record { valid = refl; short = omega arith; within = λ z. absurd (omega arith) }

    pub slot_back : (b : Bool) (d : A) (h : ℕ) (l r : List ℕ) (o a : ℕ) (x : A) → IfThere b d Valid x → length (if_there b enc x) ≤ most → h ≤ a
        → cond b o 0 ≡ cond b a 0 → drop a l ≡ if_there b enc x ++ r → SlotBack b d enc h l o a x
    slot_back true d h l r o a x v k g q e =
        let f = (F o).back x v k r in
        let j : drop o l ≡ enc x ++ r = ap (λ (m : ℕ). drop m l) q ∙ e in
        record {
          good = (le-leb h o (omega arith), rw j f.passes);
          spans = rw (j, f.sized, q);
          same = rw j f.same;
        }
    slot_back false d h l r o a x v k g q e = record { good = tt; spans = refl; same = sym v }

    pub slot_Bytes : (b : Bool) (d x : A) → IfThere b d Valid x → Bytes (if_there b enc x)
    slot_Bytes true d x v = (F 0).bytes x v
    slot_Bytes false d x v = Bytes-nil

-- the next piece of the layout takes its place in the order
pub spans_Ordered : (b : Bool) (a n : ℕ) (x : Place) (xs : List Place) → x ≡ cond b (place a n) no_place → (b ≡ false → n ≡ 0) → Ordered (a + n) xs → Ordered a (x ∷ xs)
spans_Ordered true a n x xs e z r = rw e (put n r)
spans_Ordered false a n x xs e z r =
    let k : a + n ≡ a = omega (arith, z refl) in
    rw e (skip (rw k at r))

pub absent_empty : {A : Type 0} (b : Bool) (enc : A → List ℕ) (x : A) → b ≡ false → length (if_there b enc x) ≡ 0
absent_empty true enc x e = absurd (let z : ◌≡◌ {A = ℕ} 0 1 = cc in omega arith)
absent_empty false enc x e = refl

-- where the next piece starts
pub next : (l e r : List ℕ) (o : ℕ) → drop o l ≡ e ++ r → drop (o + length e) l ≡ r
next l e r o h = sym (drop-drop (length e) o l) ∙ ap (drop (length e)) h ∙ drop-append_seam e r

-- ---- a structure that says its size in its first four bytes, low or more

module _ {A : Type 0} (low : ℕ) (rules : List ℕ → List Test) (value : List ℕ → A) where
  -- what is asked of it: of one whole structure l, with nothing after it
  pub record Struct (enc : A → List ℕ) (Valid : A → Type 0) : Type 0 where
    pub low_four : 4 ≤ low
    pub bytes : (a : A) → Valid a → Bytes (enc a)
    pub sized : (a : A) → Valid a → length (enc a) ≤ most → (r : List ℕ) → u32_at (enc a ++ r) 0 ≡ length (enc a)
    pub long : (a : A) → Valid a → low ≤ length (enc a)
    pub judged : (a : A) → Valid a → length (enc a) ≤ most → Pass (rules (enc a))
    pub same : (a : A) → Valid a → length (enc a) ≤ most → value (enc a) ≡ a
    pub fits : (l : List ℕ) → Bytes l → low ≤ length l → Pass (rules l) → Fits enc Valid (value l) (length l)

  module _ {enc : A → List ℕ} {Valid : A → Type 0} (F : Struct enc Valid) (i o : ℕ) where
    struct_back : (a : A) → Valid a → length (enc a) ≤ most → (r : List ℕ)
        → PieceBack (struct_tests i o low rules) (λ s. u32_at s 0) (λ s. value (take (u32_at s 0) s)) (enc a ++ r) a (length (enc a))
    struct_back a v m r =
        let s : List ℕ = enc a ++ r in
        let n : u32_at s 0 ≡ length (enc a) = F.sized a v m r in
        let k = length-append (enc a) r in
        let j = F.long a v in
        let f = F.low_four in
        let t : take (u32_at s 0) s ≡ enc a = ap (λ (m : ℕ). take m s) n ∙ take_at (enc a) r (length (enc a)) refl in
        record {
          passes =
              struct_passes i o low rules s (record { field = omega arith; inside = omega arith; enough = omega arith; own = rw t (F.judged a v m) });
          sized = n;
          same = ap value t ∙ F.same a v m;
        }

    struct_fits : (s : List ℕ) → Bytes s → Pass (struct_tests i o low rules s) → PieceFits (λ s. u32_at s 0) (λ s. value (take (u32_at s 0) s)) enc Valid s
    struct_fits s bs e =
        let c = struct_holds i o low rules s e in
        let n : ℕ = u32_at s 0 in
        let fit : n ≤ length s = c.inside in
        let j : low ≤ n = c.enough in
        let k : length (take n s) ≡ n = length-take-le n s fit in
        let f = F.fits (take n s) (Bytes-take n s bs) (rw k j) c.own in
        let z = f.short in
        let g = F.low_four in
        record { valid = f.valid; short = omega arith; some = omega arith; inside = fit }

    pub struct_law : PieceLaw (struct_tests i o low rules) (λ s. u32_at s 0) (λ s. value (take (u32_at s 0) s)) enc Valid
    struct_law = record { bytes = F.bytes; back = struct_back; fits = struct_fits }
