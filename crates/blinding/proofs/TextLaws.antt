-- The texts of the environment block, and whether the key names a driver.
use mathlib.Core.Path.{◌≡◌, refl, sym, ap, ◌∙◌}
use mathlib.Core.List.{List, [], ◌∷◌}
use Rattle.std.specs.Prelude.{Some, None, if◌then◌else◌, unwrap_or}
use mathlib.Core.Bool.{Bool, true, false, not, ◌||◌, cond}
use Prim.Native.Nat.{ℕ, zero, suc, ◌+◌, ◌-◌, ◌*◌, ◌/◌, ◌≤◌}
use native.Mathlib.Omega.{arith}
use lib.ListN.{length, take, drop}
use lib.Seq.{take-take}
use lib.Dec.{leb, eqb}
use mir.Val.{bool_byte}
use borrow.Author.Tests.{ltb-false, leb-true, leb-false, le-leb, lt-leb, ne_eqb, not-true, not-false}
use Rattle.octets.specs.Characters.{bytes_of, units, characters, before_zero, has_zero}
use Rattle.octets.specs.Steps.Scans.{zero_from}
use Rattle.octets.specs.Steps.Puts.{part}
use Rattle.octets.proofs.CharacterLaws.{before_le, characters_fit, bytes_of-le}
use Rattle.octets.proofs.PartLaws.{part_in}
use Rattle.format.specs.declared.Place.{Place}
use Rattle.format.specs.declared.Record.{Record}
use Rattle.format.specs.Presence.{local_there}
use Rattle.format.specs.Tests.{one_or_0, no_place}
use Rattle.format.specs.Pieces.{text_length}
use Rattle.format.specs.Bodies.{place_in, local_slot, net_slot, suffix_slot}
use Rattle.format.specs.Contents.{bytes_at}
use Rattle.format.specs.Target.{has_target, target_text}
use Rattle.format.specs.Key.{part_if, block_text, environment}
use Rattle.format.specs.PathWriting.{until_zero, unicode_text}
use Rattle.format.specs.Blind.{says_text}
use Rattle.format.proofs.Bools.{or_right}
use Rattle.format.proofs.PositionLaws.{part_drop}
use Rattle.target.specs.declared.Texts.{Texts}
use Rattle.target.specs.Steps.Texts.{first_text, texts_of, Stands, texts_length}
use Rattle.target.proofs.Laws.{texts_are, texts_long}
use Rattle.blinding.specs.Steps.Bits.{AllInside, PathBlock, names_in}

-- ---- up to a zero

units_half : (s : List ℕ) → length (units s) ≡ length s / 2
unfolding units
units_half [] = refl
units_half (a ∷ []) = refl
units_half (a ∷ b ∷ s) = omega (arith, units_half s)

-- as many characters as stand before the first zero, or as there are, each of so many bytes
pub text_told : (u : Bool) (s : List ℕ) {w n : ℕ} → w ≡ 1 + bool_byte u → n ≡ unwrap_or (zero_from u s 0) (length s / w) → (w * n ≡ text_length u s) × (w * n ≤ length s)
text_told u s {w} {n} e f =
    let fits : text_length u s ≤ length s = omega (arith, bytes_of-le u (before_le (characters u s)), characters_fit u s) in
    let wide = bytes_are u n in
    let is : w * n ≡ text_length u s = rw (e, wide) (ap (bytes_of u) (go (has_zero (characters u s)) refl f)) in
    (is, omega (arith, is, fits))
  where
    bytes_are : (u : Bool) (n : ℕ) → (1 + bool_byte u) * n ≡ bytes_of u n
    bytes_are true n = refl
    bytes_are false n = omega arith

    whole : (u : Bool) → length s / (1 + bool_byte u) ≡ length (characters u s)
    whole true = sym (units_half s)
    whole false = omega arith

    go : (b : Bool) → has_zero (characters u s) ≡ b → n ≡ unwrap_or (if b then Some (before_zero (characters u s)) else None) (length s / w) → n ≡ before_zero (characters u s)
    go true i j = j
    go false i j =
        let all : length (characters u s) ≤ before_zero (characters u s) = ltb-false (before_zero (characters u s)) (length (characters u s)) i in
        let n_is : n ≡ length (characters u s) = j ∙ ap (λ (k : ℕ). length s / k) e ∙ whole u in
        omega (arith, before_le (characters u s))

pub until_is : (u : Bool) (s : List ℕ) {n : ℕ} {x : List ℕ} → (n ≡ text_length u s) × (n ≤ length s) → x ≡ part s 0 n → x ≡ until_zero u s
until_is u s {n} h e = e ∙ sym (part_in s 0 n (omega (arith, h.1))) ∙ ap (λ (k : ℕ). take k s) h.0

-- ---- the texts of a path block

module _ (s : List ℕ) (b : Place) (P : PathBlock s b) where
  bytes_stand : part s (b.at + 8) 780 ≡ drop 8 (bytes_at s b)
  bytes_stand =
      let n : b.len - 8 ≡ 780 = omega (arith, P.long) in
      sym (part_in s (b.at + 8) 780 (omega (arith, P.inside, P.long))) ∙ sym (rw n at (part_drop 8 b.len b.at s (omega (arith, P.long))))

  units_stand : part s (b.at + 268) 520 ≡ take 520 (drop 268 (bytes_at s b))
  units_stand =
      let n : b.len - 268 ≡ 520 = omega (arith, P.long) in
      sym (part_in s (b.at + 268) 520 (omega (arith, P.inside, P.long)))
      ∙ sym (take-take 520 520 (drop (b.at + 268) s) (omega arith))
      ∙ ap (take 520) (sym (rw n at (part_drop 268 b.len b.at s (omega (arith, P.long)))))

  pub byte_text_is : {x y : List ℕ} → x ≡ part s (b.at + 8) 780 → y ≡ until_zero false x → y ≡ block_text s b
  byte_text_is e f = f ∙ ap (until_zero false) (e ∙ bytes_stand)

  pub unicode_text_is : {x y : List ℕ} → x ≡ part s (b.at + 268) 520 → y ≡ until_zero true x → y ≡ unicode_text (bytes_at s b)
  unicode_text_is e f = f ∙ ap (until_zero true) (e ∙ units_stand)

-- without a block they are empty
pub no_byte_text : (s : List ℕ) → [] ≡ block_text s no_place
unfolding before_zero
no_byte_text s = refl

pub no_unicode_text : (s : List ℕ) → [] ≡ unicode_text (bytes_at s no_place)
unfolding units before_zero
no_unicode_text s = refl

-- ---- whether the key names a driver

first_inside : (s : List ℕ) (r : Record) → AllInside s r → (first_text r).at + (first_text r).len ≤ length s
unfolding first_text
first_inside s r I = go (local_there r.link.flags)
  where
    go : (l : Bool) → (cond l (place_in r local_slot) (place_in r net_slot)).at + (cond l (place_in r local_slot) (place_in r net_slot)).len ≤ length s
    go true = I.body local_slot
    go false = I.body net_slot

pub texts_ready : (s : List ℕ) (r : Record) → AllInside s r
    → ((first_text r).at + (first_text r).len ≤ length s) × ((place_in r suffix_slot).at + (place_in r suffix_slot).len ≤ length s)
texts_ready s r I = (first_inside s r I, I.body suffix_slot)

texts_stand : (s : List ℕ) (r : Record) → AllInside s r → Stands s (texts_of s r)
unfolding texts_of
texts_stand s r I = (first_inside s r I, I.body suffix_slot)

-- a sum has something if one of its numbers has
pub not_none : (n : ℕ) → not (eqb n 0) ≡ leb 1 n
not_none zero = refl
not_none (suc n) = rw (ne_eqb (suc n) 0 (λ e. omega arith), le-leb 1 (suc n) (omega arith))

any_two : (a c : ℕ) → (leb 1 a || leb 1 c) ≡ leb 1 (a + c)
any_two a c = go (leb 1 a) refl (leb 1 c) refl
  where
    go : (x : Bool) → leb 1 a ≡ x → (y : Bool) → leb 1 c ≡ y → (x || y) ≡ leb 1 (a + c)
    go true i y j = sym (le-leb 1 (a + c) (omega (arith, leb-true 1 a i)))
    go false i true j = sym (le-leb 1 (a + c) (omega (arith, leb-true 1 c j)))
    go false i false j = sym (lt-leb 1 (a + c) (omega (arith, leb-false 1 a i, leb-false 1 c j)))

any_byte : (b : Bool) → b ≡ leb 1 (one_or_0 b)
any_byte true = refl
any_byte false = refl

or_no : (x : Bool) → x ≡ (x || false)
or_no true = refl
or_no false = refl

any_three : (a : ℕ) (c : Bool) (d : ℕ) → (not (eqb a 0) || c || not (eqb d 0)) ≡ (leb 1 (a + one_or_0 c + d) || false)
any_three a c d =
    rw (not_none a, not_none d) (ap (λ (x : Bool). leb 1 a || x || leb 1 d) (any_byte c) ∙ rw (any_two a (one_or_0 c), any_two (a + one_or_0 c) d) (or_no (leb 1 (a + one_or_0 c + d))))

module _ (s : List ℕ) (r : Record) (b : Place) {x : List ℕ} (e : x ≡ block_text s b) where
  silent : length x ≡ 0 → says_text (environment s b) ≡ false
  silent z = go (leb 1 b.len)
    where
      empty : leb 1 (length (block_text s b)) ≡ false
      empty = rw (sym (ap length e) ∙ z)

      go : (t : Bool) → says_text (part_if t (block_text s b)) ≡ false
      go true = empty
      go false = refl

  pub named_there : (length x ≡ 0 → ⊥) → true ≡ names_in s r b
  unfolding names_in before_zero
  named_there n = sym (or_right (says_text (part_if (has_target r) (target_text s r))) (says_text (environment s b)) (go (leb 1 b.len) refl))
    where
      long : leb 1 (length (block_text s b)) ≡ true
      long = le-leb 1 (length (block_text s b)) (omega (arith, n, ap length e))

      gone : leb 1 b.len ≡ false → length (block_text s b) ≡ 0
      gone f = let z : b.len ≡ 0 = omega (arith, leb-false 1 b.len f) in rw z

      go : (t : Bool) → leb 1 b.len ≡ t → says_text (part_if t (block_text s b)) ≡ true
      go true f = long
      go false f = absurd (n (ap length e ∙ gone f))

  module _ (z : length x ≡ 0) where
    pub named_nowhere : {h : Bool} → h ≡ has_target r → not h ≡ true → false ≡ names_in s r b
    unfolding names_in
    named_nowhere {h} i k = rw (← i, not-true h k, silent z)

    pub named_target : {h : Bool} {t : Texts} → AllInside s r → h ≡ has_target r → not h ≡ false → t ≡ texts_of s r
        → (not (eqb t.first.len 0) || t.separated || not (eqb t.suffix.len 0)) ≡ names_in s r b
    unfolding names_in
    named_target {h} {t} I i k f =
        let long : length (target_text s r) ≡ texts_length t = ap length (texts_are s r) ∙ rw f (texts_long s (texts_of s r) (texts_stand s r I)) in
        rw (← i, not-false h k, silent z, long) (any_three t.first.len t.separated t.suffix.len)
