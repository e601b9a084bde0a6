-- Where each known signature first stands: what one block more changes in the row, and the block that a field leads to.
use mathlib.Core.Path.{◌≡◌, refl, sym, ap, ◌∙◌}
use mathlib.Core.List.{List, [], ◌∷◌, ◌++◌}
use mathlib.Core.Bool.{Bool, true, false, not, cond, ◌&&◌}
use Prim.Native.Nat.{ℕ, zero, suc, ◌+◌, ◌-◌, ◌≤◌}
use native.Mathlib.Omega.{arith}
use lib.ListN.{length, drop, get_or, set, length-drop}
use lib.Seq.{drop-drop}
use lib.Dec.{ltb, eqb}
use borrow.Author.Tests.{leb-true, ltb-false, ne_eqb, eqb-true, le-ltb, lt-ltb, not-true}
use Rattle.std.specs.Prelude.{Option, Some, None, SomeIff, unwrap_or}
use Rattle.octets.specs.Numbers.{u32_at}
use Rattle.octets.proofs.NumberLaws.{number_drop}
use Rattle.format.specs.declared.Place.{Place}
use Rattle.format.specs.Tests.{got, no_place}
use Rattle.format.specs.Blocks.{SizeRule, signatures, slot_in, slot_of, slot_at, block_size, blocks_after, blocks, first_place}
use Rattle.format.specs.Steps.Firsts.{first_field, firsts_in, firsts}
use Rattle.format.specs.Shortcut.{sum}
use Rattle.format.proofs.Bools.{and-true}
use Rattle.format.proofs.Chains.{no_value}
use Rattle.format.proofs.BlockLaws.{none_left, step_elim}
use Rattle.blocks.specs.Steps.Walk.{taken, noted, block_from}

-- ---- one block more

module _ (s : List ℕ) (n y : ℕ) where
  abbrev sign : ℕ → ℕ
  sign p = u32_at s (p + 4)

  -- of another signature
  other_more : (a : ℕ) (ls : List ℕ) → eqb (sign (a + sum ls)) y ≡ false → first_field s y a (ls ++ n ∷ []) ≡ first_field s y a ls
  other_more a [] e = let z : a + 0 ≡ a = omega arith in rw (rw z at e)
  other_more a (m ∷ ms) e =
      let z : a + (m + sum ms) ≡ a + m + sum ms = omega arith in
      let f = other_more (a + m) ms (rw z at e) in
      rw f

  abbrev kept : ℕ → ℕ → ℕ
  kept old new = cond (eqb old 0) new old

  kept_some : (x v : ℕ) → x + 4 ≡ kept (x + 4) v
  kept_some x v = rw (ne_eqb (x + 4) 0 (λ e. omega arith))

  -- of this one: a field that is there stays
  same_more : (a : ℕ) (ls : List ℕ) → eqb (sign (a + sum ls)) y ≡ true → first_field s y a (ls ++ n ∷ []) ≡ kept (first_field s y a ls) (a + sum ls + 4)
  same_more a [] e = let z : a + 0 ≡ a = omega arith in rw (z, rw z at e)
  same_more a (m ∷ ms) e =
      let z : a + (m + sum ms) ≡ a + m + sum ms = omega arith in
      go (eqb (sign a) y) (rw z (same_more (a + m) ms (rw z at e)))
    where
      go : (b : Bool) → first_field s y (a + m) (ms ++ n ∷ []) ≡ kept (first_field s y (a + m) ms) (a + (m + sum ms) + 4)
          → cond b (a + 4) (first_field s y (a + m) (ms ++ n ∷ [])) ≡ kept (cond b (a + 4) (first_field s y (a + m) ms)) (a + (m + sum ms) + 4)
      go true f = kept_some a (a + (m + sum ms) + 4)
      go false f = f

-- no signature stands twice in the table
abbrev apart_from : ℕ → List (ℕ × SizeRule) → Bool
apart_from x [] = true
apart_from x (r ∷ rs) = not (eqb x r.0) && apart_from x rs

abbrev all_apart : List (ℕ × SizeRule) → Bool
all_apart [] = true
all_apart (r ∷ rs) = apart_from r.0 rs && all_apart rs

taken_later : (x v : ℕ) (row : List ℕ) (k : ℕ) → x ∷ taken row k v ≡ taken (x ∷ row) (suc k) v
unfolding taken
taken_later x v row k = go (eqb (get_or row k 0) 0)
  where
    go : (b : Bool) → x ∷ cond b (set row k v) row ≡ cond b (x ∷ set row k v) (x ∷ row)
    go true = refl
    go false = refl

taken_here : (x v : ℕ) (row : List ℕ) → cond (eqb x 0) v x ∷ row ≡ taken (x ∷ row) 0 v
unfolding taken
taken_here x v row = go (eqb x 0)
  where
    go : (b : Bool) → cond b v x ∷ row ≡ cond b (v ∷ row) (x ∷ row)
    go true = refl
    go false = refl

module _ (s : List ℕ) (n a : ℕ) (ls : List ℕ) where
  abbrev x : ℕ
  x = u32_at s (a + sum ls + 4)

  abbrev v : ℕ
  v = a + sum ls + 4

  none_more : (t : List (ℕ × SizeRule)) → apart_from x t ≡ true → firsts_in t s a (ls ++ n ∷ []) ≡ firsts_in t s a ls
  none_more [] h = refl
  none_more (r ∷ rs) h =
      let i = and-true (not (eqb x r.0)) (apart_from x rs) h in
      let f = other_more s n r.0 a ls (not-true (eqb x r.0) i.0) in
      let g = none_more rs i.1 in
      rw (f, g)

  more_in : (t : List (ℕ × SizeRule)) → all_apart t ≡ true → firsts_in t s a (ls ++ n ∷ []) ≡ taken (firsts_in t s a ls) (slot_in t x) v
  unfolding taken
  more_in [] h = refl
  more_in (r ∷ rs) h =
      let i = and-true (apart_from r.0 rs) (all_apart rs) h in
      go i.0 (more_in rs i.1) (eqb x r.0) refl
    where
      go : apart_from r.0 rs ≡ true → firsts_in rs s a (ls ++ n ∷ []) ≡ taken (firsts_in rs s a ls) (slot_in rs x) v → (b : Bool) → eqb x r.0 ≡ b
          → first_field s r.0 a (ls ++ n ∷ []) ∷ firsts_in rs s a (ls ++ n ∷ []) ≡ taken (first_field s r.0 a ls ∷ firsts_in rs s a ls) (cond b 0 (suc (slot_in rs x))) v
      go i k true e =
          let f = same_more s n r.0 a ls e in
          let q : x ≡ r.0 = eqb-true x r.0 e in
          let g = none_more rs (rw q i) in
          rw (f, g) (taken_here (first_field s r.0 a ls) v (firsts_in rs s a ls))
      go i k false e =
          let f = other_more s n r.0 a ls e in
          rw (f, k) (taken_later (first_field s r.0 a ls) v (firsts_in rs s a ls) (slot_in rs x))

-- a slot beyond the row notes nothing
taken_beyond : (row : List ℕ) (k v : ℕ) → length row ≤ k → row ≡ taken row k v
unfolding taken
taken_beyond [] k v h = refl
taken_beyond (x ∷ row) zero v h = absurd (omega arith)
taken_beyond (x ∷ row) (suc k) v h = ap (λ (l : List ℕ). x ∷ l) (taken_beyond row k v (omega arith)) ∙ taken_later x v row k

pub firsts_more : (s : List ℕ) (n a : ℕ) (ls : List ℕ) → firsts s a (ls ++ n ∷ []) ≡ noted (firsts s a ls) (slot_of (u32_at s (a + sum ls + 4))) (a + sum ls + 4)
unfolding firsts slot_of noted
firsts_more s n a ls = more_in s n a ls signatures refl ∙ go (ltb k 11) refl
  where
    k : ℕ
    k = slot_in signatures (u32_at s (a + sum ls + 4))

    row : List ℕ
    row = firsts_in signatures s a ls

    go : (b : Bool) → ltb k 11 ≡ b → taken row k (a + sum ls + 4) ≡ cond b (taken row k (a + sum ls + 4)) row
    go true e = refl
    go false e = sym (taken_beyond row k (a + sum ls + 4) (ltb-false k 11 e))

-- ---- the block that a field leads to

pub record First (s : List ℕ) (signature p : ℕ) (lengths : List ℕ) : Type 0 where
  pub block : block_from s (first_field s signature p lengths) ≡ first_place s signature p lengths
  pub inside : (first_place s signature p lengths).at + (first_place s signature p lengths).len ≤ length s
  pub field : first_field s signature p lengths ≤ length s
  pub sized : ((first_place s signature p lengths).len ≡ 0 → ⊥) → 8 ≤ (first_place s signature p lengths).len
  pub there : 4 ≤ first_field s signature p lengths → 8 ≤ (first_place s signature p lengths).len

none_First : (s : List ℕ) (signature p : ℕ) → First s signature p []
unfolding block_from
none_First s signature p = record { block = refl; inside = omega arith; field = omega arith; sized = λ z. absurd (z refl); there = λ z. absurd (omega arith) }

First-read : (k : ℕ) (s before : List ℕ) (signature p : ℕ) (lengths : List ℕ) (n : ℕ) → length (drop p s) ≤ k → blocks_after before p (drop p s) ≡ got lengths n → First s signature p lengths
unfolding block_from
First-read zero s before signature p lengths n l e = no_value (sym (none_left before p (drop p s) (omega arith)) ∙ e)
First-read (suc k) s before signature p lengths n l e =
    step_elim before p (drop p s) (λ lengths n. First s signature p lengths)
    (λ h t. none_First s signature p)
    (λ c o ls m i.
    let size : ℕ = block_size (drop p s) in
    let b : 8 ≤ size = leb-true 8 size c.0 in
    let w : size ≤ length (drop p s) = leb-true size (length (drop p s)) c.1.0 in
    let at : size ≡ u32_at s p = number_drop 4 p s 0 ∙ ap (u32_at s) (omega arith) in
    let j : blocks_after (slot_at (drop p s) ∷ before) (p + size) (drop (p + size) s) ≡ got ls m = rw (drop-drop size p s) at i in
    let d = length-drop p s in
    let f = First-read k s (slot_at (drop p s) ∷ before) signature (p + size) ls m (omega (arith, length-drop (p + size) s)) j in
    go size at b (omega arith) ls f (eqb (u32_at s (p + 4)) signature) refl)
    lengths n e
  where
    go : (size : ℕ) → size ≡ u32_at s p → 8 ≤ size → p + size ≤ length s → (ls : List ℕ) → First s signature (p + size) ls → (b : Bool) → eqb (u32_at s (p + 4)) signature ≡ b
        → First s signature p (size ∷ ls)
    go size at big w ls f true e =
        let q : p + 4 - 4 ≡ p = omega arith in
        record {
          block = rw (e, le-ltb (p + 4) 4 (omega arith), q, ← at);
          inside = rw e w;
          field = rw e (omega arith);
          sized = rw e (λ z. big);
          there = rw e (λ z. big);
        }
    go size at big w ls f false e = record {
      block = rw e f.block;
      inside = rw e f.inside;
      field = rw e f.field;
      sized = rw e f.sized;
      there = rw e f.there;
    }

-- what a field leads to, as a place
pub place_from : (s : List ℕ) (field : ℕ) (b : Option Place) → SomeIff b (4 ≤ field) (block_from s field) → unwrap_or b no_place ≡ block_from s field
unfolding block_from
place_from s field (Some x) h = h.1
place_from s field None h = rw (lt-ltb field 4 (omega arith))

pub First-block : (s : List ℕ) (signature p : ℕ) (lengths : List ℕ) (n : ℕ) → blocks p (drop p s) ≡ got lengths n → First s signature p lengths
First-block s signature p lengths n e = First-read (length (drop p s)) s [] signature p lengths n (omega arith) e
