-- The slots that are free: what one block more changes.
use mathlib.Core.Path.{◌≡◌, refl, ◌∙◌}
use mathlib.Core.List.{List, [], ◌∷◌}
use mathlib.Core.Bool.{Bool, true, false, not, ◌&&◌, cond}
use Prim.Native.Nat.{ℕ, ◌+◌, ◌<◌}
use native.Mathlib.Omega.{arith}
use lib.ListN.{length, get_or, set, length-set, get_or-replicate}
use lib.Seq.{get_or-set_same, get_or-set_other}
use lib.Dec.{ltb, eqb}
use borrow.Author.Tests.{ltb-true, lt-ltb, eqb-true, eqb-false, eq-eqb, ne_eqb}
use Rattle.format.specs.Blocks.{known, once}
use Rattle.format.specs.Shortcut.{most}
use Rattle.format.proofs.Bools.{clash}
use Rattle.blocks.specs.Steps.Walk.{no_firsts, field_of, is_free, taken, noted}

field_some : (p : ℕ) → field_of p ≡ 0 → ⊥
field_some p = go (ltb p most)
  where
    go : (b : Bool) → cond b (p + 4) (most + 4) ≡ 0 → ⊥
    go true e = omega arith
    go false e = omega arith

-- at the start all are
pub none_taken : (slot : ℕ) → is_free no_firsts slot ≡ once [] slot
unfolding is_free
none_taken slot = go (ltb slot 11) refl
  where
    go : (b : Bool) → ltb slot 11 ≡ b → cond b (eqb (get_or no_firsts slot 0) 0) true ≡ not (b && false)
    go true e = eq-eqb (get_or no_firsts slot 0) 0 (get_or-replicate 11 slot 0 0 (ltb-true slot 11 e))
    go false e = refl

-- a block of another slot changes nothing for this one, and one that is not known nothing at all
other_slot : (before : List ℕ) (k slot : ℕ) → eqb slot k ≡ false → once before slot ≡ once (k ∷ before) slot
other_slot before k slot e = rw e

unknown_slot : (before : List ℕ) (k slot : ℕ) → known k ≡ false → once before slot ≡ once (k ∷ before) slot
unknown_slot before k slot u = go (eqb slot k) refl
  where
    go : (b : Bool) → eqb slot k ≡ b → once before slot ≡ once (k ∷ before) slot
    go true e = let q : slot ≡ k = eqb-true slot k e in rw (q, u)
    go false e = other_slot before k slot e

module _ (row before : List ℕ) (k p : ℕ) (wide : length row ≡ 11) (h : (slot : ℕ) → is_free row slot ≡ once before slot) (slot : ℕ) where
  -- the slot is set
  set_slot : k < 11 → (b : Bool) → eqb slot k ≡ b → is_free (set row k (field_of p)) slot ≡ once (k ∷ before) slot
  unfolding is_free
  set_slot l true e =
      let q : slot ≡ k = eqb-true slot k e in
      rw (q, lt-ltb k 11 l, get_or-set_same row k (field_of p) 0 (omega arith), ne_eqb (field_of p) 0 (field_some p), eq-eqb k k refl)
  set_slot l false e = rw (get_or-set_other row k slot (field_of p) 0 (eqb-false slot k e)) (h slot ∙ other_slot before k slot e)

  -- a block that finds its slot free takes it, and no other
  pub free_more : is_free row k ≡ true → is_free (noted row k (field_of p)) slot ≡ once (k ∷ before) slot
  unfolding is_free noted taken
  free_more f = go (ltb k 11) refl f
    where
      go : (b : Bool) → ltb k 11 ≡ b → cond b (eqb (get_or row k 0) 0) true ≡ true
          → is_free (cond b (cond (eqb (get_or row k 0) 0) (set row k (field_of p)) row) row) slot ≡ once (k ∷ before) slot
      go true e f = rw f (set_slot (ltb-true k 11 e) (eqb slot k) refl)
      go false e f = h slot ∙ unknown_slot before k slot e

pub wide_more : (row : List ℕ) (k v : ℕ) → length (noted row k v) ≡ length row
unfolding noted taken
wide_more row k v = go (ltb k 11) (eqb (get_or row k 0) 0)
  where
    go : (b c : Bool) → length (cond b (cond c (set row k v) row) row) ≡ length row
    go true true = length-set row k v
    go true false = refl
    go false c = refl

-- a slot that is taken stays as it is
pub taken_stays : (row : List ℕ) (k v : ℕ) → is_free row k ≡ false → noted row k v ≡ row
unfolding is_free noted taken
taken_stays row k v f = go (ltb k 11) (eqb (get_or row k 0) 0) f
  where
    go : (b c : Bool) → cond b c true ≡ false → cond b (cond c (set row k v) row) row ≡ row
    go true true e = clash refl e
    go true false e = refl
    go false c e = refl
