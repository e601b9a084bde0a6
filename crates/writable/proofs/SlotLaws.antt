-- A test of the slots one after another: it holds where it holds of each that is there, and fails where it fails of one.
use mathlib.Core.Path.{◌≡◌, refl, sym, ap, ◌∙◌}
use mathlib.Core.List.{List, [], ◌∷◌}
use mathlib.Core.Bool.{Bool, true, false, ◌&&◌}
use Prim.Native.Nat.{ℕ, zero, suc, ◌+◌, ◌-◌, ◌≤◌, ◌<◌}
use lib.ListN.{get_or}
use lib.Dec.{leb}
use borrow.Author.Tests.{le-leb}
use native.Mathlib.Omega.{arith}
use Rattle.format.specs.declared.Place.{Place}
use Rattle.format.specs.declared.Record.{Record}
use Rattle.format.specs.Tests.{no_place}
use Rattle.format.specs.Bodies.{BodyRow, items_kind, table_of, along, kept, all_inside, placed}
use Rattle.format.specs.Contents.{bytes_at}
use Rattle.format.specs.Writing.{every, writable_body}
use Rattle.format.specs.Steps.Shape.{Shape, shape_of, no_slot, row_as, rows_from}
use Rattle.format.proofs.Bools.{by_order, and_no}
use Rattle.writable.specs.Steps.Slots.{kind_at, slot_row, row_ok, slots_ok}

module _ (F : BodyRow → Place → Bool) (row : ℕ → BodyRow) (ps : List Place) where
  abbrev holds : ℕ → Bool
  holds k = F (row k) (get_or ps k no_place)

  abbrev all_of : ℕ → ℕ → Bool
  all_of m k = every (along no_place F k (rows_from row k m) ps)

  of_each : (m k : ℕ) → ((j : ℕ) → k ≤ j → j < k + m → holds j ≡ true) → all_of m k ≡ true
  of_each zero k h = refl
  of_each (suc m) k h = rw (h k (omega arith) (omega arith), of_each m (k + 1) (λ j a b. h j (omega arith) (omega arith)))

  of_one : (m k j : ℕ) → k ≤ j → j < k + m → holds j ≡ false → all_of m k ≡ false
  of_one zero k j a b e = absurd (omega arith)
  of_one (suc m) k j a b e = by_order j k (λ h. let i : j ≡ k = omega arith in rw (← i, e)) (λ h. rw (of_one m (k + 1) j (omega arith) (omega arith) e) (and_no (holds k)))

-- ---- the places

abbrev pub inside_at : ℕ → List Place → ℕ → Bool
inside_at n ps k = leb ((get_or ps k no_place).at + (get_or ps k no_place).len) n

abbrev inside_row : ℕ → BodyRow → Place → Bool
inside_row n b p = leb ((kept b p).at + (kept b p).len) n

inside_every : (n k : ℕ) (bs : List BodyRow) (ps : List Place) → all_inside n (along no_place kept k bs ps) ≡ every (along no_place (inside_row n) k bs ps)
inside_every n k [] ps = refl
inside_every n k (b ∷ bs) ps = ap (λ (t : Bool). inside_row n b (get_or ps k no_place) && t) (inside_every n (k + 1) bs ps)

-- presence alone counts
abbrev there_row : Shape → ℕ → BodyRow
there_row = row_as (λ u. items_kind)

module _ (n : ℕ) (q : Record) {s : Shape} (e : s ≡ shape_of q.header.flags q.link) where
  placed_all : all_of (inside_row n) (there_row s) q.places 17 0 ≡ placed n q
  unfolding placed shape_of
  placed_all = rw e (sym (inside_every n 0 (table_of q) q.places))

  pub placed_each : ((k : ℕ) → k < 17 → (get_or s k no_slot).there ≡ true → inside_at n q.places k ≡ true) → true ≡ placed n q
  placed_each h = sym (of_each (inside_row n) (there_row s) q.places 17 0 (λ k a b. go k (get_or s k no_slot).there refl b)) ∙ placed_all
    where
      go : (k : ℕ) (t : Bool) → (get_or s k no_slot).there ≡ t → k < 0 + 17 → inside_row n (there_row s k) (get_or q.places k no_place) ≡ true
      go k true f b = rw f (h k (omega arith) f)
      go k false f b = rw f (le-leb (0 + 0) n (omega arith))

  pub placed_one : (k : ℕ) → k < 17 → (get_or s k no_slot).there ≡ true → inside_at n q.places k ≡ false → false ≡ placed n q
  placed_one k b t f = sym (of_one (inside_row n) (there_row s) q.places 17 0 k (omega arith) (omega arith) (rw t f)) ∙ placed_all

-- ---- the rules of the bodies

abbrev pub ok_at : List ℕ → List Place → Shape → ℕ → Bool
ok_at d ps s k = writable_body (kind_at k (get_or s k no_slot).wide) (bytes_at d (get_or ps k no_place))

module _ (d : List ℕ) (ps : List Place) (s : Shape) (from to : ℕ) (span : from ≤ to) where
  pub slots_each : ((k : ℕ) → from ≤ k → k < to → (get_or s k no_slot).there ≡ true → ok_at d ps s k ≡ true) → true ≡ slots_ok d ps s from (to - from)
  unfolding slots_ok
  slots_each h = sym (of_each (row_ok d) (slot_row s) ps (to - from) from (λ k a b. go k (get_or s k no_slot).there refl a b))
    where
      go : (k : ℕ) (t : Bool) → (get_or s k no_slot).there ≡ t → from ≤ k → k < from + (to - from) → row_ok d (slot_row s k) (get_or ps k no_place) ≡ true
      go k true f a b = rw f (h k a (omega arith) f)
      go k false f a b = rw f

  pub slots_one : (k : ℕ) → from ≤ k → k < to → (get_or s k no_slot).there ≡ true → ok_at d ps s k ≡ false → false ≡ slots_ok d ps s from (to - from)
  unfolding slots_ok
  slots_one k a b t f = sym (of_one (row_ok d) (slot_row s) ps (to - from) from k a (omega arith) (rw t f))
