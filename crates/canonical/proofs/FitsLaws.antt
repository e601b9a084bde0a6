-- From what the whole asks to what each part asks.
use mathlib.Core.Path.{◌≡◌, refl, sym, ap, ◌∙◌}
use mathlib.Core.List.{List, [], ◌∷◌, map}
use mathlib.Core.Bool.{Bool, true, false, cond}
use Prim.Native.Nat.{ℕ, zero, suc, ◌+◌, ◌≤◌}
use native.Mathlib.Omega.{arith}
use native.Mathlib.Nat.{zero-add}
use lib.ListN.{length, get_or}
use Rattle.format.specs.declared.Link.{Link}
use Rattle.format.specs.declared.Record.{Record}
use Rattle.format.specs.Tests.{no_place}
use Rattle.format.specs.Presence.{items_there, info_there}
use Rattle.format.specs.Volume.{label_least}
use Rattle.format.specs.Shortcut.{most}
use Rattle.format.specs.Contents.{contents}
use Rattle.format.specs.Writing.{canonical}
use Rattle.format.specs.Bodies.{BodyRow, body_row, items_kind, text_kind, string_kind, items_slot, label_slot, blocks_slot, further_slot, place_in, table_of, kept, zeroed, placed}
use Rattle.format.specs.Steps.Lengths.{volume_part, network_part, written_row, written_length}
use Rattle.format.specs.Steps.Shape.{Shape, slot_of, shape_of, no_slot, row_as, rows_from}
use Rattle.format.specs.Steps.Flat.{network_to, info_to}
use Rattle.format.proofs.Bools.{by_order, clash}
use Rattle.format.proofs.PlaceLaws.{slot_inside}
use Rattle.format.proofs.RowLaws.{map_at, along_at}
use Rattle.sizes.specs.Steps.Sizes.{sizes_of}
use Rattle.sizes.proofs.WholeLaws.{canonical-length, exact_row, over_length}
use Rattle.canonical.specs.Steps.Puts.{InBuffer, RowInBuffer, slots_size, info_parts, flat_size, RoomFor}
use Rattle.canonical.proofs.LayoutLaws.{label_least_is, network_head_is, info_head_is}

-- ---- LinkInfo

few_kind : (u : Bool) (a b : ℕ) → a ≤ 8 → b ≤ 8 → cond u a b ≤ 8
few_kind true a b h k = h
few_kind false a b h k = k

module _ (l : Link) (sizes : List ℕ) (few : info_to l sizes ≤ most) where
  pub volume_few : label_least l.label_unicode + get_or sizes label_slot 0 ≤ 131072
  volume_few = omega (arith, label_least_is l.label_unicode, few_kind l.label_unicode 8 4 (omega arith) (omega arith))

  pub network_few : network_to l sizes ≤ 131072
  network_few = omega (arith, network_head_is l.network_unicode, few_kind l.network_unicode 8 0 (omega arith) (omega arith))

beyond : {A : Type 0} (xs : List A) (k : ℕ) (d : A) → length xs ≤ k → get_or xs k d ≡ d
beyond [] k d h = refl
beyond (x ∷ xs) zero d h = absurd (omega arith)
beyond (x ∷ xs) (suc k) d h = beyond xs k d (omega arith)

module _ (q : Record) {s : Shape} (e : s ≡ shape_of q.header.flags q.link) where
  info_parts_lem : {sizes : List ℕ} → sizes ≡ written_row q
      → info_to q.link sizes
      ≡ 28 + cond q.link.long 8 0
      + (get_or sizes further_slot 0
      + (volume_part q.link + (slots_size q.places 1 (rows_from (row_as text_kind s) 1 2) + (network_part q.link + slots_size q.places 3 (rows_from (row_as text_kind s) 3 7)))))
  unfolding slots_size shape_of
  info_parts_lem f = rw (e, f) (omega (arith, info_head_is q.link.long))

  -- where LinkInfo is there, its further bytes have their own size
  pub info_put : info_there q.header.flags ≡ true → {sizes : List ℕ} → sizes ≡ written_row q → info_to q.link sizes ≡ info_parts q s
  info_put i {sizes} f =
      let size : get_or sizes further_slot 0 ≡ (place_in q further_slot).len = rw (f, i) (omega arith) in
      info_parts_lem f ∙ rw size

  -- ---- the whole

  pub total_parts : (i : Bool) → info_there q.header.flags ≡ i
      → written_length q
      ≡ 76
      + (cond (items_there q.header.flags) ((place_in q items_slot).len + 4) 0
      + (cond i (info_to q.link (written_row q)) 0 + (slots_size q.places 10 (rows_from (row_as string_kind s) 10 5) + ((place_in q blocks_slot).len + 4))))
  unfolding slots_size shape_of written_length
  total_parts true i = rw (e, i) (omega arith)
  total_parts false i = rw (e, i) (omega arith)

  -- ---- the bodies

  pub row_inside : (d : List ℕ) → placed (length d) q ≡ true → RowInBuffer d q.places s
  unfolding placed shape_of
  row_inside d h = record {
    slot = λ k t.
        by_order 17 k
        (λ o. clash t (ap (λ (z : Shape). (get_or z k no_slot).there) e ∙ ap (λ x. x.there) (beyond (map slot_of (table_of q)) k no_slot o)))
        (λ o.
        let none : BodyRow = body_row false items_kind in
        let there : (get_or (table_of q) k none).there ≡ true = sym (ap (λ (z : Shape). (get_or z k no_slot).there) e ∙ ap (λ x. x.there) (map_at slot_of (table_of q) k none no_slot o)) ∙ t in
        let same : get_or (zeroed (table_of q) q.places) k no_place ≡ get_or q.places k no_place
        = rw zero-add at (along_at no_place kept 0 (table_of q) q.places k none no_place o) ∙ rw there in
        record { within = rw same at (slot_inside (length d) (zeroed (table_of q) q.places) k h) });
  }

  module _ {d : List ℕ} (r : RowInBuffer d q.places s) where
    pub items_inside : items_there q.header.flags ≡ true → InBuffer d (place_in q items_slot)
    unfolding shape_of
    items_inside t = r.slot items_slot (ap (λ (z : Shape). (get_or z items_slot no_slot).there) e ∙ t)

    pub blocks_inside : InBuffer d (place_in q blocks_slot)
    unfolding shape_of
    blocks_inside = r.slot blocks_slot (ap (λ (z : Shape). (get_or z blocks_slot no_slot).there) e)

    pub further_inside : info_there q.header.flags ≡ true → InBuffer d (place_in q further_slot)
    unfolding shape_of
    further_inside t = r.slot further_slot (ap (λ (z : Shape). (get_or z further_slot no_slot).there) e ∙ t)

  module _ {d out : List ℕ} (f : RoomFor d out q) where
    -- no size was clipped
    pub sizes_exact : {sizes : List ℕ} → sizes ≡ sizes_of q → sizes ≡ written_row q
    sizes_exact g = g ∙ exact_row q (omega (arith, over_length q, canonical-length d q f.inside, f.few))

    pub whole_size : {sizes : List ℕ} → sizes ≡ sizes_of q → flat_size q s sizes ≡ length (canonical (contents d q))
    whole_size g = rw (sizes_exact g) (sym (canonical-length d q f.inside ∙ total_parts (info_there q.header.flags) refl))
