-- Refused with 5: the item list is due and lies in the file, and this is wrong with it.
use mathlib.Core.Path.{◌≡◌, refl, sym, ap, ◌∙◌, subst}
use mathlib.Core.List.{List}
use mathlib.Core.Logic.{◌↔◌}
use mathlib.Core.Bool.{Bool}
use Prim.Native.Nat.{ℕ, ◌+◌, ◌-◌, ◌≤◌}
use native.Mathlib.Omega.{arith}
use lib.ListN.{length, take, drop, length-drop}
use borrow.Author.Tests.{le-leb}
use Rattle.octets.specs.Numbers.{u16_at, u32_at}
use Rattle.format.specs.declared.Profile.{Profile}
use Rattle.format.specs.declared.Place.{Place}
use Rattle.format.specs.declared.Fault.TheVariants.{Cut as CUT, Items as ITEMS}
use Rattle.format.specs.declared.Spot.{Spot}
use Rattle.format.specs.Tests.{section, spot_at, tests, got, refused, place}
use Rattle.format.specs.Presence.{strings_unicode}
use Rattle.format.specs.Items.{item_tests, items_length, items}
use Rattle.format.specs.Shortcut.{most}
use Rattle.format.specs.Demands.{Refuses}
use Rattle.format.proofs.Bools.{by_order}
use Rattle.format.proofs.MendLaws.{refused_elim}
use Rattle.format.proofs.PositionLaws.{number_first, part_drop}
use Rattle.refusals.specs.Due.{Due}
use Rattle.refusals.specs.Wrong.{WrongItems}
use Rattle.refusals.proofs.StepLaws.{no_items, Cuts-items, ended, unended, step, by_items}
use Rattle.refusals.proofs.FileLaws.{DueAt, due_at, at_Due, due_within}
use Rattle.refusals.proofs.FaultLaws.{fault_at, at_fault}
use Rattle.refusals.proofs.ItemLaws.{walk_fails, fails_walk}

items-step : (profile : Profile) (u : Bool) (before : List ℕ) (q : ℕ) (b : List ℕ) → step profile u before 1 q b ≡ ended (items q b)
unfolding step
items-step profile u before q b = refl

module _ (profile : Profile) (s : List ℕ) (q : ℕ) (d : DueAt profile s 1 q) where
  abbrev b : List ℕ
  b = drop q s

  -- where the list ends
  abbrev end : ℕ
  end = q + 2 + u16_at s q

  within : q ≤ length s
  within = due_within profile s 1 q d

  size : items_length b ≡ 2 + u16_at s q
  size = ap (λ (n : ℕ). 2 + n) (number_first 2 q s)

  abbrev value : Place
  value = place (q + 2) (items_length b - 4)

  -- with all its bytes there, the walk decides
  walked : end ≤ length s → items q b ≡ tests (section 1 q) (item_tests ITEMS 2 0 (take (end - (q + 2)) (drop (q + 2) s))) (got value (items_length b))
  walked h =
      let l = length-drop q s in
      let z : items_length b - 2 ≡ end - (q + 2) = omega (arith, size) in
      let x : drop 2 (take (items_length b) b) ≡ take (end - (q + 2)) (drop (q + 2) s)
      = part_drop 2 (items_length b) q s (omega arith) ∙ ap (λ (n : ℕ). take n (drop (q + 2) s)) z in
      rw (le-leb 2 (length b) (omega arith), le-leb (items_length b) (length b) (omega (arith, size)), x)

  -- not cut: all its bytes are there
  whole : {w : Spot} → items q b ≡ refused ITEMS w → end ≤ length s
  whole e =
      by_order end (length s) (λ h. h)
      (λ h.
      let c = Cuts-items.short q b (omega (arith, size, length-drop q s)) in
      absurd (no_items (refused_elim (λ f w. f ≡ CUT) (sym c.is ∙ e) refl)))

  wrong_items : (p : ℕ) {w : Spot} → items q b ≡ refused ITEMS w → w.position ≡ p → WrongItems s q p
  wrong_items p {w} e z =
      let h = whole e in
      let x = walk_fails s 1 q ITEMS end h value (items_length b) end (q + 2) 2 (omega arith) (omega arith) refl (sym (walked h) ∙ e) in
      subst (WrongItems s q) z (record { inside = h; items = x.items; wrong = x.wrong })

  items_wrong : (u : Bool) (p : ℕ) → WrongItems s q p → (before : List ℕ) → (w : Spot) × ((step profile u before 1 q b ≡ refused ITEMS w) × (w.position ≡ p))
  items_wrong u p x before =
      let (i, (y, z)) = fails_walk s 1 q ITEMS end x.inside value (items_length b) p (q + 2) 2 (omega arith) refl x.items x.wrong in
      (spot_at (section 1 q) i, (items-step profile u before q b ∙ ap ended (walked x.inside ∙ y), z))

-- refused with 5 exactly if the item list is due and lies in the file, whole items stand in it up to p, and none stands there, nor the end of the list
pub items_exactly : (profile : Profile) (s : List ℕ) (p : ℕ) → Refuses profile s ITEMS p ↔ ((length s ≤ most) × ((q : ℕ) × (Due profile s 1 q × WrongItems s q p)))
items_exactly profile s p = (
  (λ e.
      let x = fault_at profile s ITEMS p 1 by_items no_items e in
      let q : ℕ = x.start in
      let i = unended (items q (drop q s)) (sym (items-step profile (strings_unicode (u32_at s 20)) x.before q (drop q s)) ∙ x.refusal) in
      (x.limit, (q, (at_Due profile s 1 q x.due, wrong_items profile s q x.due p i x.told)))),
  λ (l, (q, (d, x))). at_fault profile s ITEMS 1 q p l (due_at profile s 1 q d) (items_wrong profile s q (due_at profile s 1 q d) (strings_unicode (u32_at s 20)) p x),
)
