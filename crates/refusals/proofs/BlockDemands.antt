-- Refused with 8, 14 and 15: a block is due, its size is there, and this is wrong with it.
use mathlib.Core.Path.{◌≡◌, refl, sym, ap, ◌∙◌, subst}
use mathlib.Core.List.{List}
use mathlib.Core.Logic.{◌↔◌}
use mathlib.Core.Bool.{Bool, true, false, ◌&&◌}
use Prim.Native.Nat.{ℕ, ◌+◌, ◌-◌, ◌≤◌}
use native.Mathlib.Omega.{arith}
use lib.ListN.{length, take, drop, length-drop}
use borrow.Author.Tests.{not-false}
use Rattle.octets.specs.Numbers.{u32_at}
use Rattle.octets.proofs.NumberLaws.{number_drop}
use Rattle.format.specs.declared.Profile.{Profile}
use Rattle.format.specs.declared.Fault.{Fault}
use Rattle.format.specs.declared.Fault.TheVariants.{Block as BLOCK, Store as STORE, Twice as TWICE}
use Rattle.format.specs.declared.Spot.{Spot}
use Rattle.format.specs.Tests.{all, spot_at, refused}
use Rattle.format.specs.Presence.{strings_unicode}
use Rattle.format.specs.Blocks.{slot_of, slot_at, block_size, block_rules, block, known, once, is_among}
use Rattle.format.specs.Shortcut.{most}
use Rattle.format.specs.Demands.{Refuses}
use Rattle.format.proofs.Bools.{and-true}
use Rattle.format.proofs.Chains.{Pass, all-Pass, Pass-all}
use Rattle.format.proofs.MendLaws.{Each-held}
use Rattle.format.proofs.PathLaws.{known_tells}
use Rattle.format.proofs.PositionLaws.{number_first}
use Rattle.refusals.specs.Due.{Due}
use Rattle.refusals.specs.Wrong.{FirstFails, WrongBlock, small, held, WrongStore, rule, Second}
use Rattle.refusals.proofs.StepLaws.{no_block, no_store, no_twice, block_here, ended, unended, step, by_block, by_store, by_twice}
use Rattle.refusals.proofs.ReachLaws.{block_step}
use Rattle.refusals.proofs.FileLaws.{DueAt, EarlierIn, due_at, at_Due, due_within, resumed}
use Rattle.refusals.proofs.CutLaws.{spot_Refuses}
use Rattle.refusals.proofs.FailLaws.{first_Each}
use Rattle.refusals.proofs.HeldLaws.{held_first, first_held, store_first, first_store}
use Rattle.refusals.proofs.FaultLaws.{fault_at, at_fault, block_fails, block_small, block_refuses, block_second}

module _ (profile : Profile) (s : List ℕ) (q : ℕ) (d : DueAt profile s 9 q) where
  abbrev b : List ℕ
  b = drop q s

  long : length b ≡ length s - q
  long = length-drop q s

  within : q ≤ length s
  within = due_within profile s 9 q d

  size : block_size b ≡ u32_at s q
  size = number_first 4 q s

  rules : (f : Fault) (i : ℕ) → FirstFails (block_rules (take (block_size b) b)) f i → FirstFails (block_rules (take (u32_at s q) b)) f i
  rules f i x = subst (λ (n : ℕ). FirstFails (block_rules (take n b)) f i) size x

  back : (f : Fault) (i : ℕ) → FirstFails (block_rules (take (u32_at s q) b)) f i → FirstFails (block_rules (take (block_size b) b)) f i
  back f i x = subst (λ (n : ℕ). FirstFails (block_rules (take n b)) f i) (sym size) x

  wrong_block : (before : List ℕ) (p : ℕ) {w : Spot} → block_here before q b ≡ refused BLOCK w → w.position ≡ p → WrongBlock s q p
  wrong_block before p e z =
      block_fails before q b e no_block
      (λ h k l f v. subst (WrongBlock s q) (omega (arith, ap (λ (w : Spot). w.position) v)) (small (omega (arith, long, within)) (omega (arith, size)) (omega (arith, size))))
      (λ h k i x v.
      let least : 8 ≤ u32_at s q = omega (arith, size) in
      let inside : q + u32_at s q ≤ length s = omega (arith, long, within, size) in
      subst (WrongBlock s q) (sym (ap (λ (w : Spot). w.position) v) ∙ z) (held (q + i) least inside (held_first s q (u32_at s q) least inside i (rules BLOCK i x))))
      (λ h k c o f v. absurd (let y : ◌≡◌ {A = ℕ} 0 1 = cc in omega arith))

  block_wrong : (u : Bool) (p : ℕ) → WrongBlock s q p → (before : List ℕ) → (w : Spot) × ((step profile u before 9 q b ≡ refused BLOCK w) × (w.position ≡ p))
  block_wrong u p (small h k l) before =
      (spot_at (block q) 0, (block_step profile u before q b ∙ ap ended (block_small before q b (omega (arith, long, within)) (omega (arith, size)) (omega (arith, size))), omega arith))
  block_wrong u p (held r h k x) before =
      let (i, (y, z)) = first_held s q (u32_at s q) h k p x in
      (spot_at (block q) i, (block_step profile u before q b ∙ ap ended (block_refuses before q b BLOCK i (omega (arith, size)) (omega (arith, long, within, size)) (back BLOCK i y)), z))

  wrong_store : (before : List ℕ) (p : ℕ) {w : Spot} → block_here before q b ≡ refused STORE w → w.position ≡ p → WrongStore s q p
  wrong_store before p e z =
      block_fails before q b e no_store
      (λ h k l f v. absurd (let y : ◌≡◌ {A = ℕ} 0 1 = cc in omega arith))
      (λ h k i x v. subst (WrongStore s q) (sym (ap (λ (w : Spot). w.position) v) ∙ z) (rule i (omega (arith, size)) (omega (arith, long, within, size)) (store_first (take (u32_at s q) b) i (rules STORE i x))))
      (λ h k c o f v. absurd (let y : ◌≡◌ {A = ℕ} 0 1 = cc in omega arith))

  store_wrong : (u : Bool) (p : ℕ) → WrongStore s q p → (before : List ℕ) → (w : Spot) × ((step profile u before 9 q b ≡ refused STORE w) × (w.position ≡ p))
  store_wrong u p (rule i h k x) before =
      (spot_at (block q) i, (block_step profile u before q b ∙ ap ended (block_refuses before q b STORE i (omega (arith, size)) (omega (arith, long, within, size)) (back STORE i (first_store (take (u32_at s q) b) i x))), refl))

-- a block's own rules do not give TWICE
never_twice : (b : List ℕ) (i : ℕ) → FirstFails (block_rules b) TWICE i → ⊥
never_twice b i x =
    first_Each (λ f i. f ≡ TWICE → ⊥) (block_rules b) TWICE i
    (Each-held (λ f. f ≡ TWICE → ⊥) (λ e. let z : ◌≡◌ {A = ℕ} 0 1 = cc in omega arith) (λ e. let z : ◌≡◌ {A = ℕ} 0 1 = cc in omega arith) b) x refl

module _ (profile : Profile) (s : List ℕ) (q : ℕ) (d : DueAt profile s 9 q) where
  signature : (r : ℕ) → u32_at (drop r s) 4 ≡ u32_at s (r + 4)
  signature r = number_drop 4 r s 4

  Second-from : (r : ℕ) → r + 8 ≤ q → DueAt profile s 9 r → slot_at (drop r s) ≡ slot_at (drop q s) → known (slot_at (drop q s)) ≡ true → 8 ≤ block_size (drop q s) → block_size (drop q s) ≤ length (drop q s)
      → Pass (block_rules (take (block_size (drop q s)) (drop q s))) → Second profile s q
  Second-from r o c e k h l p = record {
    least = omega (arith, number_first 4 q s);
    inside = omega (arith, number_first 4 q s, length-drop q s);
    rules = subst (λ (n : ℕ). all (block_rules (take n (drop q s))) ≡ true) (number_first 4 q s) (Pass-all (block_rules (take (block_size (drop q s)) (drop q s))) p);
    known = subst (λ (x : ℕ). known (slot_of x) ≡ true) (signature q) k;
    first = r;
    earlier = o;
    due = at_Due profile s 9 r c;
    same = sym (signature r) ∙ known_tells (u32_at (drop r s) 4) (u32_at (drop q s) 4) k e ∙ signature q;
  }

  wrong_Second : (p : ℕ) (before : List ℕ) {w : Spot} → ((x : ℕ) → is_among x before ≡ true → EarlierIn profile s q x) → block_here before q (drop q s) ≡ refused TWICE w → w.position ≡ p → (p ≡ q + 4) × Second profile s q
  wrong_Second p before from e z =
      block_fails before q (drop q s) e no_twice
      (λ h k l f v. absurd (let y : ◌≡◌ {A = ℕ} 0 1 = cc in omega arith))
      (λ h k i x v. absurd (never_twice (take (block_size (drop q s)) (drop q s)) i x))
      (λ h k c o f v.
      let (kn, am) = and-true (known (slot_at (drop q s))) (is_among (slot_at (drop q s)) before) (not-false (known (slot_at (drop q s)) && is_among (slot_at (drop q s)) before) o) in
      let (r, (y, (t, u))) = from (slot_at (drop q s)) am in
      (sym z ∙ ap (λ (w : Spot). w.position) v, Second-from r y t u kn h k c))

  Second-wrong : length s ≤ most → Second profile s q → Refuses profile s TWICE (q + 4)
  Second-wrong l x =
      let b : List ℕ = drop q s in
      let y = resumed profile (u32_at s 20) s (λ h. refl) l 9 q d in
      let e : slot_at (drop x.first s) ≡ slot_at b = ap slot_of (signature x.first ∙ x.same ∙ sym (signature q)) in
      let k : known (slot_at b) ≡ true = subst (λ (n : ℕ). known (slot_of n) ≡ true) (sym (signature q)) x.known in
      let a : is_among (slot_at b) y.before ≡ true = y.seen (slot_at b) (x.first, (x.earlier, (due_at profile s 9 x.first x.due, e))) in
      let o : once y.before (slot_at b) ≡ false = rw (k, a) in
      let c : Pass (block_rules (take (block_size b) b)) = all-Pass (block_rules (take (block_size b) b)) (subst (λ (n : ℕ). all (block_rules (take n b)) ≡ true) (sym (number_first 4 q s)) x.rules) in
      let r = block_second y.before q b (omega (arith, number_first 4 q s, x.least)) (omega (arith, number_first 4 q s, length-drop q s, x.inside)) c o in
      spot_Refuses profile s (y.on (block_step profile (strings_unicode (u32_at s 20)) y.before q b ∙ ap ended r))

-- refused with 14 exactly if a block is due that keeps all its own rules, its signature is one of the table's, and an earlier block has it too; at that signature
pub twice_exactly : (profile : Profile) (s : List ℕ) (p : ℕ) → Refuses profile s TWICE p ↔ ((length s ≤ most) × ((q : ℕ) × (Due profile s 9 q × ((p ≡ q + 4) × Second profile s q))))
twice_exactly profile s p = (
  (λ e.
      let x = fault_at profile s TWICE p 9 by_twice no_twice e in
      let q : ℕ = x.start in
      let i = unended (block_here x.before q (drop q s)) (sym (block_step profile (strings_unicode (u32_at s 20)) x.before q (drop q s)) ∙ x.refusal) in
      (x.limit, (q, (at_Due profile s 9 q x.due, wrong_Second profile s q x.due p x.before x.from i x.told)))),
  λ (l, (q, (d, (z, x)))). rw z (Second-wrong profile s q (due_at profile s 9 q d) l x),
)

-- refused with 8 exactly if a block is due and its size is 4 to 7, or it lies in the file and the first rule that it breaks is one of its size, its texts or its items
pub block_exactly : (profile : Profile) (s : List ℕ) (p : ℕ) → Refuses profile s BLOCK p ↔ ((length s ≤ most) × ((q : ℕ) × (Due profile s 9 q × WrongBlock s q p)))
block_exactly profile s p = (
  (λ e.
      let x = fault_at profile s BLOCK p 9 by_block no_block e in
      let q : ℕ = x.start in
      let i = unended (block_here x.before q (drop q s)) (sym (block_step profile (strings_unicode (u32_at s 20)) x.before q (drop q s)) ∙ x.refusal) in
      (x.limit, (q, (at_Due profile s 9 q x.due, wrong_block profile s q x.due x.before p i x.told)))),
  λ (l, (q, (d, x))). at_fault profile s BLOCK 9 q p l (due_at profile s 9 q d) (block_wrong profile s q (due_at profile s 9 q d) (strings_unicode (u32_at s 20)) p x),
)

-- refused with 15 exactly if a block is due and lies in the file, and the first rule that it breaks is one of its property store
pub store_exactly : (profile : Profile) (s : List ℕ) (p : ℕ) → Refuses profile s STORE p ↔ ((length s ≤ most) × ((q : ℕ) × (Due profile s 9 q × WrongStore s q p)))
store_exactly profile s p = (
  (λ e.
      let x = fault_at profile s STORE p 9 by_store no_store e in
      let q : ℕ = x.start in
      let i = unended (block_here x.before q (drop q s)) (sym (block_step profile (strings_unicode (u32_at s 20)) x.before q (drop q s)) ∙ x.refusal) in
      (x.limit, (q, (at_Due profile s 9 q x.due, wrong_store profile s q x.due x.before p i x.told)))),
  λ (l, (q, (d, x))). at_fault profile s STORE 9 q p l (due_at profile s 9 q d) (store_wrong profile s q (due_at profile s 9 q d) (strings_unicode (u32_at s 20)) p x),
)
