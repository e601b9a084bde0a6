-- What is wrong with a block that lies in the file, by its signature.
use mathlib.Core.Path.{◌≡◌, refl, sym, ap, ◌∙◌, subst}
use mathlib.Core.List.{List, []}
use mathlib.Core.Bool.{Bool, true, false, cond, ◌||◌}
use Prim.Native.Nat.{ℕ, ◌+◌, ◌-◌, ◌≤◌}
use native.Mathlib.Omega.{arith}
use lib.ListN.{length, take, drop}
use lib.Dec.{eqb}
use borrow.Author.Tests.{eqb-true}
use Rattle.format.specs.declared.Fault.TheVariants.{Block as BLOCK, Store as STORE}
use Rattle.format.specs.declared.Spot.{Spot}
use Rattle.format.specs.Tests.{Test, section, spot_at, tests, got, refused}
use Rattle.format.specs.Items.{item_tests}
use Rattle.format.specs.Store.{store_tests}
use Rattle.format.specs.Blocks.{slot_of, slot_at, size_fits, path_tests, inside_tests, block_rules}
use Rattle.format.proofs.Bools.{clash, or-true}
use Rattle.format.proofs.EachLaws.{Each}
use Rattle.format.proofs.ItemsLaws.{item_OfFault}
use Rattle.format.proofs.StoreLaws.{store_OfFault}
use Rattle.format.proofs.MendLaws.{Each-fault, no_refusal}
use Rattle.format.proofs.PositionLaws.{part_drop}
use Rattle.refusals.specs.Wrong.{FirstFails, ItemsTo, WrongItem, is_path_block, WrongHeld, misfit, text, items, WrongHeldStore}
use Rattle.refusals.proofs.FailLaws.{tests_first, first_tests, first_Each}
use Rattle.refusals.proofs.ItemLaws.{walk_fails, fails_walk}

-- tests of one fault give no other
no_store_first : (ts : List Test) (i : ℕ) → Each (λ f i. f ≡ BLOCK) ts → FirstFails ts STORE i → ⊥
no_store_first ts i h x = let y = first_Each (λ f i. f ≡ BLOCK) ts STORE i h x in let z : ◌≡◌ {A = ℕ} 0 1 = cc in omega arith

no_block_first : (ts : List Test) (i : ℕ) → Each (λ f i. f ≡ STORE) ts → FirstFails ts BLOCK i → ⊥
no_block_first ts i h x = let y = first_Each (λ f i. f ≡ STORE) ts BLOCK i h x in let z : ◌≡◌ {A = ℕ} 0 1 = cc in omega arith

-- ---- what a block holds, by its slot

abbrev by_kind : Bool → Bool → Bool → List ℕ → List Test
by_kind x y z b = cond x (store_tests 8 (drop 8 b)) (cond y (path_tests b) (cond z (item_tests BLOCK 8 0 (drop 8 b)) []))

kinds : (slot : ℕ) (b : List ℕ) → inside_tests slot b ≡ by_kind (eqb slot (slot_of 0xA0000009)) (is_path_block slot) (eqb slot (slot_of 0xA000000C)) b
unfolding inside_tests
kinds slot b = refl

path_no_store : (slot : ℕ) → is_path_block slot ≡ true → eqb slot (slot_of 0xA0000009) ≡ false
unfolding slot_of
path_no_store slot e =
    or-true (eqb slot (slot_of 0xA0000001) || eqb slot (slot_of 0xA0000006)) (eqb slot (slot_of 0xA0000007)) e
    (λ y. or-true (eqb slot (slot_of 0xA0000001)) (eqb slot (slot_of 0xA0000006)) y (λ z. rw (eqb-true slot (slot_of 0xA0000001) z)) (λ z. rw (eqb-true slot (slot_of 0xA0000006) z)))
    (λ y. rw (eqb-true slot (slot_of 0xA0000007) y))

path_inside : (slot : ℕ) (b : List ℕ) → is_path_block slot ≡ true → inside_tests slot b ≡ path_tests b
path_inside slot b e = kinds slot b ∙ rw (path_no_store slot e, e)

items_inside : (b : List ℕ) → inside_tests (slot_of 0xA000000C) b ≡ item_tests BLOCK 8 0 (drop 8 b)
unfolding inside_tests slot_of
items_inside b = refl

store_inside : (b : List ℕ) → inside_tests (slot_of 0xA0000009) b ≡ store_tests 8 (drop 8 b)
unfolding inside_tests slot_of
store_inside b = refl

-- ---- a block of n bytes at q

module _ (s : List ℕ) (q n : ℕ) (least : 8 ≤ n) (inside : q + n ≤ length s) where
  abbrev b : List ℕ
  b = take n (drop q s)

  abbrev e : ℕ
  e = q + n

  rest : drop 8 b ≡ take (e - (q + 8)) (drop (q + 8) s)
  rest = let z : n - 8 ≡ e - (q + 8) = omega arith in part_drop 8 n q s least ∙ ap (λ (i : ℕ). take i (drop (q + 8) s)) z

  walked : (i : ℕ) → FirstFails (item_tests BLOCK 8 0 (drop 8 b)) BLOCK i → ItemsTo s e (q + i) (q + 8) × WrongItem s e (q + i)
  walked i x =
      let y : tests (section 8 q) (item_tests BLOCK 8 0 (take (e - (q + 8)) (drop (q + 8) s))) (got (tt {0}) 0) ≡ refused BLOCK (spot_at (section 8 q) i)
      = first_tests (section 8 q) (item_tests BLOCK 8 0 (take (e - (q + 8)) (drop (q + 8) s))) (got (tt {0}) 0) BLOCK i (subst (λ (l : List ℕ). FirstFails (item_tests BLOCK 8 0 l) BLOCK i) rest x) in
      let z = walk_fails s 8 q BLOCK e inside (tt {0}) 0 e (q + 8) 8 (omega arith) (omega arith) refl y in
      (z.items, z.wrong)

  back_walked : (p : ℕ) → ItemsTo s e p (q + 8) → WrongItem s e p → (i : ℕ) × (FirstFails (item_tests BLOCK 8 0 (drop 8 b)) BLOCK i × (q + i ≡ p))
  back_walked p x y =
      let (i, (z, o)) = fails_walk s 8 q BLOCK e inside (tt {0}) 0 p (q + 8) 8 (omega arith) refl x y in
      tests_first (section 8 q) (item_tests BLOCK 8 0 (take (e - (q + 8)) (drop (q + 8) s))) (got (tt {0}) 0) z
      (λ j v u.
      let c : q + i ≡ q + j = ap (λ (w : Spot). w.position) u in
      (j, (subst (λ (l : List ℕ). FirstFails (item_tests BLOCK 8 0 l) BLOCK j) (sym rest) v, omega arith)))
      (λ c v. no_refusal v)

  pub held_first : (i : ℕ) → FirstFails (block_rules b) BLOCK i → WrongHeld s q e b (q + i)
  held_first i x = go (size_fits (slot_at b) (length b)) refl
    where
      kind : size_fits (slot_at b) (length b) ≡ true → (x : Bool) → eqb (slot_at b) (slot_of 0xA0000009) ≡ x → (y : Bool) → is_path_block (slot_at b) ≡ y → (z : Bool) → eqb (slot_at b) (slot_of 0xA000000C) ≡ z
          → FirstFails (by_kind x y z b) BLOCK i → WrongHeld s q e b (q + i)
      kind f true a y c z d v = absurd (no_block_first (store_tests 8 (drop 8 b)) i (Each-fault (λ f. f ≡ STORE) STORE (store_tests 8 (drop 8 b)) refl (store_OfFault 8 (drop 8 b))) v)
      kind f false a true c z d v = text i f c v
      kind f false a false c true d v = let w = walked i v in items (q + i) f (eqb-true (slot_at b) (slot_of 0xA000000C) d) w.0 w.1
      kind f false a false c false d v = absurd v

      go : (t : Bool) → size_fits (slot_at b) (length b) ≡ t → WrongHeld s q e b (q + i)
      go true f =
          kind f (eqb (slot_at b) (slot_of 0xA0000009)) refl (is_path_block (slot_at b)) refl (eqb (slot_at b) (slot_of 0xA000000C)) refl
          (subst (λ (ts : List Test). FirstFails ts BLOCK i) (kinds (slot_at b) b) (x.0 f))
      go false f = let z : q ≡ q + i = omega (arith, (x.1 f).1) in subst (WrongHeld s q e b) z (misfit f)

  pub first_held : (p : ℕ) → WrongHeld s q e b p → (i : ℕ) × (FirstFails (block_rules b) BLOCK i × (q + i ≡ p))
  first_held p (misfit f) = (0, (((λ y. clash y f), λ y. (refl, refl)), omega arith))
  first_held p (text i f c v) = (
    i,
    (((λ y. subst (λ (ts : List Test). FirstFails ts BLOCK i) (sym (path_inside (slot_at b) b c)) v), λ y. clash f y), refl),
  )
  first_held p (items r f c v w) =
      let (i, (x, z)) = back_walked p v w in
      (i, (((λ y. subst (λ (ts : List Test). FirstFails ts BLOCK i) (sym (ap (λ (k : ℕ). inside_tests k b) c ∙ items_inside b)) x), λ y. clash f y), z))

-- ---- an A0000009 block

module _ (b : List ℕ) (i : ℕ) where
  pub store_first : FirstFails (block_rules b) STORE i → WrongHeldStore b i
  store_first x = go (size_fits (slot_at b) (length b)) refl
    where
      kind : size_fits (slot_at b) (length b) ≡ true → (x : Bool) → eqb (slot_at b) (slot_of 0xA0000009) ≡ x → (y z : Bool) → FirstFails (by_kind x y z b) STORE i → WrongHeldStore b i
      kind f true a y z v = record { fits = f; signature = eqb-true (slot_at b) (slot_of 0xA0000009) a; first = v }
      kind f false a true z v = absurd (no_store_first (path_tests b) i ((λ e. refl), λ e. ((λ e. refl), λ e. tt)) v)
      kind f false a false true v = absurd (no_store_first (item_tests BLOCK 8 0 (drop 8 b)) i (Each-fault (λ f. f ≡ BLOCK) BLOCK (item_tests BLOCK 8 0 (drop 8 b)) refl (item_OfFault BLOCK 8 0 (drop 8 b))) v)
      kind f false a false false v = absurd v

      go : (t : Bool) → size_fits (slot_at b) (length b) ≡ t → WrongHeldStore b i
      go true f =
          kind f (eqb (slot_at b) (slot_of 0xA0000009)) refl (is_path_block (slot_at b)) (eqb (slot_at b) (slot_of 0xA000000C))
          (subst (λ (ts : List Test). FirstFails ts STORE i) (kinds (slot_at b) b) (x.0 f))
      go false f = absurd (let y = (x.1 f).0 in let z : ◌≡◌ {A = ℕ} 0 1 = cc in omega arith)

  pub first_store : WrongHeldStore b i → FirstFails (block_rules b) STORE i
  first_store x = (
    (λ y. subst (λ (ts : List Test). FirstFails ts STORE i) (sym (ap (λ (k : ℕ). inside_tests k b) x.signature ∙ store_inside b)) x.first),
    λ y. clash x.fits y,
  )
