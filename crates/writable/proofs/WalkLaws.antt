-- Bodies that are walked to their end: items and blocks, each with what a written file has after them.
use mathlib.Core.Path.{◌≡◌, refl, sym, ap, ◌∙◌}
use mathlib.Core.List.{List, [], ◌∷◌, ◌++◌}
use mathlib.Core.Bool.{Bool, true, false, ◌&&◌, cond}
use Prim.Native.Nat.{ℕ, zero, suc, ◌+◌, ◌-◌, ◌*◌, ◌≤◌, ◌<◌}
use native.Mathlib.Omega.{arith}
use lib.ListN.{length, take, drop, length-append, length-drop}
use lib.Seq.{take-append-le, drop-append-le, drop-drop, drop_at}
use lib.Dec.{eqb, leb}
use borrow.Author.Tests.{ne_eqb, leb-true, le-leb, lt-leb, lt-ltb, le-ltb}
use Rattle.octets.specs.Numbers.{number, number_at, little, u16_at, u32_at}
use Rattle.octets.proofs.NumberLaws.{number_same, number_drop, length-little}
use Rattle.format.specs.declared.Fault.TheVariants.{Items as ITEMS}
use Rattle.format.specs.Tests.{Outcome, got, refused}
use Rattle.format.specs.Blocks.{slot_of, slot_at, block_rules, block_size, block_tests, a_block, block, block_step, once, blocks_after}
use Rattle.format.specs.Steps.ItemWalk.{walk}
use Rattle.format.specs.Shortcut.{sum}
use Rattle.format.specs.Writing.{writable_items, takes, writable_blocks}
use Rattle.format.proofs.Bools.{and_no, by_order, clash}
use Rattle.format.proofs.Chains.{Pass, pass, no_value}
use Rattle.format.proofs.ItemsLaws.{tests_walk}
use Rattle.format.proofs.BlockLaws.{the_end, step_elim, blocks_Walked}
use Rattle.blocks.specs.Steps.Walk.{NoMore, after, Passed}
use Rattle.writable.proofs.TestLaws.{same_test}

-- ---- items

-- what is left of a body decides, by the walk over it and the two zero bytes that are written after it
unfoldable pub items_left : List ℕ → Bool
items_left r = walk 0 (r ++ 0 ∷ 0 ∷ [])

items_all : (x : List ℕ) → length x ≤ 65533 → items_left x ≡ writable_items x
unfolding items_left
items_all x h = rw (lt-ltb (length x + 2) 65536 (omega arith)) (sym (tests_walk ITEMS 0 0 (x ++ 0 ∷ 0 ∷ [])))

pub items_long : (x : List ℕ) → 65533 < length x → false ≡ writable_items x
items_long x h = rw (le-ltb (length x + 2) 65536 (omega arith))

-- an item ends in what is left, or passes its end
walk_on : (k : ℕ) (r : List ℕ) → k ≤ length r → walk k (r ++ 0 ∷ 0 ∷ []) ≡ items_left (drop k r)
unfolding items_left walk
walk_on zero r h = refl
walk_on (suc k) [] h = absurd (omega arith)
walk_on (suc k) (a ∷ r) h = walk_on k r (omega arith)

walk_past : (k : ℕ) (r : List ℕ) → length r < k → walk k (r ++ 0 ∷ 0 ∷ []) ≡ false
unfolding walk
walk_past zero r h = absurd (omega arith)
walk_past (suc zero) [] h = refl
walk_past (suc (suc zero)) [] h = refl
walk_past (suc (suc (suc k))) [] h = refl
walk_past (suc k) (a ∷ r) h = walk_past k r (omega arith)

-- one byte is no item
items_none : (r : List ℕ) → length r < 2 → items_left r ≡ eqb (length r) 0
unfolding items_left walk
items_none [] h = refl
items_none (a ∷ []) h = go (eqb (a + 256 * 0) 0) (a + 256 * 0 - 2)
  where
    go : (t : Bool) (k : ℕ) → cond t false (leb 2 (a + 256 * 0) && walk k (0 ∷ [])) ≡ false
    go true k = refl
    go false zero = and_no (leb 2 (a + 256 * 0))
    go false (suc zero) = and_no (leb 2 (a + 256 * 0))
    go false (suc (suc k)) = and_no (leb 2 (a + 256 * 0))
items_none (a ∷ b ∷ r) h = absurd (omega arith)

-- by the size n at the start
items_sized : (r : List ℕ) (n : ℕ) → 2 ≤ length r → n ≡ u16_at r 0 → items_left r ≡ (leb 2 n && walk (n - 2) (drop 2 r ++ 0 ∷ 0 ∷ []))
unfolding items_left walk number_at number
items_sized [] n h e = absurd (omega arith)
items_sized (a ∷ []) n h e = absurd (omega arith)
items_sized (a ∷ b ∷ r) n h e =
    let q : a + 256 * b ≡ n = omega arith in
    rw (q, length-append r (0 ∷ 0 ∷ [])) (go n)
  where
    go : (n : ℕ) → cond (eqb n 0) (eqb (length r + 2) 0) (leb 2 n && walk (n - 2) (r ++ 0 ∷ 0 ∷ [])) ≡ (leb 2 n && walk (n - 2) (r ++ 0 ∷ 0 ∷ []))
    go zero = ne_eqb (length r + 2) 0 (λ e. omega arith)
    go (suc n) = rw (ne_eqb (suc n) 0 (λ e. omega arith))

module _ (r : List ℕ) (n : ℕ) (some : 2 ≤ length r) (size : n ≡ u16_at r 0) where
  items_small : n < 2 → items_left r ≡ false
  items_small h = items_sized r n some size ∙ rw (lt-leb 2 n h)

  items_past : 2 ≤ n → length r < n → items_left r ≡ false
  items_past o h = items_sized r n some size ∙ rw (le-leb 2 n o, walk_past (n - 2) (drop 2 r) (simp length-drop (omega arith)))

  items_next : 2 ≤ n → n ≤ length r → items_left (drop n r) ≡ items_left r
  items_next o h =
      let e : 2 + (n - 2) ≡ n = omega arith in
      sym (items_sized r n some size ∙ rw (le-leb 2 n o, walk_on (n - 2) (drop 2 r) (simp length-drop (omega arith))) (ap items_left (drop-drop (n - 2) 2 r ∙ ap (λ (k : ℕ). drop k r) e)))

-- the walk is due at p, where the size that stands there ends: what is left there decides, or p has passed the end
pub record ItemsDue (x : List ℕ) (p : ℕ) : Type 0 where
  pub sized : 2 ≤ p
  pub near : p ≤ length x + 65537
  pub here : p ≤ length x + 2 → items_left (drop (p - 2) x) ≡ writable_items x
  pub past : length x + 2 < p → false ≡ writable_items x

module _ (x : List ℕ) where
  pub items_begin : length x ≤ 65533 → ItemsDue x 2
  items_begin h = record { sized = omega arith; near = omega arith; here = λ i. items_all x h; past = λ i. absurd (omega arith) }

  module _ (p : ℕ) (d : ItemsDue x p) where
    abbrev rest : List ℕ
    rest = drop (p - 2) x

    -- one byte left over is no item
    pub items_end : length x < p → eqb p (length x + 2) ≡ writable_items x
    items_end h = by_order p (length x + 2) ends (λ k. ne_eqb p (length x + 2) (λ e. omega arith) ∙ d.past k)
      where
        ends : p ≤ length x + 2 → eqb p (length x + 2) ≡ writable_items x
        ends k =
            let l : length rest ≡ length x - (p - 2) = length-drop (p - 2) x in
            same_test p (length x + 2) (length rest) 0 (λ e. omega arith) (λ e. omega arith) ∙ sym (items_none rest (omega arith)) ∙ d.here k

    module _ {n : ℕ} (some : p ≤ length x) (size : n ≡ u16_at x (p - 2)) where
      left : items_left rest ≡ writable_items x
      left = d.here (omega arith)

      long : 2 ≤ length rest
      long = simp length-drop (omega arith)

      here_size : n ≡ u16_at rest 0
      here_size = let e : p - 2 + 0 ≡ p - 2 = omega arith in rw (number_drop 2 (p - 2) x 0, e) size

      pub items_refuse : n < 2 → false ≡ writable_items x
      items_refuse h = sym (items_small rest n long here_size h) ∙ left

      pub items_step : 2 ≤ n → n < 65536 → ItemsDue x (p + n)
      items_step h w =
          let l : length rest ≡ length x - (p - 2) = length-drop (p - 2) x in
          let e : p - 2 + n ≡ p + n - 2 = omega arith in
          record {
            sized = omega arith;
            near = omega arith;
            here = λ k. ap items_left (sym (drop-drop n (p - 2) x ∙ ap (λ (j : ℕ). drop j x) e)) ∙ items_next rest n long here_size h (omega arith) ∙ left;
            past = λ k. sym (items_past rest n long here_size h (omega arith)) ∙ left;
          }

-- ---- blocks

zero_block : u32_at (little 4 0) 0 ≡ 0
unfolding number_at number little
zero_block = refl

-- the tests of a block pass: so it stands there
block_stands : (p : ℕ) (s : List ℕ) → 4 ≤ length s → 8 ≤ block_size s → Pass (block_tests s) → block_step p s ≡ got a_block (block_size s)
block_stands p s h b c = rw (le-leb 4 (length s) h, le-ltb (block_size s) 4 (omega arith)) (pass (block p) (block_tests s) (got a_block (block_size s)) c)

-- a walk over the body that has come to p, where it passes no more of the body: the terminal block is written there, or the body cannot be
module _ (x : List ℕ) {p : ℕ} {row : List ℕ} (P : Passed x 0 p row) (none : NoMore x p row) where
  abbrev t : List ℕ
  t = x ++ little 4 0

  at_end : p ≡ length x → blocks_after P.before p (drop p t) ≡ got [] 4
  at_end e =
      let d : drop p t ≡ little 4 0 = drop_at x (little 4 0) p (sym e) in
      rw d (the_end P.before p (little 4 0) (omega (arith, length-little 4 0)) (omega (arith, zero_block)))

  -- a block that stands in the body is the second of its kind
  in_body : (n : ℕ) → n ≡ block_size (drop p t) → p + n ≤ length x → Pass (block_tests (drop p t)) → once P.before (slot_at (drop p t)) ≡ false
  in_body n e w c =
      let r : List ℕ = drop p x in
      let d : drop p t ≡ r ++ little 4 0 = drop-append-le p x (little 4 0) P.inside in
      let l : n ≤ length r = omega (arith, length-drop p x) in
      let b : 8 ≤ n = rw e (leb-true 8 (block_size (drop p t)) c.0) in
      let f : take n (drop p t) ≡ take n r = ap (take n) d ∙ take-append-le n r (little 4 0) l in
      let size : block_size r ≡ n = number_same 4 n r (drop p t) 0 (sym f) (omega arith) ∙ sym e in
      let slot : slot_at r ≡ slot_at (drop p t) = ap slot_of (number_same 4 n r (drop p t) 4 (sym f) (omega arith)) in
      let k : Pass (block_rules (take n (drop p t))) = rw e c.1.1 in
      let g : Pass (block_tests r) = rw size (le-leb 8 n b, (le-leb n (length r) l, rw (← f) k)) in
      let taken = none (block_size r) (block_stands p r (omega arith) (omega arith) g) in
      rw slot at (sym (P.free (slot_at r)) ∙ taken)

  pub blocks_run : eqb p (length x) ≡ writable_blocks x
  blocks_run = rw (P.is (little 4 0)) (go (blocks_after P.before p (drop p t)) refl)
    where
      go : (o : Outcome (List ℕ)) → blocks_after P.before p (drop p t) ≡ o → eqb p (length x) ≡ takes (length x + 4) (after P.lengths o)
      go (refused f q) i = ne_eqb p (length x) (λ e. no_value (sym i ∙ at_end e))
      go (got ms m) i =
          let a = P.adds in
          step_elim P.before p (drop p t) (λ ms m. eqb p (length x) ≡ eqb (sum P.lengths + m) (length x + 4))
          (λ h u. same_test p (length x) (sum P.lengths + 4) (length x + 4) (λ q. omega arith) (λ q. omega arith))
          (λ c once ls n j.
          let k = blocks_Walked (slot_at (drop p t) ∷ P.before) (p + block_size (drop p t)) (drop (block_size (drop p t)) (drop p t)) ls n j in
          let w = leb-true (block_size (drop p t)) (length (drop p t)) c.1.0 in
          let d = length-drop (block_size (drop p t)) (drop p t) in
          let u = length-drop p t in
          let l = length-append x (little 4 0) in
          let v = length-little 4 0 in
          clash once (in_body (block_size (drop p t)) refl (omega (arith, k.adds, k.inside)) c))
          ms m i
