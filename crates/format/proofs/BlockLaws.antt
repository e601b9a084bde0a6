-- The laws of the blocks.
use mathlib.Core.Path.{◌≡◌, refl, sym, ap, ◌∙◌}
use mathlib.Core.List.{List, [], ◌∷◌, ◌++◌, append_assoc, append-nil}
use mathlib.Core.Bool.{Bool, true, false, cond, ◌||◌}
use Prim.Native.Nat.{ℕ, zero, suc, ◌+◌, ◌-◌, ◌≤◌, ◌<◌}
use native.Mathlib.Omega.{arith}
use native.Mathlib.Nat.{add-sub_of_le}
use lib.ListN.{length, take, drop, length-append, length-take, length-drop}
use lib.Seq.{length-take-le, take-take, take_at, drop_at, drop-drop}
use lib.Dec.{eqb}
use borrow.Author.Tests.{leb-true, le-leb, lt-leb, lt-ltb, le-ltb, eqb-true, eq-eqb}
use Rattle.octets.specs.Numbers.{Bytes, little}
use Rattle.octets.proofs.NumberLaws.{Bytes-take, Bytes-append, Bytes-little, length-little, number_back, number_same}
use Rattle.format.specs.declared.Fault.TheVariants.{Cut as CUT, Block as BLOCK, Store as STORE}
use Rattle.format.specs.Tests.{Outcome, got, refused, Test, tests, Reader, and_then, Site, spot_at}
use Rattle.format.specs.Items.{item_tests}
use Rattle.format.specs.Store.{store_tests}
use Rattle.format.specs.Blocks.{Standing, a_block, slot_of, slot_at, block_size, path_tests, inside_tests, block_tests, block, terminal, block_step, once, once_tests, follow, blocks_from, blocks_after, blocks}
use Rattle.format.specs.Shortcut.{sum}
use Rattle.format.specs.Steps.Wrong.{held_fault}
use Rattle.format.specs.Writing.{blocks_bytes, takes, writable_blocks}
use Rattle.format.proofs.Bools.{by_order}
use Rattle.format.proofs.WrongLaws.{OfFault, Faults, Faults-OfFault}
use Rattle.format.proofs.ItemsLaws.{item_Faults}
use Rattle.format.proofs.StoreLaws.{store_Faults}
use Rattle.format.proofs.Chains.{Pass, pass, passed, got_elim, no_value, no_true, drop-take, Ok, Fits, CutBy, Law}

-- all tests of what a block holds give its fault, and none is of the field 0
pub inside_Faults : (slot : ℕ) (b : List ℕ) → Faults (held_fault slot) (inside_tests slot b)
unfolding inside_tests held_fault
inside_Faults slot b =
    go (eqb slot (slot_of 0xA0000009)) (eqb slot (slot_of 0xA0000001) || eqb slot (slot_of 0xA0000006) || eqb slot (slot_of 0xA0000007)) (eqb slot (slot_of 0xA000000C))
  where
    go : (x y z : Bool) → Faults (cond x STORE BLOCK) (cond x (store_tests 8 (drop 8 b)) (cond y (path_tests b) (cond z (item_tests BLOCK 8 0 (drop 8 b)) [])))
    go true y z = store_Faults 8 (drop 8 b) (omega arith)
    go false true z = (refl, (omega arith, (refl, (omega arith, tt))))
    go false false true = item_Faults BLOCK 8 0 (drop 8 b) (omega arith)
    go false false false = tt

pub inside_OfFault : (slot : ℕ) (b : List ℕ) → OfFault (held_fault slot) (inside_tests slot b)
inside_OfFault slot b = Faults-OfFault (held_fault slot) (inside_tests slot b) (inside_Faults slot b)

-- ---- one step of the walk; `before` has the slots of the blocks before it

skip : (before : List ℕ) (p k : ℕ) (s : List ℕ) → blocks_from before p k s ≡ blocks_after before p (drop k s)
unfolding blocks_from
skip before p zero s = refl
skip before p (suc k) [] = refl
skip before p (suc k) (a ∷ s) = skip before p k s

pub none_left : (before : List ℕ) (p : ℕ) (s : List ℕ) → length s < 4 → blocks_after before p s ≡ refused CUT (spot_at (terminal p) 0)
unfolding blocks_from
none_left before p [] h = refl
none_left before p (a ∷ s) h = rw (lt-leb 4 (length (a ∷ s)) h)

-- what follows a step follows its tests
pub follow-tests : (w : Site) (ts : List Test) (o : Outcome Standing) (rest : Outcome (List ℕ)) → follow (tests w ts o) rest ≡ tests w ts (follow o rest)
follow-tests w [] o rest = refl
follow-tests w (t ∷ ts) o rest = go t.holds (follow-tests w ts o rest)
  where
    go : (b : Bool) → follow (tests w ts o) rest ≡ tests w ts (follow o rest)
        → follow (cond b (tests w ts o) (refused t.fault (spot_at w t.field))) rest ≡ cond b (tests w ts (follow o rest)) (refused t.fault (spot_at w t.field))
    go true e = e
    go false e = refl

pub the_end : (before : List ℕ) (p : ℕ) (s : List ℕ) → 4 ≤ length s → block_size s < 4 → blocks_after before p s ≡ got [] 4
unfolding blocks_from
the_end before p [] h t = absurd (omega arith)
the_end before p (a ∷ s) h t = rw (le-leb 4 (length (a ∷ s)) h, lt-ltb (block_size (a ∷ s)) 4 t)

-- what is read from a block of n bytes on that has passed its own tests: that it is no second one, and the blocks after it
abbrev pub later : List ℕ → ℕ → ℕ → List ℕ → Outcome (List ℕ)
later before p n s = tests (block p) (once_tests before (slot_at s)) (blocks_after (slot_at s ∷ before) (p + n) (drop n s))

abbrev pub more : List ℕ → ℕ → ℕ → List ℕ → Outcome (List ℕ)
more before p n s = and_then (later before p n s) (λ lengths m. got (n ∷ lengths) (n + m))

-- a block that is no second one, and what follows it
pub more_on : (before : List ℕ) (p n : ℕ) (s : List ℕ) (r : Outcome (List ℕ)) → once before (slot_at s) ≡ true → blocks_after (slot_at s ∷ before) (p + n) (drop n s) ≡ r
    → more before p n s ≡ and_then r (λ lengths m. got (n ∷ lengths) (n + m))
more_on before p n s r o e = rw (o, e)

pub one_more : (before : List ℕ) (p : ℕ) (s : List ℕ) → 4 ≤ length s → 4 ≤ block_size s
    → blocks_after before p s ≡ tests (block p) (block_tests s) (more before p (block_size s) s)
unfolding blocks_from
one_more before p [] h t = absurd (omega arith)
one_more before p (a ∷ s) h t =
    let n : ℕ = block_size (a ∷ s) in
    let d : drop n (a ∷ s) ≡ drop (n - 1) s = rest n (omega arith) in
    rw (le-leb 4 (length (a ∷ s)) h, le-ltb n 4 t, skip (slot_at (a ∷ s) ∷ before) (p + n) (n - 1) s, d)
    (follow-tests (block p) (block_tests (a ∷ s)) (got a_block n) (tests (block p) (once_tests before (slot_at (a ∷ s))) (blocks_after (slot_at (a ∷ s) ∷ before) (p + n) (drop (n - 1) s))))
  where
    rest : (n : ℕ) → 0 < n → drop n (a ∷ s) ≡ drop (n - 1) s
    rest zero h = absurd (omega arith)
    rest (suc n) h = let e : suc n - 1 ≡ n = omega arith in rw e

-- the walk is a fold of the step
pub blocks_step : (before : List ℕ) (p : ℕ) (s : List ℕ) → blocks_after before p s ≡ follow (block_step p s) (later before p (block_size s) s)
blocks_step before p s =
    by_order 4 (length s)
    (λ h.
    by_order 4 (block_size s)
    (λ t. one_more before p s h t ∙ rw (le-leb 4 (length s) h, le-ltb (block_size s) 4 t) (sym (follow-tests (block p) (block_tests s) (got a_block (block_size s)) (later before p (block_size s) s))))
    (λ t. the_end before p s h t ∙ rw (le-leb 4 (length s) h, lt-ltb (block_size s) 4 t)))
    (λ h. none_left before p s h ∙ rw (lt-leb 4 (length s) h))

-- the terminal block, or a block that passes its tests and is no second one
pub step_elim {ℓ} : (before : List ℕ) (p : ℕ) (s : List ℕ) (X : List ℕ → ℕ → Type ℓ)
    → (4 ≤ length s → block_size s < 4 → X [] 4)
    → (Pass (block_tests s) → once before (slot_at s) ≡ true → (lengths : List ℕ) (m : ℕ) → blocks_after (slot_at s ∷ before) (p + block_size s) (drop (block_size s) s) ≡ got lengths m
    → X (block_size s ∷ lengths) (block_size s + m))
    → (lengths : List ℕ) (n : ℕ) → blocks_after before p s ≡ got lengths n → X lengths n
step_elim before p s X f g lengths n e =
    by_order 4 (length s)
    (λ h.
    by_order 4 (block_size s)
    (λ t. let i = passed (block p) (block_tests s) (more before p (block_size s) s) (sym (one_more before p s h t) ∙ e) in go i.0 (later before p (block_size s) s) refl i.1)
    (λ t. got_elim X (sym (the_end before p s h t) ∙ e) (f h t)))
    (λ h. no_value (sym (none_left before p s h) ∙ e))
  where
    go : Pass (block_tests s) → (r : Outcome (List ℕ)) → later before p (block_size s) s ≡ r
        → and_then r (λ lengths m. got (block_size s ∷ lengths) (block_size s + m)) ≡ got lengths n → X lengths n
    go c (got ls m) i h =
        let o = passed (block p) (once_tests before (slot_at s)) (blocks_after (slot_at s ∷ before) (p + block_size s) (drop (block_size s) s)) i in
        got_elim X h (g c o.0.0 ls m o.1)
    go c (refused x y) i h = no_value h

-- ---- the whole walk

pub record Walked (s lengths : List ℕ) (n : ℕ) : Type 0 where
  pub adds : n ≡ sum lengths + 4
  pub inside : n ≤ length s

walked : (k : ℕ) (before : List ℕ) (p : ℕ) (s lengths : List ℕ) (n : ℕ) → length s ≤ k → blocks_after before p s ≡ got lengths n → Walked s lengths n
walked zero before p s lengths n l e = no_value (sym (none_left before p s (omega arith)) ∙ e)
walked (suc k) before p s lengths n l e =
    step_elim before p s (λ lengths n. Walked s lengths n)
    (λ h t. record { adds = omega arith; inside = h })
    (λ c o ls m i.
    let b = leb-true 8 (block_size s) c.0 in
    let w = leb-true (block_size s) (length s) c.1.0 in
    let d = length-drop (block_size s) s in
    let r = walked k (slot_at s ∷ before) (p + block_size s) (drop (block_size s) s) ls m (omega arith) i in
    let x = r.adds in
    let y = r.inside in
    record { adds = omega arith; inside = omega arith })
    lengths n e

pub blocks_Walked : (before : List ℕ) (p : ℕ) (s lengths : List ℕ) (n : ℕ) → blocks_after before p s ≡ got lengths n → Walked s lengths n
blocks_Walked before p s lengths n e = walked (length s) before p s lengths n (omega arith) e

-- a block's signature is among its own bytes
pub same_slot : (n : ℕ) (t s : List ℕ) → take n t ≡ take n s → 8 ≤ n → slot_at t ≡ slot_at s
same_slot n t s e h = ap slot_of (number_same 4 n t s 4 e (omega arith))

-- only the blocks' own bytes matter, and that a terminal block of any value follows
same_blocks : (k : ℕ) (before : List ℕ) (p : ℕ) (s lengths : List ℕ) (n : ℕ) → length s ≤ k → blocks_after before p s ≡ got lengths n
    → (q : ℕ) (t : List ℕ) → take (n - 4) t ≡ take (n - 4) s → n ≤ length t → block_size (drop (n - 4) t) < 4 → blocks_after before q t ≡ got lengths n
same_blocks zero before p s lengths n l e q t = no_value (sym (none_left before p s (omega arith)) ∙ e)
same_blocks (suc k) before p s lengths n l e q t =
    step_elim before p s (λ lengths n. take (n - 4) t ≡ take (n - 4) s → n ≤ length t → block_size (drop (n - 4) t) < 4 → blocks_after before q t ≡ got lengths n)
    (λ h z u i o. the_end before q t i o)
    (λ c one ls m i u j o.
    let n : ℕ = block_size s in
    let b : 8 ≤ n = leb-true 8 n c.0 in
    let w : n ≤ length s = leb-true n (length s) c.1.0 in
    let r = blocks_Walked (slot_at s ∷ before) (p + n) (drop n s) ls m i in
    let g : 4 ≤ m = omega (arith, r.adds) in
    let a : n + m - 4 ≡ n + (m - 4) = omega arith in
    let x : take (n + (m - 4)) t ≡ take (n + (m - 4)) s = rw a at u in
    let y : take n t ≡ take n s = sym (take-take n (n + (m - 4)) t (omega arith)) ∙ ap (take n) x ∙ take-take n (n + (m - 4)) s (omega arith) in
    let z : take (m - 4) (drop n t) ≡ take (m - 4) (drop n s) = sym (drop-take n (m - 4) t) ∙ ap (drop n) x ∙ drop-take n (m - 4) s in
    let f : block_size t ≡ n = number_same 4 n t s 0 y (omega arith) in
    let e : slot_at t ≡ slot_at s = same_slot n t s y b in
    let v : block_size (drop (m - 4) (drop n t)) < 4 = rw (drop-drop (m - 4) n t, ← a) o in
    let d : Pass (block_tests t) = rw (f, y) (c.0, (le-leb n (length t) (omega arith), c.1.1)) in
    let h = same_blocks k (slot_at s ∷ before) (p + n) (drop n s) ls m (omega (arith, length-drop n s)) i (q + n) (drop n t) z (omega (arith, length-drop n t)) v in
    one_more before q t (omega arith) (omega arith) ∙ pass (block q) (block_tests t) (more before q (block_size t) t) d ∙ ap (λ (j : ℕ). more before q j t) f ∙ more_on before q n t (got ls m) (rw e one) (rw e h))
    lengths n e

pub blocks_same : (before : List ℕ) (p : ℕ) (s lengths : List ℕ) (n : ℕ) → blocks_after before p s ≡ got lengths n
    → (q : ℕ) (t : List ℕ) → take (n - 4) t ≡ take (n - 4) s → n ≤ length t → block_size (drop (n - 4) t) < 4 → blocks_after before q t ≡ got lengths n
blocks_same before p s lengths n e = same_blocks (length s) before p s lengths n (omega arith) e

-- what was read ends in a terminal block
pub ends_terminal : (k : ℕ) (before : List ℕ) (p : ℕ) (s lengths : List ℕ) (n : ℕ) → length s ≤ k → blocks_after before p s ≡ got lengths n → block_size (drop (n - 4) s) < 4
ends_terminal zero before p s lengths n l e = no_value (sym (none_left before p s (omega arith)) ∙ e)
ends_terminal (suc k) before p s lengths n l e =
    step_elim before p s (λ lengths n. block_size (drop (n - 4) s) < 4)
    (λ h z. z)
    (λ c o ls m i.
    let n : ℕ = block_size s in
    let b : 8 ≤ n = leb-true 8 n c.0 in
    let w : n ≤ length s = leb-true n (length s) c.1.0 in
    let r = blocks_Walked (slot_at s ∷ before) (p + n) (drop n s) ls m i in
    let a : n + m - 4 ≡ n + (m - 4) = omega (arith, r.adds) in
    let h = ends_terminal k (slot_at s ∷ before) (p + n) (drop n s) ls m (omega (arith, length-drop n s)) i in
    rw (a, ← (drop-drop (m - 4) n s)) h)
    lengths n e

-- every proper beginning is cut
cut_blocks : (k : ℕ) (before : List ℕ) (p : ℕ) (s lengths : List ℕ) (n : ℕ) → length s ≤ k → blocks_after before p s ≡ got lengths n
    → (l : ℕ) → l < n → CutBy (p + l) (blocks_after before p (take l s))
cut_blocks zero before p s lengths n h e l = no_value (sym (none_left before p s (omega arith)) ∙ e)
cut_blocks (suc k) before p s lengths n h e l =
    step_elim before p s (λ lengths n. l < n → CutBy (p + l) (blocks_after before p (take l s)))
    (λ i z u. record { spot = spot_at (terminal p) 0; early = omega arith; is = none_left before p (take l s) (omega (arith, length-take l s)) })
    (λ c one ls m i u.
    let n : ℕ = block_size s in
    let t : List ℕ = take l s in
    let b : 8 ≤ n = leb-true 8 n c.0 in
    let w : n ≤ length s = leb-true n (length s) c.1.0 in
    let r = blocks_Walked (slot_at s ∷ before) (p + n) (drop n s) ls m i in
    by_order 4 l
    (λ g.
    let j : length t ≡ l = length-take-le l s (omega (arith, r.inside, length-drop n s)) in
    let f : block_size t ≡ n = number_same 4 4 t s 0 (take-take 4 l s g) (omega arith) in
    let o = one_more before p t (omega arith) (omega arith) in
    by_order n l
    (λ v.
    let y : take n t ≡ take n s = take-take n l s v in
    let x : slot_at t ≡ slot_at s = same_slot n t s y b in
    let d : drop n t ≡ take (l - n) (drop n s) = rw add-sub_of_le at (drop-take n (l - n) s) in
    let a : Pass (block_tests t) = rw (f, y) (c.0, (le-leb n (length t) (omega arith), c.1.1)) in
    let q = cut_blocks k (slot_at s ∷ before) (p + n) (drop n s) ls m (omega (arith, length-drop n s)) i (l - n) (omega arith) in
    record {
      spot = q.spot;
      early = omega (arith, q.early);
      is = o ∙ pass (block p) (block_tests t) (more before p (block_size t) t) a ∙ ap (λ (j : ℕ). more before p j t) f ∙ more_on before p n t (refused CUT q.spot) (rw x one) (rw (x, d) q.is);
    })
    (λ v. record { spot = spot_at (block p) 0; early = omega arith; is = o ∙ rw (f, c.0, lt-leb n (length t) (omega arith)) }))
    (λ g. record { spot = spot_at (terminal p) 0; early = omega arith; is = none_left before p t (omega (arith, length-take l s)) }))
    lengths n e

-- ---- the section: what it says is the blocks' bytes

abbrev pub blocks_r : Reader (List ℕ)
blocks_r p s = and_then (blocks p s) (λ lengths n. got (take (sum lengths) s) n)

abbrev pub BlocksV : List ℕ → Type 0
BlocksV = Ok Bytes writable_blocks

pub body_elim {ℓ} : (p : ℕ) (s : List ℕ) (X : List ℕ → ℕ → Type ℓ) → ((lengths : List ℕ) (n : ℕ) → blocks p s ≡ got lengths n → X (take (sum lengths) s) n)
    → (x : List ℕ) (n : ℕ) → blocks_r p s ≡ got x n → X x n
body_elim p s X f x n e = go (blocks p s) refl e
  where
    go : (r : Outcome (List ℕ)) → blocks p s ≡ r → and_then r (λ lengths n. got (take (sum lengths) s) n) ≡ got x n → X x n
    go (got ls m) i h = got_elim X h (f ls m i)
    go (refused a b) i h = no_value h

pub takes_elim {ℓ} : {X : Type ℓ} (n : ℕ) (r : Outcome (List ℕ)) → takes n r ≡ true → ((lengths : List ℕ) → r ≡ got lengths n → X) → X
takes_elim n (got ls m) e f = f ls (ap (got ls) (eqb-true m n e))
takes_elim n (refused x y) e f = no_true e

-- a terminal block of zero
zero_size : (r : List ℕ) → block_size (little 4 0 ++ r) < 4
zero_size r = omega (arith, number_back 4 0 r (omega arith))

pub zero_alone : block_size (little 4 0) < 4
zero_alone = rw append-nil at (zero_size [])

blocks_back : (x : List ℕ) → BlocksV x → (p : ℕ) (r : List ℕ) → blocks_r p (blocks_bytes x ++ r) ≡ got x (length (blocks_bytes x))
blocks_back x v p r =
    takes_elim (length x + 4) (blocks 0 (x ++ little 4 0)) v.can (λ ls e.
    let s : List ℕ = x ++ little 4 0 in
    let t : List ℕ = blocks_bytes x ++ r in
    let n : ℕ = length x + 4 in
    let a : n - 4 ≡ length x = omega arith in
    let w = blocks_Walked [] 0 s ls n e in
    let z : sum ls ≡ length x = omega (arith, w.adds) in
    let l : length (blocks_bytes x) ≡ n = rw (length-append x (little 4 0), length-little) in
    let k : t ≡ x ++ (little 4 0 ++ r) = append_assoc x (little 4 0) r in
    let m : take (length x) t ≡ x = ap (take (length x)) k ∙ take_at x (little 4 0 ++ r) (length x) refl in
    let o : take (length x) s ≡ x = take_at x (little 4 0) (length x) refl in
    let d : drop (length x) t ≡ little 4 0 ++ r = ap (drop (length x)) k ∙ drop_at x (little 4 0 ++ r) (length x) refl in
    let f : blocks p t ≡ got ls n
    = blocks_same [] 0 s ls n e p t (rw a (m ∙ sym o)) (omega (arith, length-append (blocks_bytes x) r)) (rw (a, d) (zero_size r)) in
    rw (f, z, m, l))

blocks_Fits : (p : ℕ) (s x : List ℕ) (n : ℕ) → blocks_r p s ≡ got x n → Bytes s → Fits blocks_bytes BlocksV x n
blocks_Fits p s x n e bs =
    body_elim p s (λ x n. Fits blocks_bytes BlocksV x n)
    (λ ls n i.
    let w = blocks_Walked [] p s ls n i in
    let z : sum ls ≡ n - 4 = omega (arith, w.adds) in
    let y : List ℕ = take (sum ls) s in
    let t : List ℕ = y ++ little 4 0 in
    let l : length y ≡ sum ls = length-take-le (sum ls) s (omega (arith, w.adds, w.inside)) in
    let k : length t ≡ n = rw (length-append y (little 4 0), length-little, l) (omega (arith, w.adds)) in
    let c : take (n - 4) t ≡ take (n - 4) s = rw (← z) (take_at y (little 4 0) (sum ls) l) in
    let d : drop (n - 4) t ≡ little 4 0 = rw (← z) (drop_at y (little 4 0) (sum ls) l) in
    let f : blocks 0 t ≡ got ls n = blocks_same [] p s ls n i 0 t c (omega arith) (rw d zero_alone) in
    record {
      valid = record { typed = Bytes-take (sum ls) s bs; can = rw f (eq-eqb n (length y + 4) (omega (arith, w.adds))) };
      short = rw (length-append y (little 4 0), length-little, l) (omega (arith, w.adds));
    })
    x n e

pub blocks_Law : Law blocks_r blocks_bytes BlocksV
blocks_Law = record {
  bytes = λ x v. Bytes-append x (little 4 0) v.typed (Bytes-little 4 0);
  back = λ x v h p r. blocks_back x v p r;
  inside = λ p s x n. body_elim p s (λ x n. n ≤ length s) (λ ls n i. (blocks_Walked [] p s ls n i).inside) x n;
  fits = blocks_Fits;
  alike = λ p s x n e q t.
      body_elim p s (λ x n. take n t ≡ take n s → n ≤ length t → blocks_r q t ≡ got x n)
      (λ ls n i u h.
      let w = blocks_Walked [] p s ls n i in
      let y : take (n - 4) t ≡ take (n - 4) s = sym (take-take (n - 4) n t (omega arith)) ∙ ap (take (n - 4)) u ∙ take-take (n - 4) n s (omega arith) in
      let a : n - 4 + 4 ≡ n = omega (arith, w.adds) in
      let z : take 4 (drop (n - 4) t) ≡ take 4 (drop (n - 4) s)
      = sym (drop-take (n - 4) 4 t) ∙ rw a (ap (drop (n - 4)) u) ∙ drop-take (n - 4) 4 s in
      let v : block_size (drop (n - 4) t) < 4 = rw (number_same 4 4 (drop (n - 4) t) (drop (n - 4) s) 0 z (omega arith)) (ends_terminal (length s) [] p s ls n (omega arith) i) in
      let b : sum ls ≡ n - 4 = omega (arith, w.adds) in
      rw (blocks_same [] p s ls n i q t y h v, b, y))
      x n e;
  cut = λ p s x n e l.
      body_elim p s (λ x n. l < n → CutBy (p + l) (blocks_r p (take l s)))
      (λ ls n i h.
      let z = cut_blocks (length s) [] p s ls n (omega arith) i l h in
      record { spot = z.spot; early = z.early; is = rw z.is })
      x n e;
}
