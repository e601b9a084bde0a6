-- The step: one law for each way out.
use mathlib.Core.Path.{◌≡◌, refl, sym, ap, ◌∙◌}
use mathlib.Core.List.{List, [], ◌∷◌, ◌++◌}
use mathlib.Core.Bool.{Bool, true, false, cond}
use Prim.Native.Nat.{ℕ, zero, suc, ◌-◌, ◌≤◌, ◌<◌}
use native.Mathlib.Omega.{arith}
use lib.ListN.{length, take, drop, length-append, length-drop}
use lib.Seq.{length-take-le, take_all, take-take, take-append-le}
use lib.Dec.{leb, ltb}
use borrow.Author.Tests.{le-leb, lt-leb, le-ltb, leb-true}
use Rattle.std.specs.Prelude.{Option, Some, None, Ok, Err}
use Rattle.octets.specs.Numbers.{u32_at}
use Rattle.octets.proofs.NumberLaws.{number_same}
use Rattle.format.specs.declared.Fault.{Fault}
use Rattle.format.specs.declared.Fault.TheVariants.{Cut as CUT, Block as BLOCK}
use Rattle.format.specs.Tests.{Outcome, got, refused, ◌else◌at◌, spot_at, tests}
use Rattle.format.specs.Numbers.{outcome_number}
use Rattle.format.specs.Steps.Answers.{outcome_end}
use Rattle.format.specs.Blocks.{SizeRule, signatures, size_in, slot_of, size_fits, inside_tests, slot_at, block_size, Standing, a_block, a_terminal, block, terminal, block_step}
use Rattle.format.specs.Steps.Wrong.{wrong, held_fault}
use Rattle.format.proofs.Chains.{no_value}
use Rattle.format.proofs.WrongLaws.{at_fault, one_fault}
use Rattle.blocks.specs.Steps.Walk.{Sized, BlockStep, step_of, by_size, step_number, step_value, StepAnswer, step_site, Told, Stands}
use Rattle.blocks.specs.declared.Block.{Block}
use Rattle.format.proofs.BlockLaws.{inside_OfFault}

-- the part from k to the end
pub tail_part : (k : ℕ) (l : List ℕ) → take (length l - k) (drop k l) ≡ drop k l
tail_part k l = take_all (length l - k) (drop k l) (simp length-drop (omega arith))

-- a slot beyond the table has no rule for its size
pub size_free : (k n : ℕ) → 11 ≤ k → true ≡ size_fits k n
unfolding size_fits
size_free k n h = free signatures k h
  where
    free : (t : List (ℕ × SizeRule)) (k : ℕ) → length t ≤ k → true ≡ size_in t k n
    free [] k h = refl
    free (r ∷ rs) zero h = absurd (omega arith)
    free (r ∷ rs) (suc k) h = free rs k (omega arith)

-- ---- the step, by its tests

module _ (s : List ℕ) where
  abbrev by : Bool → Bool → Bool → Bool → Bool → Outcome Standing
  by a b c d e = tests (terminal 0) (a else CUT at 0 ∷ []) (cond b (got a_terminal 4) (tests (block 0) (c else BLOCK at 0 ∷ d else CUT at 0 ∷ e else BLOCK at 0 ∷ []) (got a_block (block_size s))))

  -- its answer has the number and the value of the step of reading
  pub step_read : StepAnswer s (by_size s)
  unfolding by_size step_number step_value
  step_read =
      let z = go (leb 4 (length s)) (ltb (block_size s) 4) (leb 8 (block_size s)) (leb (block_size s) (length s)) (size_fits (slot_at s) (block_size s)) in
      record { is = refl; number = z.0; value = z.1 }
    where
      go : (a b c d e : Bool) → (step_number (step_of (slot_at s) (by a b c d e)) ≡ outcome_number (by a b c d e)) × (step_value (step_of (slot_at s) (by a b c d e)) ≡ outcome_end 0 (by a b c d e))
      go false b c d e = (refl, refl)
      go true true c d e = (refl, refl)
      go true false false d e = (refl, refl)
      go true false true false e = (refl, refl)
      go true false true true false = (refl, refl)
      go true false true true true = (refl, omega arith)

  pub step_none : length s < 4 → Err CUT ≡ by_size s
  unfolding by_size
  step_none h = rw (lt-leb 4 (length s) h)

  -- a block's size and signature are those of the rest
  here : 8 ≤ block_size s → block_size s ≤ length s → (p : ℕ)
      → block_step p s ≡ tests (block p) (size_fits (slot_at s) (block_size s) else BLOCK at 0 ∷ inside_tests (slot_at s) (take (block_size s) s)) (got a_block (block_size s))
  here big inside p =
      let room : 4 ≤ length s = omega arith in
      let some : 4 ≤ block_size s = omega arith in
      let l : length (take (block_size s) s) ≡ block_size s = length-take-le (block_size s) s inside in
      let x : u32_at (take (block_size s) s) 4 ≡ u32_at s 4 = number_same 4 (block_size s) (take (block_size s) s) s 4 (take-take (block_size s) (block_size s) s (omega arith)) (omega arith) in
      rw (le-leb 4 (length s) room, le-ltb (block_size s) 4 some, le-leb 8 (block_size s) big, le-leb (block_size s) (length s) inside, l, x)

  told : Told s (by_size s)
  unfolding by_size
  told = go (leb 4 (length s)) refl (ltb (block_size s) 4) refl (leb 8 (block_size s)) refl (leb (block_size s) (length s)) refl (size_fits (slot_at s) (block_size s)) refl
    where
      go : (a : Bool) → leb 4 (length s) ≡ a → (b : Bool) → ltb (block_size s) 4 ≡ b → (c : Bool) → leb 8 (block_size s) ≡ c → (d : Bool) → leb (block_size s) (length s) ≡ d → (e : Bool) → size_fits (slot_at s) (block_size s) ≡ e
          → Told s (step_of (slot_at s) (by a b c d e))
      go false ea b eb c ec d ed e ee = λ p. rw ea
      go true ea true eb c ec d ed e ee = λ p. rw (ea, eb)
      go true ea false eb false ec d ed e ee = λ p. rw (ea, eb, ec)
      go true ea false eb true ec false ed e ee = λ p. rw (ea, eb, ec, ed)
      go true ea false eb true ec true ed false ee = λ p. here (leb-true 8 (block_size s) ec) (leb-true (block_size s) (length s) ed) p ∙ rw (ea, ee)
      go true ea false eb true ec true ed true ee = record { size = refl; least = leb-true 8 (block_size s) ec; inside = leb-true (block_size s) (length s) ed; slot = refl; fits = ee }

-- a block by its sizes: what it holds decides
module _ (s : List ℕ) {n k : ℕ} (z : Sized s n k) where
  left : {o : Option ℕ} → o ≡ wrong (inside_tests k (take n s)) → (p : ℕ) → block_step p s ≡ at_fault (held_fault k) (block p) o (got a_block n)
  left e p =
      let h : block_step p s ≡ tests (block p) (size_fits k n else BLOCK at 0 ∷ inside_tests k (take n s)) (got a_block n) = rw (z.size, z.slot) (here s (rw z.size at z.least) (rw z.size at z.inside) p) in
      h ∙ rw (z.fits, e) (one_fault (held_fault k) (block p) (inside_tests k (take n s)) (got a_block n) (inside_OfFault k (take n s)))

  pub holds_right : None ≡ wrong (inside_tests k (take n s)) → (p : ℕ) → block_step p s ≡ got a_block n
  holds_right e p = left e p

  pub holds_wrong : {i : ℕ} → Some i ≡ wrong (inside_tests k (take n s)) → (p : ℕ) → block_step p s ≡ refused (held_fault k) (spot_at (block p) i)
  holds_wrong e p = left e p

-- a block stays what it is, whatever follows
module _ (s y : List ℕ) {n k : ℕ} (z : Sized s n k) where
  front : take n (s ++ y) ≡ take n s
  front = take-append-le n s y z.inside

  pub longer : Sized (s ++ y) n k
  longer = record {
    size = z.size ∙ sym (number_same 4 n (s ++ y) s 0 front (omega (arith, z.least)));
    least = z.least;
    inside = omega (arith, z.inside, length-append s y);
    slot = z.slot ∙ ap slot_of (sym (number_same 4 n (s ++ y) s 4 front (omega (arith, z.least))));
    fits = z.fits;
  }

  pub step_longer : ((q : ℕ) → block_step q s ≡ got a_block n) → (q : ℕ) → block_step q (s ++ y) ≡ got a_block n
  step_longer h q = go (wrong (inside_tests k (take n s))) refl
    where
      go : (o : Option ℕ) → o ≡ wrong (inside_tests k (take n s)) → block_step q (s ++ y) ≡ got a_block n
      go None e = holds_right (s ++ y) longer (e ∙ ap (λ (l : List ℕ). wrong (inside_tests k l)) (sym front)) q
      go (Some i) e = no_value (sym (holds_wrong s z e q) ∙ h q)

-- from what the code answers to its facts
module _ (s : List ℕ) {t : BlockStep} where
  module _ (h : t ≡ by_size s) where
    Told-as : {u : BlockStep} → t ≡ u → Told s u
    Told-as e = rw (sym h ∙ e) at (told s)

    pub by_block : {b : Block} → t ≡ Ok (Some b) → Sized s b.len b.slot
    by_block e = Told-as e

    pub by_end : t ≡ Ok None → (p : ℕ) → block_step p s ≡ got a_terminal 4
    by_end e = Told-as e

    pub by_fault : {f : Fault} → t ≡ Err f → (p : ℕ) → block_step p s ≡ refused f (spot_at (step_site p (length s)) 0)
    by_fault e = Told-as e

-- ---- what is judged to stand here

module _ (s : List ℕ) where
  module _ (b : Block) (h : Stands s (Ok (Some b))) where
    pub stands_sized : Sized s b.len b.slot
    unfolding Stands
    stands_sized = h.0

    pub stands_block : (p : ℕ) → block_step p s ≡ got a_block b.len
    unfolding Stands
    stands_block = h.1

    pub stands_least : 8 ≤ b.len
    stands_least = stands_sized.least

    pub stands_inside : b.len ≤ length s
    stands_inside = stands_sized.inside

  pub stands_end : Stands s (Ok None) → (p n : ℕ) → block_step p s ≡ got a_block n → ⊥
  unfolding Stands
  stands_end h p n g = let z : ◌≡◌ {A = Outcome Standing} (got a_terminal 4) (got a_block n) = sym (h p) ∙ g in let o : ◌≡◌ {A = ℕ} 0 1 = cc in omega arith

  pub stands_fault : (f : Fault) → Stands s (Err f) → (p n : ℕ) → block_step p s ≡ got a_block n → ⊥
  unfolding Stands
  stands_fault f h p n g = no_value (sym (h p).1 ∙ g)

-- ---- the ways out of judging

module _ (s : List ℕ) where
  pub judged_fault : (f : Fault) → Err f ≡ by_size s → Stands s (Err f)
  unfolding Stands
  judged_fault f e = λ p. (_, by_fault s e refl p)

  pub judged_end : Ok None ≡ by_size s → Stands s (Ok None)
  unfolding Stands
  judged_end e = by_end s e refl

  module _ (b : Block) (e : Ok (Some b) ≡ by_size s) where
    pub judged_length : length (take b.len s) ≡ b.len
    judged_length = length-take-le b.len s (by_block s e refl).inside

    pub judged_fits : size_fits b.slot b.len ≡ true
    judged_fits = (by_block s e refl).fits

    pub judged_right : None ≡ wrong (inside_tests b.slot (take b.len s)) → Stands s (Ok (Some b))
    unfolding Stands
    judged_right w = (by_block s e refl, holds_right s (by_block s e refl) w)

    pub judged_wrong : (i : ℕ) → Some i ≡ wrong (inside_tests b.slot (take b.len s)) → Stands s (Err (held_fault b.slot))
    unfolding Stands
    judged_wrong i w = λ p. (_, holds_wrong s (by_block s e refl) w p)

pub ruleset judging = (judged_fault, judged_end, judged_length, judged_fits, judged_right, judged_wrong)
