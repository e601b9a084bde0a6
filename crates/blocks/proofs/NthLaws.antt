-- One of the blocks by its number.
use mathlib.Core.Path.{◌≡◌, refl, sym, ◌∙◌}
use mathlib.Core.List.{List, ◌∷◌}
use Prim.Native.Nat.{ℕ, zero, suc, ◌+◌, ◌-◌, ◌≤◌, ◌<◌}
use native.Mathlib.Omega.{arith}
use lib.ListN.{length, drop, length-drop}
use lib.Seq.{drop-drop}
use Rattle.std.proofs.lemmas.Grind.{common_steps}
use Rattle.format.specs.declared.Fault.{Fault}
use Rattle.format.specs.declared.Fault.TheVariants.{Cut as CUT}
use Rattle.format.specs.declared.Place.{Place}
use Rattle.format.specs.declared.Spot.{Spot}
use Rattle.format.specs.Tests.{got, refused, place}
use Rattle.format.specs.Blocks.{slot_at, block_size, a_terminal, block_step, blocks_after}
use Rattle.format.proofs.Chains.{got_elim, no_value}
use Rattle.format.proofs.BlockLaws.{step_elim}
use Rattle.std.specs.Prelude.{Option, Some, None, Ok, Err}
use Rattle.std.specs.Result.{result_ok}
use Rattle.blocks.specs.Steps.Walk.{Sized, BlockStep, by_size, if_block, nth_block, nth_place, NthOf}
use Rattle.blocks.specs.declared.Block.{Block}
use Rattle.blocks.proofs.StepLaws.{tail_part, step_none, by_block, by_end, by_fault}
use Rattle.blocks.proofs.WalkLaws.{walk_ended, walk_refused, rest_on}

-- ---- the walk to it

module _ (s : List ℕ) (p : ℕ) where
  pub none_ended : (k : ℕ) → Ok None ≡ by_size (drop p s) → nth_block s p k ≡ None
  unfolding nth_block
  none_ended zero e = rw (← e)
  none_ended (suc k) e = rw (← e)

  pub none_refused : (k : ℕ) (f : Fault) → Err f ≡ by_size (drop p s) → nth_block s p k ≡ None
  unfolding nth_block
  none_refused zero f e = rw (← e)
  none_refused (suc k) f e = rw (← e)

  pub none_outside : (k : ℕ) → length s < p → nth_block s p k ≡ None
  none_outside k h = none_refused k CUT (step_none (drop p s) (omega (arith, length-drop p s)))

  module _ (b : Block) (e : Ok (Some b) ≡ by_size (drop p s)) where
    pub block_here : nth_block s p 0 ≡ Some (place p b.len)
    unfolding nth_block
    block_here = rw (← e)

    next : (j k : ℕ) → j ≡ k + 1 → nth_block s p j ≡ nth_block s (p + b.len) k
    unfolding nth_block
    next zero k z = absurd (omega arith)
    next (suc j) k z = let q : j ≡ k = omega arith in rw (← e, q)

    pub block_next : (k i : ℕ) → i < k → nth_block s p (k - i) ≡ nth_block s (p + b.len) (k - (i + 1))
    block_next k i h = next (k - i) (k - (i + 1)) (omega arith)

    pub sized_inside : b.len ≤ length (drop p s)
    sized_inside = (by_block (drop p s) e refl).inside

    pub sized_fits : p ≤ length s → p + b.len ≤ length s
    sized_fits h = omega (arith, sized_inside, length-drop p s)

-- a block that the two `?` behind a step let through is what stands there
pub step_is : (r : List ℕ) (t : BlockStep) {o : Option Block} {b : Block} → t ≡ by_size r → Some o ≡ result_ok t → o ≡ Some b → Ok (Some b) ≡ by_size r
step_is r (Ok x) e h i = cc
step_is r (Err f) e h i = cc

pub ruleset finding = (common_steps, tail_part, rest_on, none_ended, none_refused, none_outside, block_here, block_next, sized_inside, sized_fits)

-- ---- what reading says of it

module _ (s : List ℕ) (p k : ℕ) where
  nth_ended : ((q : ℕ) → block_step q (drop p s) ≡ got a_terminal 4) → NthOf s p k None
  nth_ended h = record {
    inside = tt;
    is = λ before ls n e. got_elim (λ ls n. None ≡ nth_place p ls k) (sym (walk_ended before (drop p s) p (h p)) ∙ e) refl;
  }

  nth_refused : {f : Fault} {q : Spot} → block_step p (drop p s) ≡ refused f q → NthOf s p k None
  nth_refused h = record { inside = tt; is = λ before ls n e. no_value (sym (walk_refused before (drop p s) p h) ∙ e) }

module _ (s : List ℕ) (p : ℕ) {n j : ℕ} (inside : p ≤ length s) (z : Sized (drop p s) n j) where
  pub nth_fits : p + n ≤ length s
  nth_fits = omega (arith, z.inside, length-drop p s)

  -- a block stands first, if the blocks are read
  begins : (X : List ℕ → Type 0) → ((before ls : List ℕ) (m : ℕ) → blocks_after before (p + n) (drop (p + n) s) ≡ got ls m → X (n ∷ ls))
      → (before ls : List ℕ) (m : ℕ) → blocks_after before p (drop p s) ≡ got ls m → X ls
  begins X f before =
      step_elim before p (drop p s) (λ ls m. X ls) (λ l t. absurd (omega (arith, z.size, z.least)))
      (λ c o ls m i. rw (← z.size) (f (slot_at (drop p s) ∷ before) ls m (rw z.size (rw (drop-drop (block_size (drop p s)) p s) at i))))

  nth_here : NthOf s p 0 (Some (place p n))
  nth_here = record { inside = nth_fits; is = begins (λ ls. Some (place p n) ≡ nth_place p ls 0) (λ before ls m i. refl) }

  nth_next : {k : ℕ} {b : Option Place} → NthOf s (p + n) k b → NthOf s p (suc k) b
  nth_next {k} {b} h = record { inside = h.inside; is = begins (λ ls. b ≡ nth_place p ls (suc k)) (λ before ls m i. h.is before ls m i) }

-- each step is the terminal, a refusal or a block
module _ (s : List ℕ) (p k : ℕ) (f : ℕ → Option Place) where
  by_step : ((b : Block) → p ≤ length s → Sized (drop p s) b.len b.slot → NthOf s p k (f b.len)) → (t : BlockStep) → t ≡ by_size (drop p s) → NthOf s p k (if_block t f)
  by_step h (Ok None) e = nth_ended s p k (by_end (drop p s) e refl)
  by_step h (Err x) e = nth_refused s p k (by_fault (drop p s) e refl p)
  by_step h (Ok (Some b)) e = let z = by_block (drop p s) e refl in h b (omega (arith, z.least, z.inside, length-drop p s)) z

nth_read : (k : ℕ) (s : List ℕ) (p : ℕ) → NthOf s p k (nth_block s p k)
unfolding nth_block
nth_read zero s p = by_step s p 0 (λ n. Some (place p n)) (λ b h z. nth_here s p h z) (by_size (drop p s)) refl
nth_read (suc k) s p = by_step s p (suc k) (λ n. nth_block s (p + n) k) (λ b h z. nth_next s p h z (nth_read k s (p + b.len))) (by_size (drop p s)) refl

pub nth_of : {s : List ℕ} {p k : ℕ} {b : Option Place} → b ≡ nth_block s p k → NthOf s p k b
nth_of {s} {p} {k} e = rw e (nth_read k s p)
