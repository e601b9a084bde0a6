-- The walk: how far it has come, and what stands there.
use mathlib.Core.Path.{◌≡◌, refl, sym, ap, subst, ◌∙◌}
use mathlib.Core.List.{List, [], ◌∷◌, ◌++◌, append_assoc, append-nil}
use mathlib.Core.Bool.{true, false}
use Prim.Native.Nat.{ℕ, ◌+◌, ◌-◌, ◌≤◌, ◌<◌}
use native.Mathlib.Omega.{arith}
use native.Mathlib.Nat.{zero-add}
use lib.ListN.{length, take, drop, length-drop}
use lib.Seq.{drop-drop, drop-append-le}
use borrow.Author.Tests.{lt-ltb}
use Rattle.std.proofs.lemmas.Grind.{common_steps}
use Rattle.std.specs.Prelude.{Option, Some, None, Ok, Err}
use Rattle.octets.specs.Numbers.{u32_at}
use Rattle.octets.proofs.NumberLaws.{number_drop}
use Rattle.format.specs.declared.Fault.{Fault}
use Rattle.format.specs.declared.Fault.TheVariants.{Cut as CUT, Twice as TWICE}
use Rattle.format.specs.declared.Spot.{Spot}
use Rattle.blocks.specs.declared.Block.{Block}
use Rattle.format.specs.declared.Refusal.{Refusal}
use Rattle.format.specs.Tests.{spot_at, Outcome, got, refused, and_then}
use Rattle.format.specs.Blocks.{slot_of, inside_tests, slot_at, block_size, a_block, a_terminal, block, terminal, block_step, once, blocks_after, blocks}
use Rattle.format.specs.Numbers.{outcome_number}
use Rattle.format.specs.Steps.Firsts.{firsts}
use Rattle.format.specs.Steps.Answers.{refusal, outcome_end, taken_number, taken_value}
use Rattle.format.specs.Steps.Wrong.{wrong}
use Rattle.format.specs.Shortcut.{most, sum}
use Rattle.format.proofs.Bools.{clash}
use Rattle.format.proofs.BlockLaws.{none_left, blocks_step}
use Rattle.blocks.specs.Steps.Walk.{Sized, BlockStep, Stands, no_firsts, field_of, is_free, noted, noted_all, BlocksTo, NoMore, after, Passed, blocks_taken, firsts_by, step_site, by_size, blocks_at, blocks_firsts, BlocksAnswer, read_to, wrong_or_twice, wrong_block}
use Rattle.blocks.proofs.StepLaws.{tail_part, holds_right, holds_wrong, longer, step_longer, stands_sized, stands_block, stands_least, stands_inside, stands_end, stands_fault, judged_length, judged_fits, by_block, by_end, by_fault}
use Rattle.blocks.proofs.FirstLaws.{firsts_more}
use Rattle.blocks.proofs.SlotLaws.{none_taken, free_more, wide_more, taken_stays}

sum_more : (ls : List ℕ) (n : ℕ) → sum (ls ++ n ∷ []) ≡ sum ls + n
sum_more [] n = omega arith
sum_more (m ∷ ms) n = let e = sum_more ms n in omega arith

-- ---- what the step says of the walk

module _ (before s : List ℕ) (p : ℕ) where
  pub walk_ended : block_step p s ≡ got a_terminal 4 → blocks_after before p s ≡ got [] 4
  walk_ended e = blocks_step before p s ∙ rw e

  pub walk_refused : {f : Fault} {q : Spot} → block_step p s ≡ refused f q → blocks_after before p s ≡ refused f q
  walk_refused e = blocks_step before p s ∙ rw e

  walk_goes_on : {n : ℕ} → n ≡ block_size s → block_step p s ≡ got a_block n → once before (slot_at s) ≡ true
      → blocks_after before p s ≡ and_then (blocks_after (slot_at s ∷ before) (p + n) (drop n s)) (λ lengths m. got (n ∷ lengths) (n + m))
  walk_goes_on z e o = blocks_step before p s ∙ rw (e, ← z, o)

  -- the second of its kind
  pub walk_twice : {n : ℕ} → block_step p s ≡ got a_block n → once before (slot_at s) ≡ false → blocks_after before p s ≡ refused TWICE (spot_at (block p) 4)
  walk_twice e o = blocks_step before p s ∙ rw (e, o)

-- ---- the walk from a on that has come to p

pub Passed-start : (s : List ℕ) (a : ℕ) (row : List ℕ) → a ≤ length s → row ≡ no_firsts → Passed s a a row
unfolding firsts noted_all
Passed-start s a row h e = record {
  lengths = [];
  adds = omega arith;
  inside = h;
  walked = refl;
  notes = e;
  wide = ap length e;
  before = [];
  free = λ slot. rw e (none_taken slot);
  is = λ y. nothing (blocks a (drop a (s ++ y)));
  first = λ small. e;
}
  where
    nothing : (o : Outcome (List ℕ)) → o ≡ after [] o
    nothing (got ls n) = rw (zero-add n)
    nothing (refused f q) = refl

after_more : (ls : List ℕ) (n : ℕ) (o : Outcome (List ℕ)) → after ls (and_then o (λ more m. got (n ∷ more) (n + m))) ≡ after (ls ++ n ∷ []) o
after_more ls n (got more m) =
    let e : sum ls + (n + m) ≡ sum (ls ++ n ∷ []) + m = omega (arith, sum_more ls n) in
    rw (append_assoc ls (n ∷ []) more, e)
after_more ls n (refused f q) = refl

-- one block more
walked_more : (s : List ℕ) (a p : ℕ) (ls row : List ℕ) {n : ℕ} → BlocksTo s row a ls p → block_step p (drop p s) ≡ got a_block n → is_free (noted_all s a ls row) (slot_at (drop p s)) ≡ true
    → BlocksTo s row a (ls ++ n ∷ []) (p + n)
unfolding noted_all
walked_more s a p [] row {n} w h f = (subst (λ (q : ℕ). block_step q (drop q s) ≡ got a_block n) (sym w) h, (rw w f, rw w))
walked_more s a p (m ∷ ms) row w h f = (w.0, (w.1.0, walked_more s (a + m) p ms (noted row (slot_at (drop a s)) (field_of a)) w.1.1 h f))

noted_more : (s : List ℕ) (a n : ℕ) (ls row : List ℕ) → noted_all s a (ls ++ n ∷ []) row ≡ noted (noted_all s a ls row) (slot_at (drop (a + sum ls) s)) (field_of (a + sum ls))
unfolding noted_all
noted_more s a n [] row = let z : a + 0 ≡ a = omega arith in rw z
noted_more s a n (m ∷ ms) row = let z : a + (m + sum ms) ≡ a + m + sum ms = omega arith in rw z (noted_more s (a + m) n ms (noted row (slot_at (drop a s)) (field_of a)))

Passed-more : (s : List ℕ) (a p : ℕ) {row next : List ℕ} {n k : ℕ} → Passed s a p row → Sized (drop p s) n k → ((q : ℕ) → block_step q (drop p s) ≡ got a_block n)
    → is_free row k ≡ true → next ≡ noted row k (field_of p) → Passed s a (p + n) next
Passed-more s a p {row} {next} {n} {k} P z h f e =
    let ls = P.lengths in
    let w : p + n ≤ length s = omega (arith, z.inside, length-drop p s, P.inside) in
    let slot : k ≡ slot_of (u32_at s (a + sum ls + 4)) = z.slot ∙ ap slot_of (number_drop 4 p s 4 ∙ ap (λ (q : ℕ). u32_at s (q + 4)) P.adds) in
    let field : p + 4 ≡ a + sum ls + 4 = omega (arith, P.adds) in
    let found : is_free row (slot_at (drop p s)) ≡ true = rw z.slot at f in
    record {
      lengths = ls ++ n ∷ [];
      adds = omega (arith, P.adds, sum_more ls n);
      inside = w;
      walked = walked_more s a p ls no_firsts P.walked (h p) (rw P.notes at found);
      notes = e ∙ rw (P.notes, z.slot, P.adds) (sym (noted_more s a n ls no_firsts));
      wide = ap length e ∙ wide_more row k (field_of p) ∙ P.wide;
      before = k ∷ P.before;
      free = λ slot. rw e (free_more row P.before k p P.wide P.free slot f);
      is = λ y.
          let r : drop p (s ++ y) ≡ drop p s ++ y = drop-append-le p s y P.inside in
          let x : slot_at (drop p s ++ y) ≡ k = sym (longer (drop p s) y z).slot in
          let o : once P.before (slot_at (drop p s ++ y)) ≡ true = rw x (sym (P.free k) ∙ f) in
          let on : blocks_after P.before p (drop p (s ++ y)) ≡ and_then (blocks_after (k ∷ P.before) (p + n) (drop (p + n) (s ++ y))) (λ more m. got (n ∷ more) (n + m))
          = rw (x, ← r, drop-drop n p (s ++ y)) at (walk_goes_on P.before (drop p s ++ y) p (longer (drop p s) y z).size (step_longer (drop p s) y z h p) o) in
          P.is y ∙ ap (after ls) on ∙ after_more ls n (blocks_after (k ∷ P.before) (p + n) (drop (p + n) (s ++ y)));
      first = λ small.
          let big = z.least in
          e ∙ rw (lt-ltb p most (omega arith), P.first small, slot, field) (sym (firsts_more s n a ls));
    }

-- two walks from a on that end where no more is passed went over the same blocks
walked_once : (s : List ℕ) (a p q : ℕ) (ls ms row : List ℕ) → BlocksTo s row a ls p → NoMore s p (noted_all s a ls row) → BlocksTo s row a ms q → NoMore s q (noted_all s a ms row) → ls ≡ ms
unfolding noted_all
walked_once s a p q [] [] row v f w g = refl
walked_once s a p q [] (m ∷ ms) row v f w g = clash w.1.0 (rw (← v) at (f m (subst (λ (x : ℕ). block_step x (drop x s) ≡ got a_block m) v w.0)))
walked_once s a p q (n ∷ ns) [] row v f w g = clash v.1.0 (rw (← w) at (g n (subst (λ (x : ℕ). block_step x (drop x s) ≡ got a_block n) w v.0)))
walked_once s a p q (n ∷ ns) (m ∷ ms) row v f w g =
    let e : n ≡ m = cc (v.0, w.0) in
    rw e (ap (λ (l : List ℕ). m ∷ l) (walked_once s (a + m) p q ns ms (noted row (slot_at (drop a s)) (field_of a)) (rw e at v.1.1) (rw e at f) w.1.1 g))

pub Passed-once : {s : List ℕ} {a p q : ℕ} {row other : List ℕ} → Passed s a p row → NoMore s p row → Passed s a q other → NoMore s q other → (p ≡ q) × (row ≡ other)
Passed-once {s} {a} {p} {q} P f Q g =
    let e = walked_once s a p q P.lengths Q.lengths no_firsts P.walked (rw P.notes at f) Q.walked (rw Q.notes at g) in
    (P.adds ∙ rw e (sym Q.adds), P.notes ∙ rw e (sym Q.notes))

-- ---- a turn of the walk

pub passed_fits : {s : List ℕ} {a p : ℕ} {row : List ℕ} {n k : ℕ} → Passed s a p row → Sized (drop p s) n k → p + n ≤ length s
passed_fits {s} {a} {p} P z = omega (arith, z.inside, P.inside, length-drop p s)

-- the rest after a block is what stands where the block ends
pub rest_on : (s rest : List ℕ) (p n : ℕ) → rest ≡ drop p s → take (length rest - n) (drop n rest) ≡ drop (p + n) s
rest_on s rest p n e = tail_part n rest ∙ ap (drop n) e ∙ drop-drop n p s

pub block_fits : (s rest : List ℕ) (a p : ℕ) (row : List ℕ) (b : Block) → Passed s a p row → rest ≡ drop p s → Stands rest (Ok (Some b)) → p + b.len ≤ length s
block_fits s rest a p row b P e h = passed_fits P (rw e at (stands_sized rest b h))

-- a block that finds its slot free is passed
pub Passed-on : (s rest : List ℕ) (a p : ℕ) (row next : List ℕ) (b : Block) → Passed s a p row → rest ≡ drop p s → Stands rest (Ok (Some b)) → is_free row b.slot ≡ true → next ≡ noted row b.slot (field_of p)
    → Passed s a (p + b.len) next
Passed-on s rest a p row next b P e h f noting = let here = rw e at h in Passed-more s a p P (stands_sized (drop p s) b here) (stands_block (drop p s) b here) f noting

-- one that finds it taken is not, and leaves the row as it is
pub Passed-twice : (s : List ℕ) (a p k : ℕ) (row next : List ℕ) → Passed s a p row → is_free row k ≡ false → next ≡ noted row k (field_of p) → Passed s a p next
Passed-twice s a p k row next P f noting = rw (noting, taken_stays row k (field_of p) f) P

module _ (s rest : List ℕ) (p : ℕ) (row : List ℕ) (e : rest ≡ drop p s) where
  pub none_twice : (b : Block) (next : List ℕ) → Stands rest (Ok (Some b)) → is_free row b.slot ≡ false → next ≡ noted row b.slot (field_of p) → NoMore s p next
  none_twice b next h f noting =
      let q : next ≡ row = noting ∙ taken_stays row b.slot (field_of p) f in
      let x : b.slot ≡ slot_at (drop p s) = rw e at (stands_sized rest b h).slot in
      rw q (λ m g. rw x at f)

  -- no block stands here
  pub none_here : (t : BlockStep) → Stands rest t → ((b : Block) → t ≡ Ok (Some b) → ⊥) → NoMore s p row
  none_here (Ok (Some b)) h other n g = absurd (other b refl)
  none_here (Ok None) h other n g = absurd (stands_end (drop p s) (rw e at h) p n g)
  none_here (Err f) h other n g = absurd (stands_fault (drop p s) f (rw e at h) p n g)

pub ruleset walking = (common_steps, tail_part, Passed-start, rest_on, stands_least, stands_inside, block_fits, Passed-on, Passed-twice)

-- ---- the ways out

module _ (s : List ℕ) (a : ℕ) where
  -- the answer has the number and the value of reading
  pub blocks_read : BlocksAnswer s a (blocks_at s a)
  unfolding blocks_at taken_number taken_value
  blocks_read = record { is = refl; number = number (blocks a (drop a s)); value = value (blocks a (drop a s)) }
    where
      number : (o : Outcome (List ℕ)) → taken_number (blocks_taken a o) ≡ outcome_number o
      number (got ls n) = refl
      number (refused f q) = refl

      value : (o : Outcome (List ℕ)) → taken_value (blocks_taken a o) ≡ outcome_end a o
      value (got ls n) = refl
      value (refused f q) = refl

  -- after a refusal nothing is noted
  pub none_noted : (r : Refusal) → blocks_at s a ≡ Err r → blocks_firsts s a ≡ no_firsts
  unfolding blocks_at blocks_firsts
  none_noted r = go (blocks a (drop a s))
    where
      go : (o : Outcome (List ℕ)) → blocks_taken a o ≡ Err r → firsts_by s a o ≡ no_firsts
      go (got ls n) e = cc
      go (refused f q) e = refl

  stops : {f : Fault} {q : Spot} → blocks a (drop a s) ≡ refused f q → blocks_at s a ≡ Err (refusal f q)
  unfolding blocks_at
  stops o = rw o

  pub read_nowhere : length s < a → blocks_at s a ≡ Err (refusal CUT (spot_at (terminal a) 0))
  read_nowhere h = stops (none_left [] a (drop a s) (omega (arith, length-drop a s)))

  module _ (p : ℕ) (row : List ℕ) (P : Passed s a p row) where
    all : blocks a (drop a s) ≡ after P.lengths (blocks_after P.before p (drop p s))
    all = rw append-nil at (P.is [])

    -- the terminal
    module _ (e : Ok None ≡ by_size (drop p s)) where
      ended : blocks a (drop a s) ≡ got P.lengths (sum P.lengths + 4)
      ended = rw append-nil at (all ∙ ap (after P.lengths) (walk_ended P.before (drop p s) p (by_end (drop p s) e refl p)))

      pub read_end : blocks_at s a ≡ read_to a p
      unfolding blocks_at
      read_end =
          let l : p - a ≡ sum P.lengths = omega (arith, P.adds) in
          let n : p + 4 ≡ a + (sum P.lengths + 4) = omega (arith, P.adds) in rw (ended, l, n)

      pub noted_end : length s ≤ most → blocks_firsts s a ≡ row
      unfolding blocks_firsts
      noted_end small = rw ended (sym (P.first small))

    -- what is none by its sizes
    pub read_stopped : (f : Fault) → Err f ≡ by_size (drop p s) → blocks_at s a ≡ Err (refusal f (spot_at (step_site p (length (drop p s))) 0))
    read_stopped f e = stops (all ∙ ap (after P.lengths) (walk_refused P.before (drop p s) p (by_fault (drop p s) e refl p)))

    -- a block by its sizes at which the walk ended
    pub read_wrong : NoMore s p row → (b : Block) → Ok (Some b) ≡ by_size (drop p s) → blocks_at s a ≡ Err (wrong_block b.slot (take b.len (drop p s)) p)
    unfolding wrong_block
    read_wrong none b e = go (wrong (inside_tests b.slot (take b.len (drop p s)))) refl
      where
        go : (o : Option ℕ) → o ≡ wrong (inside_tests b.slot (take b.len (drop p s))) → blocks_at s a ≡ Err (wrong_or_twice b.slot p o)
        go None w =
            let h = holds_right (drop p s) (by_block (drop p s) e refl) w p in
            stops (all ∙ ap (after P.lengths) (walk_twice P.before (drop p s) p h (sym (P.free (slot_at (drop p s))) ∙ none b.len h)))
        go (Some i) w = stops (all ∙ ap (after P.lengths) (walk_refused P.before (drop p s) p (holds_wrong (drop p s) (by_block (drop p s) e refl) w p)))

    pub block_inside : (b : Block) → Ok (Some b) ≡ by_size (drop p s) → p + b.len ≤ length s
    block_inside b e = passed_fits P (by_block (drop p s) e refl)

pub ruleset ending = (common_steps, tail_part, judged_length, judged_fits, read_nowhere, block_inside)
