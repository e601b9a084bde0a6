-- A shortcut that is cut among its blocks: CUT is told of the block that the cut hit, or of the terminal.
use mathlib.Core.Path.{◌≡◌, refl, sym, ap, ◌∙◌}
use mathlib.Core.List.{List, [], ◌∷◌, ◌++◌}
use Prim.Native.Nat.{ℕ, zero, suc, ◌+◌, ◌-◌, ◌≤◌, ◌<◌}
use native.Mathlib.Omega.{arith}
use native.Mathlib.Nat.{add-sub_of_le}
use lib.ListN.{length, take, drop, length-take, length-drop}
use lib.Seq.{length-take-le, take-take}
use borrow.Author.Tests.{leb-true, le-leb, lt-leb}
use Rattle.octets.proofs.NumberLaws.{number_same}
use Rattle.format.specs.declared.Profile.{Profile}
use Rattle.format.specs.declared.Fault.TheVariants.{Cut as CUT}
use Rattle.format.specs.declared.Spot.{Spot}
use Rattle.format.specs.declared.Header.{Header}
use Rattle.format.specs.Tests.{spot_at, Outcome, got, refused, Reader, chain, ◌then◌, no_place}
use Rattle.format.specs.Presence.{items_there, info_there, name_bit, relative_bit, workdir_bit, arguments_bit, icon_bit}
use Rattle.format.specs.Info.{no_info}
use Rattle.format.specs.Blocks.{slot_at, block_size, block_tests, block, terminal, blocks_after, blocks}
use Rattle.format.specs.Shortcut.{Section, Sections, found, tail, sections, sum, blocks_of}
use Rattle.format.proofs.Bools.{by_order}
use Rattle.format.proofs.Chains.{Pass, pass, no_value, chain_elim, drop-take}
use Rattle.format.proofs.BlockLaws.{none_left, more, more_on, one_more, step_elim, blocks_Walked, same_slot}
use Rattle.format.proofs.PlaceLaws.{found_elim}
use Rattle.format.proofs.MendLaws.{Front, Front-found, Front-header, Front-items, Front-info, Front-section, Front-strings}

pub sum-append : (xs ys : List ℕ) → sum (xs ++ ys) ≡ sum xs + sum ys
sum-append [] ys = omega arith
sum-append (x ∷ xs) ys = omega (arith, sum-append xs ys)

-- how long the next block is, or the terminal
abbrev pub next_size : List ℕ → ℕ
next_size [] = 4
next_size (n ∷ ns) = n

-- blocks of these lengths from p on, cut after l bytes: those before the one that is hit are whole
pub record Hit {A : Type 0} (p l : ℕ) (lengths : List ℕ) (o : Outcome A) : Type 0 where
  pub whole : List ℕ
  pub rest : List ℕ
  pub is : lengths ≡ whole ++ rest
  pub within : sum whole ≤ l
  pub next : l < sum whole + next_size rest
  pub spot : Spot
  pub late : 8 ≤ spot.section
  pub last : spot.section ≤ 9
  pub start : spot.start ≡ p + sum whole
  pub refusal : o ≡ refused CUT spot

-- ---- the walk

here : {A : Type 0} (p l : ℕ) (lengths : List ℕ) (o : Outcome A) (w : Spot) → l < next_size lengths → 8 ≤ w.section → w.section ≤ 9 → w.start ≡ p → o ≡ refused CUT w → Hit p l lengths o
here p l lengths o w h a b s e = record {
  whole = [];
  rest = lengths;
  is = refl;
  within = omega arith;
  next = omega arith;
  spot = w;
  late = a;
  last = b;
  start = omega arith;
  refusal = e;
}

-- k bounds what is left
walk_Hit : (k : ℕ) (before : List ℕ) (p : ℕ) (s lengths : List ℕ) (n : ℕ) → length s ≤ k → blocks_after before p s ≡ got lengths n → (l : ℕ) → l < n → Hit p l lengths (blocks_after before p (take l s))
walk_Hit zero before p s lengths n h e l = no_value (sym (none_left before p s (omega arith)) ∙ e)
walk_Hit (suc k) before p s lengths n h e l =
    step_elim before p s (λ lengths n. l < n → Hit p l lengths (blocks_after before p (take l s)))
    (λ i z u. here p l [] _ (spot_at (terminal p) 0) u (omega arith) (omega arith) refl (none_left before p (take l s) (omega (arith, length-take l s))))
    (λ c one ls m i u.
    let n : ℕ = block_size s in
    let t : List ℕ = take l s in
    let b : 8 ≤ n = leb-true 8 n c.0 in
    let w : n ≤ length s = leb-true n (length s) c.1.0 in
    let r = blocks_Walked (slot_at s ∷ before) (p + n) (drop n s) ls m i in
    by_order 4 l
    (λ g.
    let j : length t ≡ l = length-take-le l s (omega (arith, r.inside, length-drop n s)) in
    let f : block_size t ≡ n = number_same 4 4 t s 0 (take-take 4 l s g) (omega arith) in
    let o = one_more before p t (omega arith) (omega arith) in
    by_order n l
    (λ v.
    let y : take n t ≡ take n s = take-take n l s v in
    let x : slot_at t ≡ slot_at s = same_slot n t s y b in
    let d : drop n t ≡ take (l - n) (drop n s) = rw add-sub_of_le at (drop-take n (l - n) s) in
    let a : Pass (block_tests t) = rw (f, y) (c.0, (le-leb n (length t) (omega arith), c.1.1)) in
    let q = walk_Hit k (slot_at s ∷ before) (p + n) (drop n s) ls m (omega (arith, length-drop n s)) i (l - n) (omega arith) in
    record {
      whole = n ∷ q.whole;
      rest = q.rest;
      is = ap (λ (x : List ℕ). n ∷ x) q.is;
      within = omega (arith, q.within);
      next = omega (arith, q.next);
      spot = q.spot;
      late = q.late;
      last = q.last;
      start = omega (arith, q.start);
      refusal = o ∙ pass (block p) (block_tests t) (more before p (block_size t) t) a ∙ ap (λ (j : ℕ). more before p j t) f ∙ more_on before p n t (refused CUT q.spot) (rw x one) (rw (x, d) q.refusal);
    })
    (λ v. here p l (n ∷ ls) _ (spot_at (block p) 0) v (omega arith) (omega arith) refl (o ∙ rw (f, c.0, lt-leb n (length t) (omega arith)))))
    (λ g. here p l (n ∷ ls) _ (spot_at (terminal p) 0) (omega arith) (omega arith) (omega arith) refl (none_left before p t (omega (arith, length-take l s)))))
    lengths n e

-- ---- sections one after another, the blocks last

record Hits {A : Type 0} (P : Reader A) (last : A → Section (List ℕ)) : Type 0 where
  after : (p : ℕ) (s : List ℕ) (a : A) (n : ℕ) → P p s ≡ got a n → p ≤ (last a).start
  hits : (p : ℕ) (s : List ℕ) (a : A) (n : ℕ) → P p s ≡ got a n → (k : ℕ) → (last a).start ≤ p + k → k < n → Hit (last a).start (p + k - (last a).start) (last a).read (P p (take k s))

Hits-blocks : Hits (found blocks) (λ c. c)
Hits-blocks = record {
  after = λ p s c n e. found_elim blocks p s (λ c n. p ≤ c.start) (λ ls n i. omega arith) c n e;
  hits = λ p s c n e k.
      found_elim blocks p s (λ c n. c.start ≤ p + k → k < n → Hit c.start (p + k - c.start) c.read (found blocks p (take k s)))
      (λ ls n i h u.
      let z : p + k - p ≡ k = omega arith in
      let q = walk_Hit (length s) [] p s ls n (omega arith) i k u in
      rw z (record {
        whole = q.whole;
        rest = q.rest;
        is = q.is;
        within = q.within;
        next = q.next;
        spot = q.spot;
        late = q.late;
        last = q.last;
        start = q.start;
        refusal = rw q.refusal;
      }))
      c n e;
}

Hits-chain : {A B : Type 0} {P : Reader A} (Q : A → Reader B) (last : B → Section (List ℕ)) → Front P → ((a : A) → Hits (Q a) last) → Hits (chain P Q) (λ c. last c.1)
Hits-chain {P = P} Q last F G = record {
  after = λ p s c n e. chain_elim P Q p s (λ c n. p ≤ (last c.1).start) (λ a n b m i j. omega (arith, (G a).after (p + n) (drop n s) b m j)) c n e;
  hits = λ p s c n e k.
      chain_elim P Q p s (λ c n. (last c.1).start ≤ p + k → k < n → Hit (last c.1).start (p + k - (last c.1).start) (last c.1).read (chain P Q p (take k s)))
      (λ a n b m i j h u.
      let y = (G a).after (p + n) (drop n s) b m j in
      let g : n ≤ k = omega arith in
      let o : n ≤ length s = F.own.inside p s a n i in
      let x : P p (take k s) ≡ got a n = F.own.alike p s a n i (take k s) (take-take n k s g) (omega (arith, length-take k s)) in
      let d : drop n (take k s) ≡ take (k - n) (drop n s) = rw add-sub_of_le at (drop-take n (k - n) s) in
      let v : p + n + (k - n) ≡ p + k = omega arith in
      let q = rw v at ((G a).hits (p + n) (drop n s) b m j (k - n) (omega arith) (omega arith)) in
      record {
        whole = q.whole;
        rest = q.rest;
        is = q.is;
        within = q.within;
        next = q.next;
        spot = q.spot;
        late = q.late;
        last = q.last;
        start = q.start;
        refusal = rw (x, d, q.refusal);
      })
      c n e;
}

Hits-then : {A B : Type 0} {P : Reader A} {Q : Reader B} (last : B → Section (List ℕ)) → Front P → Hits Q last → Hits (P then Q) (λ c. last c.1)
Hits-then {Q = Q} last F G = Hits-chain (λ a. Q) last F (λ a. G)

Hits-tail : (profile : Profile) (flags : ℕ) → Hits (tail profile flags) (λ c. c.1.1.1.1.1.1.1)
Hits-tail profile flags =
    Hits-then _ (Front-section (items_there flags) no_place Front-items)
    (Hits-then _ (Front-section (info_there flags) no_info (Front-info profile))
    (Hits-then _ (Front-strings flags name_bit (omega arith))
    (Hits-then _ (Front-strings flags relative_bit (omega arith))
    (Hits-then _ (Front-strings flags workdir_bit (omega arith))
    (Hits-then _ (Front-strings flags arguments_bit (omega arith)) (Hits-then _ (Front-strings flags icon_bit (omega arith)) Hits-blocks))))))

pub sections-Hit : (profile : Profile) (s : List ℕ) (c : Sections) (n : ℕ) → sections profile 0 s ≡ got c n → (k : ℕ) → (blocks_of c).start ≤ k → k < n
    → Hit (blocks_of c).start (k - (blocks_of c).start) (blocks_of c).read (sections profile 0 (take k s))
unfolding sections
sections-Hit profile s c n e k h u =
    let H = Hits-chain (λ (x : Section Header). tail profile x.read.flags) (λ c. c.1.1.1.1.1.1.1) (Front-found (Front-header profile)) (λ x. Hits-tail profile x.read.flags) in
    let z : 0 + k ≡ k = omega arith in
    rw z at (H.hits 0 s c n e k (omega arith) u)
