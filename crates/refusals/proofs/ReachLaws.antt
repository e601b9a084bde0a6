-- From the file to the section at fault and back: a refusal is what the section gives by itself where it is due.
use mathlib.Core.Path.{◌≡◌, refl, sym, ap, ◌∙◌}
use mathlib.Core.List.{List, [], ◌∷◌}
use mathlib.Core.Bool.{Bool, true, false, cond}
use Prim.Native.Nat.{ℕ, zero, suc, ◌+◌, ◌-◌, ◌≤◌, ◌<◌}
use native.Mathlib.Omega.{arith}
use native.Mathlib.Nat.{add_assoc, add-sub_of_le}
use lib.ListN.{length, take, drop, length-take, length-drop}
use lib.Seq.{take-take, length-take-le, drop-drop}
use lib.Dec.{leb, ltb, eqb}
use borrow.Author.Tests.{leb-true, le-leb, lt-leb, lt-ltb, le-ltb, eqb-true, eq-eqb, ne_eqb}
use Rattle.octets.proofs.NumberLaws.{number_same}
use Rattle.format.specs.declared.Profile.{Profile}
use Rattle.format.specs.declared.Fault.{Fault}
use Rattle.format.specs.declared.Fault.TheVariants.{Cut as CUT, Twice as TWICE}
use Rattle.format.specs.declared.Spot.{Spot}
use Rattle.format.specs.Tests.{◌else◌at◌, section, spot_at, tests, Outcome, got, refused, Reader, and_then, chain, ◌then◌, no_place}
use Rattle.format.specs.Presence.{items_there, info_there, name_bit, relative_bit, workdir_bit, arguments_bit, icon_bit, string_there, strings_unicode}
use Rattle.format.specs.Header.{header}
use Rattle.format.specs.Items.{items}
use Rattle.format.specs.Strings.{string}
use Rattle.format.specs.Info.{no_info, info}
use Rattle.format.specs.Blocks.{Standing, a_block, a_terminal, slot_at, block_size, block_tests, block, terminal, once, once_tests, is_among, follow, blocks_after, blocks}
use Rattle.format.specs.Shortcut.{Section, found, section_if, string_section, tail}
use Rattle.format.specs.Positions.{is_string}
use Rattle.format.proofs.Bools.{and-true, or_left, or_right, by_order, clash}
use Rattle.format.proofs.Chains.{Pass, passed, got_elim, no_value, drop-take}
use Rattle.format.proofs.BlockLaws.{none_left, the_end, one_more, follow-tests, same_slot}
use Rattle.format.proofs.MendLaws.{refused_elim, no_refusal, Front, Front-header, Front-items, Front-info, Front-found, Front-section, Front-strings}
use Rattle.refusals.specs.Due.{size_or_field}
use Rattle.refusals.proofs.StepLaws.{Cuts, Cuts-header, Cuts-items, Cuts-string, Cuts-info, Cuts-block, block_here, ended, unended, step}

-- ---- both ways

module _ (profile : Profile) (u : Bool) where
  -- a block of the slot x is due among the n bytes from p on
  abbrev pub Earlier : {A : Type 0} → Reader A → ℕ → List ℕ → ℕ → ℕ → Type 0
  Earlier P p s n x = (c : ℕ) × ((c + 8 ≤ n) × ((P p (take c s) ≡ refused CUT (spot_at (section 9 (p + c)) 0)) × (slot_at (drop c s) ≡ x)))

  -- the section `number` is due `count` bytes after p, and refuses; and so it decides in all files with the same bytes before it, if it refuses there
  pub record Reached {A : Type 0} (m : ℕ) (noted : List ℕ) (P : Reader A) (p : ℕ) (s : List ℕ) (f : Fault) (w : Spot) : Type 0 where
    pub count : ℕ
    pub number : ℕ
    pub before : List ℕ
    pub is : w.start ≡ p + count
    pub within : count ≤ length s
    -- its number is m or more, and the header is the first
    pub low : m ≤ number
    pub early : number ≡ 0 → count ≡ 0
    pub refusal : step profile u before number (p + count) (drop count s) ≡ refused f w
    pub on : (t : List ℕ) → take count t ≡ take count s → count ≤ length t → {g : Fault} {v : Spot} → step profile u before number (p + count) (drop count t) ≡ refused g v → P p t ≡ refused g v
    -- `before` has the slots noted at the start, and those of the blocks since then
    pub from : (x : ℕ) → is_among x before ≡ true → is_among x noted ≡ false → Earlier P p s count x
    pub kept : (x : ℕ) → is_among x noted ≡ true → is_among x before ≡ true
    pub seen : (x : ℕ) → Earlier P p s count x → is_among x before ≡ true

  pub record Walks {A : Type 0} (m : ℕ) (P : Reader A) : Type 0 where
    pub reaches : (p : ℕ) (s : List ℕ) {f : Fault} {w : Spot} → P p s ≡ refused f w → Reached m [] P p s f w

  -- the same place and the same bytes, said in another way
  moved : (before : List ℕ) (k p q : ℕ) (b c : List ℕ) → p ≡ q → b ≡ c → {f : Fault} {w : Spot} → step profile u before k p b ≡ refused f w → step profile u before k q c ≡ refused f w
  moved before k p q b c e i j = rw (← e, ← i) j

  -- what two lists share of their first n + c elements
  less : (n c : ℕ) (t s : List ℕ) → take (n + c) t ≡ take (n + c) s → take n t ≡ take n s
  less n c t s e = sym (take-take n (n + c) t (omega arith)) ∙ ap (take n) e ∙ take-take n (n + c) s (omega arith)

  shared : (n c : ℕ) (t s : List ℕ) → take (n + c) t ≡ take (n + c) s → take c (drop n t) ≡ take c (drop n s)
  shared n c t s e = sym (drop-take n c t) ∙ ap (drop n) e ∙ drop-take n c s

  -- ---- one section, of the number k₀

  found-refused : {A : Type 0} (R : Reader A) (p : ℕ) (s : List ℕ) {f : Fault} {w : Spot} → found R p s ≡ refused f w → R p s ≡ refused f w
  found-refused {A = A} R p s {f} {w} e = go (R p s) refl e
    where
      go : (o : Outcome A) → R p s ≡ o → ◌≡◌ {A = Outcome (Section A)} (and_then o (λ a n. got (record { there = true; start = p; len = n; read = a }) n)) (refused f w) → R p s ≡ refused f w
      go (got a n) i z = no_refusal z
      go (refused g v) i z = i ∙ refused_elim (λ h x. ◌≡◌ {A = Outcome A} (refused g v) (refused h x)) z refl

  Walks-found : {A : Type 0} {R : Reader A} {need : List ℕ → ℕ} (m k₀ : ℕ) → m ≤ k₀ → Cuts R need → ((p : ℕ) (b : List ℕ) → step profile u [] k₀ p b ≡ ended (R p b)) → Walks m (found R)
  Walks-found {R = R} m k₀ least C same = record {
    reaches = λ p s e.
        let z : p + 0 ≡ p = omega arith in
        let i = found-refused R p s e in
        record {
          count = 0;
          number = k₀;
          before = [];
          is = C.start p s i ∙ sym z;
          within = omega arith;
          low = least;
          early = λ e. refl;
          refusal = moved [] k₀ p (p + 0) s s (sym z) refl (same p s ∙ ap ended i);
          on = λ t y h j. rw (unended (R p t) (sym (same p t) ∙ moved [] k₀ (p + 0) p t t z refl j));
          from = λ x a b. clash a b;
          kept = λ x a. a;
          seen = λ x (c, y). absurd (omega (arith, y.0));
        };
  }

  Walks-section : {A : Type 0} {m : ℕ} (R : Reader A) (b : Bool) (d : A) → Walks m (found R) → Walks m (section_if b d R)
  Walks-section R true d W = W
  Walks-section R false d W = record { reaches = λ p s e. no_refusal e }

  -- ---- one after another

  module _ {A B : Type 0} {P : Reader A} (Q : A → Reader B) (m : ℕ) (few : m ≤ 1) (F : Front P) (W : Walks m P) (G : (a : A) → Walks 1 (Q a)) where
    chain_read : (p : ℕ) (s : List ℕ) (a : A) (n : ℕ) → P p s ≡ got a n → {f : Fault} {w : Spot} → chain P Q p s ≡ refused f w → Q a (p + n) (drop n s) ≡ refused f w
    chain_read p s a n i {f} {w} e = go (Q a (p + n) (drop n s)) refl (sym (rw i) ∙ e)
      where
        go : (o : Outcome B) → Q a (p + n) (drop n s) ≡ o → ◌≡◌ {A = Outcome (A × B)} (and_then o (λ b m. got (a, b) (n + m))) (refused f w) → Q a (p + n) (drop n s) ≡ refused f w
        go (got b m) j z = no_refusal z
        go (refused g v) j z = j ∙ refused_elim (λ h x. ◌≡◌ {A = Outcome B} (refused g v) (refused h x)) z refl

    chain_stopped : (p : ℕ) (s : List ℕ) (g : Fault) (v : Spot) → P p s ≡ refused g v → {f : Fault} {w : Spot} → chain P Q p s ≡ refused f w → P p s ≡ refused f w
    chain_stopped p s g v i e = i ∙ refused_elim (λ h x. ◌≡◌ {A = Outcome A} (refused g v) (refused h x)) (sym (rw i) ∙ e) refl

    -- a beginning that P has read, and what is refused after it
    module _ (p : ℕ) (s : List ℕ) (a : A) (n : ℕ) (i : P p s ≡ got a n) where
      chain_due : (c : ℕ) → n + c ≤ length s → {f : Fault} {w : Spot} → Q a (p + n) (take c (drop n s)) ≡ refused f w → chain P Q p (take (n + c) s) ≡ refused f w
      chain_due c h e =
          let y : P p (take (n + c) s) ≡ got a n = F.own.alike p s a n i (take (n + c) s) (take-take n (n + c) s (omega arith)) (omega (arith, length-take-le (n + c) s h)) in
          rw (y, drop-take n c s, e)

      due_chain : (c : ℕ) → c ≤ length s → {q : ℕ} → chain P Q p (take c s) ≡ refused CUT (spot_at (section 9 q) 0) → (n ≤ c) × (Q a (p + n) (take (c - n) (drop n s)) ≡ refused CUT (spot_at (section 9 q) 0))
      due_chain c h {q} e = go (P p (take c s)) refl
        where
          go : (o : Outcome A) → P p (take c s) ≡ o → (n ≤ c) × (Q a (p + n) (take (c - n) (drop n s)) ≡ refused CUT (spot_at (section 9 q) 0))
          go (got b k) j =
              let l : k ≤ c = omega (arith, F.own.inside p (take c s) b k j, length-take c s) in
              let y : P p s ≡ got b k = F.own.alike p (take c s) b k j s (sym (take-take k c s l)) (omega arith) in
              let d : drop k (take c s) ≡ take (c - k) (drop k s) = rw add-sub_of_le at (drop-take k (c - k) s) in
              got_elim (λ b k. k ≤ c → Q b (p + k) (take (c - k) (drop k s)) ≡ refused CUT (spot_at (section 9 q) 0) → (n ≤ c) × (Q a (p + n) (take (c - n) (drop n s)) ≡ refused CUT (spot_at (section 9 q) 0)))
              (sym i ∙ y) (λ l z. (l, z)) l (ap (Q b (p + k)) (sym d) ∙ chain_read p (take c s) b k j e)
          go (refused g v) j = absurd (omega (arith, (F.early p (take c s) (chain_stopped p (take c s) g v j e)).0))

    chain_reaches : (p : ℕ) (s : List ℕ) {f : Fault} {w : Spot} → chain P Q p s ≡ refused f w → Reached m [] (chain P Q) p s f w
    chain_reaches p s {f} {w} e = go (P p s) refl
      where
        go : (o : Outcome A) → P p s ≡ o → Reached m [] (chain P Q) p s f w
        go (got a n) i =
            let x = (G a).reaches (p + n) (drop n s) (chain_read p s a n i e) in
            let c : ℕ = x.count in
            let l : n ≤ length s = F.own.inside p s a n i in
            record {
              count = n + c;
              number = x.number;
              before = x.before;
              is = x.is ∙ add_assoc p n c;
              within = omega (arith, x.within, length-drop n s);
              low = omega (arith, x.low);
              early = λ z. absurd (omega (arith, x.low));
              refusal = moved x.before x.number (p + n + c) (p + (n + c)) (drop c (drop n s)) (drop (n + c) s) (add_assoc p n c) (drop-drop c n s) x.refusal;
              on = λ t y h j.
                  let z : P p t ≡ got a n = F.own.alike p s a n i t (less n c t s y) (omega arith) in
                  rw (z, x.on (drop n t) (shared n c t s y) (omega (arith, length-drop n t)) (moved x.before x.number (p + (n + c)) (p + n + c) (drop (n + c) t) (drop c (drop n t)) (sym (add_assoc p n c)) (sym (drop-drop c n t)) j));
              from = λ y g h.
                  let (d, (o, (z, q))) = x.from y g h in
                  (n + d, (omega arith, (chain_due p s a n i d (omega (arith, x.within, length-drop n s)) z ∙ ap (λ (j : ℕ). refused CUT (spot_at (section 9 j) 0)) (add_assoc p n d), ap slot_at (sym (drop-drop d n s)) ∙ q)));
              kept = x.kept;
              seen = λ y (d, (o, (z, q))).
                  let (g, h) = due_chain p s a n i d (omega (arith, x.within, length-drop n s)) z in
                  let r : p + d ≡ p + n + (d - n) = omega arith in
                  let v : n + (d - n) ≡ d = omega arith in
                  x.seen y (d - n, (omega arith, (h ∙ ap (λ (j : ℕ). refused CUT (spot_at (section 9 j) 0)) r, ap slot_at (drop-drop (d - n) n s ∙ ap (λ (j : ℕ). drop j s) v) ∙ q)));
            }
        go (refused g v) i =
            let x = W.reaches p s (chain_stopped p s g v i e) in
            record {
              count = x.count;
              number = x.number;
              before = x.before;
              is = x.is;
              within = x.within;
              low = x.low;
              early = x.early;
              refusal = x.refusal;
              on = λ t y h j. rw (x.on t y h j);
              from = λ y g h. let (d, (o, (z, q))) = x.from y g h in (d, (o, (rw z, q)));
              kept = x.kept;
              seen = λ y (d, (o, (z, q))). x.seen y (d, (o, (stopped_due d (omega (arith, x.within)) z, q)));
            }
          where
            stopped_due : (d : ℕ) → d ≤ length s → {q : ℕ} → chain P Q p (take d s) ≡ refused CUT (spot_at (section 9 q) 0) → P p (take d s) ≡ refused CUT (spot_at (section 9 q) 0)
            stopped_due d h {q} z = by (P p (take d s)) refl
              where
                by : (o : Outcome A) → P p (take d s) ≡ o → P p (take d s) ≡ refused CUT (spot_at (section 9 q) 0)
                by (got b k) j =
                    let l : k ≤ d = omega (arith, F.own.inside p (take d s) b k j, length-take d s) in
                    no_value (sym i ∙ F.own.alike p (take d s) b k j s (sym (take-take k d s l)) (omega arith))
                by (refused h y) j = chain_stopped p (take d s) h y j z

    Walks-chain : Walks m (chain P Q)
    Walks-chain = record { reaches = chain_reaches }

  Walks-then : {A B : Type 0} {P : Reader A} {Q : Reader B} → Front P → Walks 1 P → Walks 1 Q → Walks 1 (P then Q)
  Walks-then {Q = Q} F W G = Walks-chain (λ a. Q) 1 (omega arith) F W (λ a. G)

  -- ---- the blocks

  abbrev next : List ℕ → ℕ → List ℕ → Outcome (List ℕ)
  next before p s = blocks_after (slot_at s ∷ before) (p + block_size s) (drop (block_size s) s)

  pub block_step : (before : List ℕ) (p : ℕ) (b : List ℕ) → step profile u before 9 p b ≡ ended (block_here before p b)
  unfolding step
  block_step before p b = refl

  -- the walk is the block that stands here, and those after it
  walk_here : (before : List ℕ) (p : ℕ) (s : List ℕ) → blocks_after before p s ≡ follow (block_here before p s) (next before p s)
  walk_here before p s =
      by_order 4 (length s)
      (λ h.
      by_order 4 (block_size s)
      (λ t.
      one_more before p s h t
      ∙ rw (le-leb 4 (length s) h, le-ltb (block_size s) 4 t) (
      ap (tests (block p) (block_tests s)) (go (once before (slot_at s)))
      ∙ sym (follow-tests (block p) (block_tests s) (tests (block p) (once_tests before (slot_at s)) (got a_block (block_size s))) (next before p s))
      ))
      (λ t. the_end before p s h t ∙ rw (le-leb 4 (length s) h, lt-ltb (block_size s) 4 t)))
      (λ h. none_left before p s h ∙ rw (lt-leb 4 (length s) h))
    where
      go : (b : Bool) → and_then (tests (block p) (b else TWICE at 4 ∷ []) (next before p s)) (λ lengths m. got (block_size s ∷ lengths) (block_size s + m))
          ≡ follow (tests (block p) (b else TWICE at 4 ∷ []) (got a_block (block_size s))) (next before p s)
      go true = refl
      go false = refl

  -- a block that passed: what is known of it
  record Passed (before : List ℕ) (p : ℕ) (s : List ℕ) (n : ℕ) : Type 0 where
    size : n ≡ block_size s
    least : 8 ≤ n
    inside : n ≤ length s
    tested : Pass (block_tests s)
    once : once before (slot_at s) ≡ true

  block_Passed : (before : List ℕ) (p : ℕ) (s : List ℕ) (n : ℕ) → block_here before p s ≡ got a_block n → Passed before p s n
  block_Passed before p s n e =
      let i = passed (terminal p) (leb 4 (length s) else CUT at 0 ∷ []) _ e in
      go (ltb (block_size s) 4) i.1
    where
      go : (b : Bool) → cond b (got a_terminal 4) (tests (block p) (block_tests s) (tests (block p) (once_tests before (slot_at s)) (got a_block (block_size s)))) ≡ got a_block n → Passed before p s n
      go true z = absurd (let y : a_terminal ≡ a_block = cc in let x : ◌≡◌ {A = ℕ} 0 1 = cc in omega arith)
      go false z =
          let j = passed (block p) (block_tests s) (tests (block p) (once_tests before (slot_at s)) (got a_block (block_size s))) z in
          let k = passed (block p) (once_tests before (slot_at s)) (got a_block (block_size s)) j.1 in
          let m : n ≡ block_size s = cc in
          record { size = m; least = omega (arith, leb-true 8 (block_size s) j.0.0); inside = omega (arith, leb-true (block_size s) (length s) j.0.1.0); tested = j.0; once = k.0.0 }

  module _ (before : List ℕ) (p : ℕ) (s : List ℕ) where
    -- the block here refuses, or it passed and one after it does
    walk_split {ℓ} : {X : Type ℓ} {f : Fault} {w : Spot} → blocks_after before p s ≡ refused f w → (block_here before p s ≡ refused f w → X)
        → ((n : ℕ) → block_here before p s ≡ got a_block n → blocks_after (slot_at s ∷ before) (p + n) (drop n s) ≡ refused f w → X) → X
    walk_split {X = X} {f} {w} e here after = go (block_here before p s) refl (sym (walk_here before p s) ∙ e)
      where
        rest : (n : ℕ) → block_here before p s ≡ got a_block n → (o : Outcome (List ℕ)) → next before p s ≡ o
            → ◌≡◌ {A = Outcome (List ℕ)} (and_then o (λ lengths m. got (n ∷ lengths) (n + m))) (refused f w) → X
        rest n i (got ls m) j z = no_refusal z
        rest n i (refused g v) j z =
            let x = block_Passed before p s n i in
            after n i (rw x.size (j ∙ refused_elim (λ h y. ◌≡◌ {A = Outcome (List ℕ)} (refused g v) (refused h y)) z refl))

        go : (o : Outcome Standing) → block_here before p s ≡ o → follow o (next before p s) ≡ refused f w → X
        go (got a_terminal n) i z = no_refusal z
        go (got a_block n) i z = rest n i (next before p s) refl z
        go (refused g v) i z = here (i ∙ refused_elim (λ h y. ◌≡◌ {A = Outcome Standing} (refused g v) (refused h y)) z refl)

    walk_stopped : {f : Fault} {w : Spot} → block_here before p s ≡ refused f w → blocks_after before p s ≡ refused f w
    walk_stopped e = walk_here before p s ∙ rw e

    walk_on : (n : ℕ) → block_here before p s ≡ got a_block n → {f : Fault} {w : Spot} → blocks_after (slot_at s ∷ before) (p + n) (drop n s) ≡ refused f w → blocks_after before p s ≡ refused f w
    walk_on n i e =
        let x = block_Passed before p s n i in
        walk_here before p s ∙ rw (i, ← x.size, e)

  -- a block that passed is read alike wherever its bytes stand
  block_alike : (before : List ℕ) (p : ℕ) (s : List ℕ) (n : ℕ) → block_here before p s ≡ got a_block n → (t : List ℕ) → take n t ≡ take n s → n ≤ length t → block_here before p t ≡ got a_block n
  block_alike before p s n e t y h =
      let x = block_Passed before p s n e in
      let m : length (take n s) ≡ n = length-take-le n s x.inside in
      let z : block_size (take n s) ≡ n = number_same 4 n (take n s) s 0 (take-take n n s (omega arith)) (omega (arith, x.least)) ∙ sym x.size in
      let o : size_or_field 8 (block_size (take n s)) ≤ length (take n s) = rw (z, le-ltb n 8 x.least) (omega arith) in
      let a = (Cuts-block before).same p (take n s) s o (ap (λ (i : ℕ). take i s) m) in
      let b = (Cuts-block before).same p (take n s) t o (ap (λ (i : ℕ). take i t) m ∙ y) in
      b ∙ sym a ∙ e

  -- the block at p itself
  here_Reached : (before : List ℕ) (p : ℕ) (s : List ℕ) {f : Fault} {w : Spot} → block_here before p s ≡ refused f w → Reached 1 before (blocks_after before) p s f w
  here_Reached before p s i =
      let z : p + 0 ≡ p = omega arith in
      record {
        count = 0;
        number = 9;
        before = before;
        is = (Cuts-block before).start p s i ∙ sym z;
        within = omega arith;
        low = omega arith;
        early = λ e. refl;
        refusal = moved before 9 p (p + 0) s s (sym z) refl (block_step before p s ∙ ap ended i);
        on = λ t y h j. walk_stopped before p t (unended (block_here before p t) (sym (block_step before p t) ∙ moved before 9 (p + 0) p t t z refl j));
        from = λ x a b. clash a b;
        kept = λ x a. a;
        seen = λ x (c, y). absurd (omega (arith, y.0));
      }

  -- beginnings of what follows a block that passed, and of all of it
  module _ (before : List ℕ) (p : ℕ) (s : List ℕ) (n : ℕ) (i : block_here before p s ≡ got a_block n) where
    rest_due : (c : ℕ) → n + c ≤ length s → {f : Fault} {w : Spot} → blocks_after (slot_at s ∷ before) (p + n) (take c (drop n s)) ≡ refused f w → blocks_after before p (take (n + c) s) ≡ refused f w
    rest_due c h e =
        let r = block_Passed before p s n i in
        let t : List ℕ = take (n + c) s in
        let y : take n t ≡ take n s = take-take n (n + c) s (omega arith) in
        let q : slot_at t ≡ slot_at s = same_slot n t s y r.least in
        walk_on before p t n (block_alike before p s n i t y (omega (arith, length-take-le (n + c) s h))) (rw (q, drop-take n c s) e)

    due_rest : (c : ℕ) → c ≤ length s → 1 ≤ c → blocks_after before p (take c s) ≡ refused CUT (spot_at (section 9 (p + c)) 0)
        → (n ≤ c) × (blocks_after (slot_at s ∷ before) (p + n) (take (c - n) (drop n s)) ≡ refused CUT (spot_at (section 9 (p + c)) 0))
    due_rest c h o e =
        walk_split before p (take c s) e (λ z. absurd (omega (arith, (Cuts-block before).start p (take c s) z))) (λ k j z.
        let r = block_Passed before p (take c s) k j in
        let l : k ≤ c = omega (arith, r.inside, length-take c s) in
        let y : block_here before p s ≡ got a_block k = block_alike before p (take c s) k j s (sym (take-take k c s l)) (omega arith) in
        let q : slot_at (take c s) ≡ slot_at s = same_slot k (take c s) s (take-take k c s l) r.least in
        let d : drop k (take c s) ≡ take (c - k) (drop k s) = rw add-sub_of_le at (drop-take k (c - k) s) in
        got_elim (λ b k. k ≤ c → blocks_after (slot_at s ∷ before) (p + k) (take (c - k) (drop k s)) ≡ refused CUT (spot_at (section 9 (p + c)) 0)
        → (n ≤ c) × (blocks_after (slot_at s ∷ before) (p + n) (take (c - n) (drop n s)) ≡ refused CUT (spot_at (section 9 (p + c)) 0)))
        (sym i ∙ y) (λ l z. (l, z)) l (rw (q, d) at z))

  -- one of those after a block that passed
  after_Reached : (before : List ℕ) (p : ℕ) (s : List ℕ) (n : ℕ) → block_here before p s ≡ got a_block n → {f : Fault} {w : Spot} → Reached 1 (slot_at s ∷ before) (blocks_after (slot_at s ∷ before)) (p + n) (drop n s) f w
      → Reached 1 before (blocks_after before) p s f w
  after_Reached before p s n i x =
      let r = block_Passed before p s n i in
      let c : ℕ = x.count in
      record {
        count = n + c;
        number = x.number;
        before = x.before;
        is = x.is ∙ add_assoc p n c;
        within = omega (arith, x.within, length-drop n s, r.inside);
        low = x.low;
        early = λ z. absurd (omega (arith, x.low));
        refusal = moved x.before x.number (p + n + c) (p + (n + c)) (drop c (drop n s)) (drop (n + c) s) (add_assoc p n c) (drop-drop c n s) x.refusal;
        on = λ t y h j.
            let q : slot_at t ≡ slot_at s = same_slot n t s (less n c t s y) r.least in
            let a = block_alike before p s n i t (less n c t s y) (omega arith) in
            walk_on before p t n a
            (rw q (x.on (drop n t) (shared n c t s y) (omega (arith, length-drop n t)) (moved x.before x.number (p + (n + c)) (p + n + c) (drop (n + c) t) (drop c (drop n t)) (sym (add_assoc p n c)) (sym (drop-drop c n t)) j)));
        from = λ y g h. first_or y (eqb y (slot_at s)) refl g h;
        kept = λ y g. x.kept y (or_right (eqb y (slot_at s)) (is_among y before) g);
        seen = λ y (d, (o, (z, q))).
            by_order 1 d
            (λ l.
            let (g, h) = due_rest before p s n i d (omega (arith, x.within, length-drop n s, r.inside)) l z in
            let a : p + d ≡ p + n + (d - n) = omega arith in
            let v : n + (d - n) ≡ d = omega arith in
            x.seen y (d - n, (omega arith, (h ∙ ap (λ (j : ℕ). refused CUT (spot_at (section 9 j) 0)) a, ap slot_at (drop-drop (d - n) n s ∙ ap (λ (j : ℕ). drop j s) v) ∙ q))))
            (λ l.
            let v : d ≡ 0 = omega arith in
            x.kept y (or_left (eqb y (slot_at s)) (is_among y before) (eq-eqb y (slot_at s) (sym (ap (λ (j : ℕ). slot_at (drop j s)) (sym v) ∙ q)))));
      }
    where
      first_or : (y : ℕ) (b : Bool) → eqb y (slot_at s) ≡ b → is_among y x.before ≡ true → is_among y before ≡ false → Earlier (blocks_after before) p s (n + x.count) y
      first_or y true e g h =
          let z : p + 0 ≡ p = omega arith in
          (0, (omega (arith, (block_Passed before p s n i).least), (rw z (none_left before p [] (omega arith)), sym (eqb-true y (slot_at s) e))))
      first_or y false e g h =
          let (d, (o, (z, q))) = x.from y g (rw e h) in
          (n + d, (omega arith, (rest_due before p s n i d (omega (arith, x.within, length-drop n s, (block_Passed before p s n i).inside)) z ∙ ap (λ (j : ℕ). refused CUT (spot_at (section 9 j) 0)) (add_assoc p n d), ap slot_at (sym (drop-drop d n s)) ∙ q)))

  -- j bounds what is left
  walk_reaches : (j : ℕ) (before : List ℕ) (p : ℕ) (s : List ℕ) → length s ≤ j → {f : Fault} {w : Spot} → blocks_after before p s ≡ refused f w → Reached 1 before (blocks_after before) p s f w
  walk_reaches zero before p s h e = walk_split before p s e (here_Reached before p s) (λ n i z. absurd (omega (arith, (block_Passed before p s n i).least, (block_Passed before p s n i).inside)))
  walk_reaches (suc j) before p s h e =
      walk_split before p s e (here_Reached before p s)
      (λ n i z. after_Reached before p s n i (walk_reaches j (slot_at s ∷ before) (p + n) (drop n s) (omega (arith, length-drop n s, (block_Passed before p s n i).least)) z))

  Walks-blocks : Walks 1 (found blocks)
  Walks-blocks = record {
    reaches = λ p s e.
        let x = walk_reaches (length s) [] p s (omega arith) (found-refused blocks p s e) in
        record {
          count = x.count;
          number = x.number;
          before = x.before;
          is = x.is;
          within = x.within;
          low = x.low;
          early = x.early;
          refusal = x.refusal;
          on = λ t y h j. rw (x.on t y h j);
          from = λ y g h. let (d, (o, (z, q))) = x.from y g h in (d, (o, (rw z, q)));
          kept = x.kept;
          seen = λ y (d, (o, (z, q))). x.seen y (d, (o, (found-refused blocks p (take d s) z, q)));
        };
  }

  -- ---- all of them

  string-step : (k : ℕ) → is_string k ≡ true → (p : ℕ) (b : List ℕ) → step profile u [] k p b ≡ ended (string k u p b)
  unfolding step
  string-step k e p b = rw (not_number 0 (omega arith), not_number 1 (omega arith), not_number 2 (omega arith), e)
    where
      least : 3 ≤ k
      least = leb-true 3 k (and-true (leb 3 k) (leb k 7) e).0

      not_number : (j : ℕ) → j < 3 → eqb k j ≡ false
      not_number j h = ne_eqb k j (λ z. omega (arith, least))

  Walks-string : (flags k : ℕ) → strings_unicode flags ≡ u → is_string (k + 1) ≡ true → Walks 1 (string_section flags k)
  Walks-string flags k e h =
      rw e (Walks-section (string (k + 1) u) (string_there k flags) no_place (Walks-found 1 (k + 1) (omega arith) (Cuts-string (k + 1) u) (string-step (k + 1) h)))

  Walks-tail : (flags : ℕ) → strings_unicode flags ≡ u → Walks 1 (tail profile flags)
  unfolding step
  Walks-tail flags e =
      Walks-then (Front-section (items_there flags) no_place Front-items) (Walks-section items (items_there flags) no_place (Walks-found 1 1 (omega arith) Cuts-items (λ p b. refl)))
      (Walks-then (Front-section (info_there flags) no_info (Front-info profile)) (Walks-section (info profile) (info_there flags) no_info (Walks-found 1 2 (omega arith) (Cuts-info profile) (λ p b. refl)))
      (Walks-then (Front-strings flags name_bit (omega arith)) (Walks-string flags name_bit e refl)
      (Walks-then (Front-strings flags relative_bit (omega arith)) (Walks-string flags relative_bit e refl)
      (Walks-then (Front-strings flags workdir_bit (omega arith)) (Walks-string flags workdir_bit e refl)
      (Walks-then (Front-strings flags arguments_bit (omega arith)) (Walks-string flags arguments_bit e refl) (Walks-then (Front-strings flags icon_bit (omega arith)) (Walks-string flags icon_bit e refl) Walks-blocks))))))

  -- the sections of a file with these flags
  pub Walks-file : (flags : ℕ) → strings_unicode flags ≡ u → Walks 0 (chain (found (header profile)) (λ h. tail profile flags))
  unfolding step
  Walks-file flags e = Walks-chain (λ h. tail profile flags) 0 (omega arith) (Front-found (Front-header profile)) (Walks-found 0 0 (omega arith) (Cuts-header profile) (λ p b. refl)) (λ h. Walks-tail flags e)
