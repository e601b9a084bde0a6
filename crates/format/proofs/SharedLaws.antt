-- Two accepted shortcuts, the second of which begins with all that the first has before its terminal: the second has the first's sections and blocks, and maybe more blocks.
use mathlib.Core.Path.{◌≡◌, refl, sym, ap, ◌∙◌}
use mathlib.Core.List.{List, [], ◌∷◌, ◌++◌}
use mathlib.Core.Bool.{true}
use Prim.Native.Nat.{ℕ, zero, suc, ◌+◌, ◌-◌, ◌≤◌}
use native.Mathlib.Omega.{arith}
use lib.ListN.{length, take, drop, length-drop, length-take}
use lib.Seq.{length-take-le, take-take}
use borrow.Author.Tests.{leb-true}
use Rattle.format.specs.declared.Profile.{Profile}
use Rattle.format.specs.declared.Header.{Header}
use Rattle.format.specs.Tests.{Outcome, got, refused, Reader, chain, ◌then◌, no_place}
use Rattle.format.specs.Presence.{items_there, info_there, name_bit, relative_bit, workdir_bit, arguments_bit, icon_bit}
use Rattle.format.specs.Info.{no_info}
use Rattle.format.specs.Blocks.{slot_at, block_size, block_tests, once, blocks_after, blocks}
use Rattle.format.specs.Shortcut.{Section, Tail, Sections, found, tail, sections}
use Rattle.format.proofs.Chains.{Pass, got_elim, no_value, chain_elim, drop-take}
use Rattle.format.proofs.BlockLaws.{none_left, step_elim, blocks_Walked}
use Rattle.format.proofs.PlaceLaws.{found_elim}
use Rattle.format.proofs.MendLaws.{Front, Front-found, Front-header, Front-items, Front-info, Front-section, Front-strings, block_again}

-- as much of t as it has stands in u too
pub common : (k : ℕ) (u t : List ℕ) → take k u ≡ take k t → k ≤ length t → k ≤ length u
common k u t e h = omega (arith, length-take k u, length-take-le k t h, ap (λ (l : List ℕ). length l) e)

-- ---- the blocks

pub record Longer (ls ms : List ℕ) : Type 0 where
  pub rest : List ℕ
  pub is : ms ≡ ls ++ rest

-- k bounds what is left
walk_Longer : (k : ℕ) (before : List ℕ) (p : ℕ) (t ls : List ℕ) (n : ℕ) → length t ≤ k → blocks_after before p t ≡ got ls n → (u ms : List ℕ) (m : ℕ) → blocks_after before p u ≡ got ms m
    → take (n - 4) u ≡ take (n - 4) t → Longer ls ms
walk_Longer zero before p t ls n l e u ms m f = no_value (sym (none_left before p t (omega arith)) ∙ e)
walk_Longer (suc k) before p t ls n l e u ms m f =
    step_elim before p t (λ ls n. take (n - 4) u ≡ take (n - 4) t → Longer ls ms)
    (λ h z q. record { rest = ms; is = refl })
    (λ c o rs r i q.
    let a : ℕ = block_size t in
    let w = blocks_Walked (slot_at t ∷ before) (p + a) (drop a t) rs r i in
    let g : a ≤ length t = leb-true a (length t) c.1.0 in
    let b : 8 ≤ a = leb-true 8 a c.0 in
    let x : a + r - 4 ≡ a + (r - 4) = omega (arith, w.adds) in
    let y : take (a + (r - 4)) u ≡ take (a + (r - 4)) t = rw x at q in
    let z : take a u ≡ take a t = sym (take-take a (a + (r - 4)) u (omega arith)) ∙ ap (take a) y ∙ take-take a (a + (r - 4)) t (omega arith) in
    let v : take (r - 4) (drop a u) ≡ take (r - 4) (drop a t) = sym (drop-take a (r - 4) u) ∙ ap (drop a) y ∙ drop-take a (r - 4) t in
    go c o (common a u t z g) z (blocks_after (slot_at t ∷ before) (p + a) (drop a u)) refl rs
    (λ qs j s. walk_Longer k (slot_at t ∷ before) (p + a) (drop a t) rs r (omega (arith, length-drop a t)) i (drop a u) qs j s v))
    ls n e
  where
    go : Pass (block_tests t) → once before (slot_at t) ≡ true → block_size t ≤ length u → take (block_size t) u ≡ take (block_size t) t
        → (r : Outcome (List ℕ)) → blocks_after (slot_at t ∷ before) (p + block_size t) (drop (block_size t) u) ≡ r → (rs : List ℕ)
        → ((qs : List ℕ) (j : ℕ) → blocks_after (slot_at t ∷ before) (p + block_size t) (drop (block_size t) u) ≡ got qs j → Longer rs qs) → Longer (block_size t ∷ rs) ms
    go c o h z (got qs j) i rs g =
        let d = block_again before p t c o u z h (got qs j) i in
        got_elim (λ ms m. Longer (block_size t ∷ rs) ms) (sym d ∙ f) (let y = g qs j i in record { rest = y.rest; is = ap (λ (l : List ℕ). block_size t ∷ l) y.is })
    go c o h z (refused x y) i rs g = no_value (sym (block_again before p t c o u z h (refused x y) i) ∙ f)

-- ---- sections one after another

record Shares {A : Type 0} (P : Reader A) (R : A → A → Type 0) : Type 0 where
  least : (p : ℕ) (t : List ℕ) (a : A) (n : ℕ) → P p t ≡ got a n → (4 ≤ n) × (n ≤ length t)
  shares : (p : ℕ) (t : List ℕ) (a : A) (n : ℕ) → P p t ≡ got a n → (u : List ℕ) (b : A) (m : ℕ) → P p u ≡ got b m → take (n - 4) u ≡ take (n - 4) t → R a b

abbrev And : {A B : Type 0} → (B → B → Type 0) → A × B → A × B → Type 0
And R c d = (c.0 ≡ d.0) × R c.1 d.1

Shares-chain : {A B : Type 0} {P : Reader A} (Q : A → Reader B) (R : B → B → Type 0) → Front P → ((a : A) → Shares (Q a) R) → Shares (chain P Q) (And R)
Shares-chain {A = A} {B = B} {P = P} Q R F G = record {
  least = λ p t c k e.
      chain_elim P Q p t (λ c k. (4 ≤ k) × (k ≤ length t))
      (λ a n b m i j. let x = (G a).least (p + n) (drop n t) b m j in let y = F.own.inside p t a n i in (omega arith, omega (arith, length-drop n t)))
      c k e;
  shares = λ p t c k e u d l f.
      chain_elim P Q p t (λ c k. take (k - 4) u ≡ take (k - 4) t → And R c d)
      (λ a n b m i j q.
      let x = (G a).least (p + n) (drop n t) b m j in
      let o : n ≤ length t = F.own.inside p t a n i in
      let w : n + m - 4 ≡ n + (m - 4) = omega arith in
      let y : take (n + (m - 4)) u ≡ take (n + (m - 4)) t = rw w at q in
      let z : take n u ≡ take n t = sym (take-take n (n + (m - 4)) u (omega arith)) ∙ ap (take n) y ∙ take-take n (n + (m - 4)) t (omega arith) in
      let v : take (m - 4) (drop n u) ≡ take (m - 4) (drop n t) = sym (drop-take n (m - 4) u) ∙ ap (drop n) y ∙ drop-take n (m - 4) t in
      let g : P p u ≡ got a n = F.own.alike p t a n i u z (common n u t z o) in
      chain_elim P Q p u (λ d l. And R (a, b) d)
      (λ a₂ n₂ b₂ m₂ i₂ j₂.
      got_elim (λ a₂ n₂. Q a₂ (p + n₂) (drop n₂ u) ≡ got b₂ m₂ → And R (a, b) (a₂, b₂)) (sym g ∙ i₂) (λ h. (refl, (G a).shares (p + n) (drop n t) b m j (drop n u) b₂ m₂ h v)) j₂)
      d l f)
      c k e;
}

Shares-then : {A B : Type 0} {P : Reader A} {Q : Reader B} (R : B → B → Type 0) → Front P → Shares Q R → Shares (P then Q) (And R)
Shares-then {Q = Q} R F G = Shares-chain (λ a. Q) R F (λ a. G)

-- the blocks start at one place
abbrev LongerBy : Section (List ℕ) → Section (List ℕ) → Type 0
LongerBy c d = ((c.there ≡ d.there) × (c.start ≡ d.start)) × Longer c.read d.read

Shares-blocks : Shares (found blocks) LongerBy
Shares-blocks = record {
  least = λ p t c n e.
      found_elim blocks p t (λ c n. (4 ≤ n) × (n ≤ length t)) (λ ls n i. let w = blocks_Walked [] p t ls n i in (omega (arith, w.adds), w.inside)) c n e;
  shares = λ p t c n e u d m f.
      found_elim blocks p t (λ c n. take (n - 4) u ≡ take (n - 4) t → LongerBy c d)
      (λ ls n i q. found_elim blocks p u (λ d m. LongerBy (record { there = true; start = p; len = n; read = ls }) d) (λ ms m j. ((refl, refl), walk_Longer (length t) [] p t ls n (omega arith) i u ms m j q)) d m f)
      c n e;
}

abbrev Seven : (Section (List ℕ) → Section (List ℕ) → Type 0) → Tail → Tail → Type 0
Seven R = And (And (And (And (And (And (And R))))))

Shares-tail : (profile : Profile) (flags : ℕ) → Shares (tail profile flags) (Seven LongerBy)
Shares-tail profile flags =
    Shares-then _ (Front-section (items_there flags) no_place Front-items)
    (Shares-then _ (Front-section (info_there flags) no_info (Front-info profile))
    (Shares-then _ (Front-strings flags name_bit (omega arith))
    (Shares-then _ (Front-strings flags relative_bit (omega arith))
    (Shares-then _ (Front-strings flags workdir_bit (omega arith))
    (Shares-then _ (Front-strings flags arguments_bit (omega arith)) (Shares-then _ (Front-strings flags icon_bit (omega arith)) Shares-blocks))))))

abbrev pub Shared : Sections → Sections → Type 0
Shared = And (Seven LongerBy)

pub sections-Shared : (profile : Profile) (t : List ℕ) (c : Sections) (n : ℕ) → sections profile 0 t ≡ got c n → (u : List ℕ) (d : Sections) (m : ℕ) → sections profile 0 u ≡ got d m → take (n - 4) u ≡ take (n - 4) t → Shared c d
unfolding sections
sections-Shared profile = (Shares-chain (λ (h : Section Header). tail profile h.read.flags) (Seven LongerBy) (Front-found (Front-header profile)) (λ h. Shares-tail profile h.read.flags)).shares 0
