-- The blocks and the terminal block: what their walk gives is blocks end to end.
use mathlib.Core.Path.{◌≡◌, refl, sym, ap, subst, ◌∙◌}
use mathlib.Core.List.{List, [], ◌∷◌, ◌++◌, append_assoc}
use mathlib.Core.Bool.{true}
use Prim.Native.Nat.{ℕ, zero, suc, ◌+◌, ◌^◌, ◌≤◌, ◌<◌}
use native.Mathlib.Omega.{arith}
use lib.ListN.{length, take, drop, length-append, length-drop}
use lib.Seq.{length-take-le, take-take, take-add, take_all, take_at, drop_at, drop-drop}
use borrow.Author.Tests.{leb-true, le-leb}
use Rattle.octets.specs.Numbers.{Bytes, u32_at, little}
use Rattle.octets.proofs.NumberLaws.{Bytes-take, Bytes-drop, length-little, number_back, number_below, number_same, number_drop}
use Rattle.format.specs.declared.Place.{Place}
use Rattle.format.specs.Tests.{got, place}
use Rattle.format.specs.Blocks.{slot_of, slot_at, block_size, block_rules, block_tests, block, once, blocks_after, blocks}
use Rattle.format.specs.Shortcut.{sum}
use Rattle.format.proofs.Chains.{Pass, pass, no_value}
use Rattle.format.proofs.BlockLaws.{none_left, the_end, more, more_on, one_more, step_elim}
use Rattle.grammar.specs.Grammar.{EachOf, from, BlockIs, block_bytes, BlocksIs}
use Rattle.grammar.proofs.Agree.{Agrees, Bytes-left, Bytes-right}
use Rattle.grammar.proofs.FieldLaws.{first_field, Bytes-here}
use Rattle.grammar.proofs.BlockLaws.{ByRows, rows_told, rows_read}
use Rattle.grammar.proofs.OnceLaws.{OnceAfter, once_told, once_read}

-- ---- one block

-- a block with the signature x that holds c
abbrev block_of : ℕ → List ℕ → List ℕ
block_of x c = little 4 (8 + length c) ++ (little 4 x ++ c)

length_block : (x : ℕ) (c : List ℕ) → length (block_of x c) ≡ 8 + length c
length_block x c = simp (length-append, length-little) (omega arith)

-- n bytes that say their size are a block
block_split : (b : List ℕ) → Bytes b → 8 ≤ length b → u32_at b 0 ≡ length b → b ≡ block_of (u32_at b 4) (drop 8 b)
block_split b bs h e =
    let l : length b ≡ 8 + length (drop 8 b) = omega (arith, length-drop 8 b) in
    let x : drop 4 b ≡ little 4 (u32_at b 4) ++ drop 8 b
    = first_field 4 (drop 4 b) (Bytes-drop 4 b bs) (omega (arith, length-drop 4 b)) ∙ rw (number_drop 4 4 b 0, drop-drop 4 4 b) in
    first_field 4 b bs (omega arith) ∙ ap (λ (n : ℕ). little 4 n ++ drop 4 b) (e ∙ l) ∙ ap (λ (t : List ℕ). little 4 (8 + length (drop 8 b)) ++ t) x

-- ---- from the walk to blocks

record BlocksTold (before s lengths : List ℕ) (n : ℕ) : Type 0 where
  blocks : List (ℕ × List ℕ)
  terminal : ℕ
  inside : n ≤ length s
  is : take n s ≡ block_bytes blocks ++ little 4 terminal
  each : EachOf BlockIs blocks
  once : OnceAfter before blocks
  is_terminal : terminal < 4
  sum : sum lengths ≡ length (block_bytes blocks)

told_end : (before s : List ℕ) → Bytes s → 4 ≤ length s → block_size s < 4 → BlocksTold before s [] 4
told_end before s bs h t = record {
  blocks = [];
  terminal = block_size s;
  inside = h;
  is = Bytes-here 4 (block_size s) s 0 bs (omega arith) refl;
  each = tt;
  once = tt;
  is_terminal = t;
  sum = refl;
}

told_more : (before s lengths : List ℕ) (m : ℕ) → Bytes s → Pass (block_tests s) → once before (slot_at s) ≡ true
    → BlocksTold (slot_at s ∷ before) (drop (block_size s) s) lengths m → BlocksTold before s (block_size s ∷ lengths) (block_size s + m)
told_more before s lengths m bs c o g =
    let n : ℕ = block_size s in
    let eight : 8 ≤ n = leb-true 8 n c.0 in
    let fits : n ≤ length s = leb-true n (length s) c.1.0 in
    let b : List ℕ = take n s in
    let bb : Bytes b = Bytes-take n s bs in
    let l : length b ≡ n = length-take-le n s fits in
    let x : u32_at b 4 ≡ u32_at s 4 = number_same 4 n b s 4 (take-take n n s (omega arith)) (omega arith) in
    let z : u32_at b 0 ≡ length b = number_same 4 n b s 0 (take-take n n s (omega arith)) (omega arith) ∙ sym l in
    let w : b ≡ block_of (u32_at b 4) (drop 8 b) = block_split b bb (omega arith) z in
    let k : length b ≡ 8 + length (drop 8 b) = omega (arith, length-drop 8 b) in
    let r = rows_told b k bb (u32_at b 4) c.1.1 in
    let rest : List ℕ = block_bytes g.blocks in
    let e : u32_at s 4 ≡ u32_at b 4 = sym x in
    let q : length (block_bytes ((u32_at b 4, drop 8 b) ∷ g.blocks)) ≡ n + length rest
    = simp (length-append, length-little) (omega arith) in
    record {
      blocks = (u32_at b 4, drop 8 b) ∷ g.blocks;
      terminal = g.terminal;
      inside = omega (arith, g.inside, length-drop n s);
      is =
          take-add n m s ∙ rw g.is (ap (λ (t : List ℕ). t ++ (rest ++ little 4 g.terminal)) w ∙ joined (u32_at b 4) (drop 8 b) rest (little 4 g.terminal));
      each = ((omega (arith, number_below 4 s 0 bs), (number_below 4 b 4 bb, r)), g.each);
      once = (rw (ap slot_of e) at o, subst (λ (y : ℕ). OnceAfter (slot_of y ∷ before) g.blocks) e g.once);
      is_terminal = g.is_terminal;
      sum = rw q (ap (λ (j : ℕ). n + j) g.sum);
    }
  where
    joined : (x : ℕ) (c r t : List ℕ) → block_of x c ++ (r ++ t) ≡ (little 4 (8 + length c) ++ (little 4 x ++ (c ++ r))) ++ t
    joined x c r t = simp append_assoc

-- k bounds the length
blocks_told : (k : ℕ) (before : List ℕ) (p : ℕ) (s lengths : List ℕ) (n : ℕ) → length s ≤ k → Bytes s → blocks_after before p s ≡ got lengths n → BlocksTold before s lengths n
blocks_told zero before p s lengths n h bs e = no_value (sym (none_left before p s (omega arith)) ∙ e)
blocks_told (suc k) before p s lengths n h bs e =
    step_elim before p s (λ lengths n. BlocksTold before s lengths n)
    (λ l t. told_end before s bs l t)
    (λ c o ls m i.
    let b = leb-true 8 (block_size s) c.0 in
    told_more before s ls m bs c o (blocks_told k (slot_at s ∷ before) (p + block_size s) (drop (block_size s) s) ls m (omega (arith, length-drop (block_size s) s)) (Bytes-drop (block_size s) s bs) i))
    lengths n e

-- ---- and back

abbrev lengths_of : List (ℕ × List ℕ) → List ℕ
lengths_of [] = []
lengths_of ((x, c) ∷ bs) = (8 + length c) ∷ lengths_of bs

sum_lengths : (bs : List (ℕ × List ℕ)) → sum (lengths_of bs) ≡ length (block_bytes bs)
sum_lengths [] = refl
sum_lengths ((x, c) ∷ bs) = simp (length-append, length-little) (omega (arith, sum_lengths bs))

read_end : (before : List ℕ) (p t : ℕ) (r : List ℕ) → t < 4 → blocks_after before p (little 4 t ++ r) ≡ got [] 4
read_end before p t r h =
    the_end before p (little 4 t ++ r) (omega (arith, length-append (little 4 t) r, length-little 4 t)) (omega (arith, number_back 4 t r (omega arith)))

read_more : (before : List ℕ) (p x : ℕ) (c r lengths : List ℕ) (m : ℕ) → Bytes (block_of x c) → 8 + length c < 256 ^ 4 → x < 256 ^ 4 → ByRows x c
    → once before (slot_of x) ≡ true → blocks_after (slot_of x ∷ before) (p + (8 + length c)) r ≡ got lengths m
    → blocks_after before p (block_of x c ++ r) ≡ got ((8 + length c) ∷ lengths) (8 + length c + m)
read_more before p x c r lengths m bs size fits rows o e =
    let b : List ℕ = block_of x c in
    let s : List ℕ = b ++ r in
    let l : length b ≡ 8 + length c = length_block x c in
    let n : length s ≡ length b + length r = length-append b r in
    let d : drop 8 b ≡ c = sym (drop-drop 4 4 b) ∙ ap (drop 4) (drop_at (little 4 (8 + length c)) (little 4 x ++ c) 4 (length-little 4 (8 + length c))) ∙ drop_at (little 4 x) c 4 (length-little 4 x) in
    let z : block_size s ≡ 8 + length c
    = ap (λ (t : List ℕ). u32_at t 0) (append_assoc (little 4 (8 + length c)) (little 4 x ++ c) r) ∙ number_back 4 (8 + length c) ((little 4 x ++ c) ++ r) size in
    let y : u32_at b 4 ≡ x
    = sym (number_drop 4 4 b 0) ∙ ap (λ (t : List ℕ). u32_at t 0) (drop_at (little 4 (8 + length c)) (little 4 x ++ c) 4 (length-little 4 (8 + length c))) ∙ number_back 4 x c fits in
    let t : take (8 + length c) s ≡ b = take_at b r (8 + length c) l in
    let u : u32_at s 4 ≡ x = number_same 4 (8 + length c) s b 4 (t ∙ sym (take_all (8 + length c) b (omega arith))) (omega arith) ∙ y in
    let k : length b ≡ 8 + length (drop 8 b) = rw d l in
    let q : Pass (block_rules b) = rw y (rows_read b k bs x (rw d rows)) in
    let j : Pass (block_tests s) = rw (z, t) (le-leb 8 (8 + length c) (omega arith), (le-leb (8 + length c) (length s) (omega arith), q)) in
    let v : drop (8 + length c) s ≡ r = drop_at b r (8 + length c) l in
    one_more before p s (omega arith) (omega arith) ∙ pass (block p) (block_tests s) (more before p (block_size s) s) j ∙ ap (λ (i : ℕ). more before p i s) z
    ∙ more_on before p (8 + length c) s (got lengths m) (rw u o) (rw (u, v) e)

blocks_read : (bs : List (ℕ × List ℕ)) (before : List ℕ) (p t : ℕ) (r : List ℕ) → Bytes (block_bytes bs) → EachOf BlockIs bs → OnceAfter before bs → t < 4
    → blocks_after before p (block_bytes bs ++ (little 4 t ++ r)) ≡ got (lengths_of bs) (length (block_bytes bs) + 4)
blocks_read [] before p t r y h o k = read_end before p t r k
blocks_read ((x, c) ∷ bs) before p t r y h o k =
    let w : block_bytes ((x, c) ∷ bs) ≡ block_of x c ++ block_bytes bs = simp append_assoc in
    let b : Bytes (block_of x c ++ block_bytes bs) = subst Bytes w y in
    let e = blocks_read bs (slot_of x ∷ before) (p + (8 + length c)) t r (Bytes-right (block_of x c) (block_bytes bs) b) h.1 o.1 k in
    let f = read_more before p x c (block_bytes bs ++ (little 4 t ++ r)) (lengths_of bs) (length (block_bytes bs) + 4) (Bytes-left (block_of x c) (block_bytes bs) b) h.0.0 h.0.1.0 h.0.1.1 o.0 e in
    let g : block_bytes ((x, c) ∷ bs) ++ (little 4 t ++ r) ≡ block_of x c ++ (block_bytes bs ++ (little 4 t ++ r))
    = ap (λ (l : List ℕ). l ++ (little 4 t ++ r)) w ∙ append_assoc (block_of x c) (block_bytes bs) (little 4 t ++ r) in
    let n : length (block_bytes ((x, c) ∷ bs)) + 4 ≡ 8 + length c + (length (block_bytes bs) + 4)
    = ap (λ (l : List ℕ). length l + 4) w ∙ omega (arith, length-append (block_of x c) (block_bytes bs), length_block x c) in
    ap (blocks_after before p) g ∙ f ∙ ap (got (lengths_of ((x, c) ∷ bs))) (sym n)

-- ---- the section

pub blocks-Agrees : (body : Place) → Agrees blocks (λ p ls. place p (sum ls) ≡ body) (BlocksIs body)
blocks-Agrees body = record {
  told = λ p s ls n bs e v.
      let g = blocks_told (length s) [] p s ls n (omega arith) bs e in (
        g.inside,
        record {
          blocks = g.blocks;
          terminal = g.terminal;
          is = g.is;
          each = g.each;
          once = once_told g.blocks g.once;
          is_terminal = g.is_terminal;
          place = sym v ∙ ap (from p) g.sum;
        },
      );
  read = λ p x r bs g.
      let b : Bytes (block_bytes g.blocks) = Bytes-left (block_bytes g.blocks) (little 4 g.terminal) (subst Bytes g.is bs) in
      let e = blocks_read g.blocks [] p g.terminal r b g.each (once_read g.blocks g.once) g.is_terminal in
      let w : x ++ r ≡ block_bytes g.blocks ++ (little 4 g.terminal ++ r) = ap (λ (l : List ℕ). l ++ r) g.is ∙ append_assoc (block_bytes g.blocks) (little 4 g.terminal) r in
      let n : length x ≡ length (block_bytes g.blocks) + 4
      = ap length g.is ∙ length-append (block_bytes g.blocks) (little 4 g.terminal) ∙ ap (λ (k : ℕ). length (block_bytes g.blocks) + k) (length-little 4 g.terminal) in
      record {
        value = lengths_of g.blocks;
        is = ap (blocks p) w ∙ e ∙ ap (got (lengths_of g.blocks)) (sym n);
        held = ap (from p) (sum_lengths g.blocks) ∙ sym g.place;
      };
}
