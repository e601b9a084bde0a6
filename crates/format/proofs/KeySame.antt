-- Records that are the same have the same key, so a rewritten shortcut keeps its key.
use mathlib.Core.Path.{◌≡◌, refl, sym, ap, ◌∙◌}
use mathlib.Core.List.{List, [], ◌∷◌}
use mathlib.Core.Bool.{Bool, true, false, cond}
use Prim.Native.Nat.{ℕ, zero, suc, ◌+◌, ◌-◌, ◌≤◌, ◌<◌}
use native.Mathlib.Omega.{arith}
use lib.ListN.{length, take, drop, length-drop}
use lib.Seq.{take-take, drop-drop}
use lib.Dec.{leb, eqb}
use borrow.Author.Tests.{leb-true}
use Rattle.octets.specs.Numbers.{u32_at}
use Rattle.octets.specs.Characters.{before_zero}
use Rattle.octets.proofs.NumberLaws.{number_same, number_drop}
use Rattle.format.specs.declared.Profile.{Profile}
use Rattle.format.specs.declared.Place.{Place}
use Rattle.format.specs.declared.Record.{Record}
use Rattle.format.specs.Tests.{got, place}
use Rattle.format.specs.Blocks.{slot_at, block_size, blocks_after, blocks, first_place}
use Rattle.format.specs.Shortcut.{sum}
use Rattle.format.specs.Bodies.{blocks_slot}
use Rattle.format.specs.Contents.{Contents, body_in, contents, Same}
use Rattle.format.specs.Demands.{Accepts}
use Rattle.format.specs.Key.{part_if, environment, key_in}
use Rattle.format.proofs.Chains.{no_value, drop-take}
use Rattle.format.proofs.BlockLaws.{none_left, step_elim, blocks_Walked, blocks_same, ends_terminal}
use Rattle.format.proofs.KeyRoom.{key_from, environment_of, Made, made, body_long}

-- the blocks' bytes tell the blocks' lengths
lengths_told : (p q : ℕ) (s t ls ms : List ℕ) (n m : ℕ) → blocks p s ≡ got ls n → blocks q t ≡ got ms m
    → sum ls ≡ sum ms → take (sum ls) s ≡ take (sum ls) t → ls ≡ ms
lengths_told p q s t ls ms n m e f l u =
    let w = blocks_Walked [] p s ls n e in
    let v = blocks_Walked [] q t ms m f in
    let a : n - 4 ≡ sum ls = omega (arith, w.adds) in
    let b : m - 4 ≡ n - 4 = omega (arith, w.adds, v.adds) in
    let z : block_size (drop (n - 4) t) < 4 = rw b at (ends_terminal (length t) [] q t ms m (omega arith) f) in
    let i : blocks q t ≡ got ls n = blocks_same [] p s ls n e q t (rw a (sym u)) (omega (arith, w.adds, v.adds, v.inside)) z in
    cc

-- the text of this block, or of a later one
this_or_later : (s t : List ℕ) (p q n : ℕ) (x y : Place) (b : Bool) → take n (drop p s) ≡ take n (drop q t) → environment s x ≡ environment t y
    → environment s (cond b (place p n) x) ≡ environment t (cond b (place q n) y)
this_or_later s t p q n x y true e f = ap (λ (l : List ℕ). part_if (leb 1 n) (take (before_zero (drop 8 l)) (drop 8 l))) e
this_or_later s t p q n x y false e f = f

-- and the text that a key has of them, wherever they stand
environment_told : (k : ℕ) (before s t : List ℕ) (p q : ℕ) (ls : List ℕ) (n : ℕ) → length (drop p s) ≤ k → blocks_after before p (drop p s) ≡ got ls n
    → take (sum ls) (drop p s) ≡ take (sum ls) (drop q t) → environment_of s p ls ≡ environment_of t q ls
environment_told zero before s t p q ls n l e = no_value (sym (none_left before p (drop p s) (omega arith)) ∙ e)
environment_told (suc k) before s t p q ls n l e =
    step_elim before p (drop p s) (λ ls n. take (sum ls) (drop p s) ≡ take (sum ls) (drop q t) → environment_of s p ls ≡ environment_of t q ls)
    (λ h z u. refl)
    (λ c o ls m i u.
    let n : ℕ = block_size (drop p s) in
    let b : 8 ≤ n = leb-true 8 n c.0 in
    let f : u32_at s (p + 4) ≡ u32_at t (q + 4)
    = sym (number_drop 4 p s 4) ∙ number_same 4 (n + sum ls) (drop p s) (drop q t) 4 u (omega arith) ∙ number_drop 4 q t 4 in
    let x : take n (drop p s) ≡ take n (drop q t)
    = sym (take-take n (n + sum ls) (drop p s) (omega arith)) ∙ ap (take n) u ∙ take-take n (n + sum ls) (drop q t) (omega arith) in
    let y : take (sum ls) (drop n (drop p s)) ≡ take (sum ls) (drop n (drop q t))
    = sym (drop-take n (sum ls) (drop p s)) ∙ ap (drop n) u ∙ drop-take n (sum ls) (drop q t) in
    let w : length (drop (p + n) s) ≤ k = omega (arith, length-drop p s, length-drop (p + n) s) in
    let h = environment_told k (slot_at (drop p s) ∷ before) s t (p + n) (q + n) ls m w (rw drop-drop at i) (rw (drop-drop n p s, drop-drop n q t) at y) in
    rw f
    (this_or_later s t p q n (first_place s 0xA0000001 (p + n) ls) (first_place t 0xA0000001 (q + n) ls) (eqb (u32_at t (q + 4)) 0xA0000001) x h))
    ls n e

-- blocks with the same bytes have the same text for a key
pub same_environment : (profile : Profile) {s : List ℕ} {r : Record} {t : List ℕ} {q : Record} (m : Made profile s r) (o : Made profile t q) → body_in (contents s r) blocks_slot ≡ body_in (contents t q) blocks_slot
    → environment_of s m.start m.lengths ≡ environment_of t o.start o.lengths
same_environment profile {s} {r} {t} {q} m o e =
    let l : sum m.lengths ≡ sum o.lengths = sym (body_long profile m) ∙ ap length e ∙ body_long profile o in
    let u : take (sum m.lengths) (drop m.start s) ≡ take (sum m.lengths) (drop o.start t) = rw (← l) at (sym m.body ∙ e ∙ o.body) in
    let d : m.lengths ≡ o.lengths
    = lengths_told m.start o.start (drop m.start s) (drop o.start t) m.lengths o.lengths m.count o.count m.walk o.walk l u in
    environment_told (length (drop m.start s)) [] s t m.start o.start m.lengths m.count (omega arith) m.walk u ∙ ap (environment_of t o.start) d

-- so all that is in a key is in the contents
pub Same-record_Same_key : (profile : Profile) (s : List ℕ) (r : Record) (t : List ℕ) (q : Record) → Accepts profile s r → Accepts profile t q → Same s r t q → key_in profile s ≡ key_in profile t
unfolding Same
Same-record_Same_key profile s r t q a b e =
    let m = made profile s r a in
    let o = made profile t q b in
    let v = same_environment profile m o (ap (λ (c : Contents). body_in c blocks_slot) e) in
    m.is ∙ ap (λ (c : Contents). key_from c (environment_of s m.start m.lengths)) e ∙ ap (key_from (contents t q)) v ∙ sym o.is
