-- The key of what was saved: of every accepted shortcut that begins with the bytes kept it has bit 7, target, arguments and working directory, and the environment or none.
use mathlib.Core.Path.{◌≡◌, refl, sym, ap, ◌∙◌}
use mathlib.Core.List.{List, [], ◌∷◌, ◌++◌}
use mathlib.Core.Bool.{Bool, true, false}
use Prim.Native.Nat.{ℕ, zero, suc, ◌+◌, ◌-◌, ◌≤◌, ◌<◌}
use native.Mathlib.Omega.{arith}
use lib.ListN.{length, take, drop, get_or, length-drop}
use lib.Seq.{take-take, drop-drop, take_at}
use lib.Dec.{eqb}
use borrow.Author.Tests.{leb-true}
use Rattle.octets.specs.Numbers.{u32_at}
use Rattle.octets.specs.Parts.{put}
use Rattle.octets.proofs.NumberLaws.{number_same}
use Rattle.format.specs.declared.Profile.TheVariants.{Strict}
use Rattle.format.specs.declared.Record.{Record}
use Rattle.format.specs.Tests.{got, no_place}
use Rattle.format.specs.Presence.{workdir_bit, arguments_bit}
use Rattle.format.specs.Blocks.{slot_at, block_size, blocks_after, blocks, first_place}
use Rattle.format.specs.Shortcut.{most, Sections, blocks_of, sections, record_of}
use Rattle.format.specs.Bodies.{local_slot, net_slot, suffix_slot, string_slot}
use Rattle.format.specs.Contents.{bytes_at}
use Rattle.format.specs.Demands.{Accepts}
use Rattle.format.specs.Key.{key_of, key_in}
use Rattle.format.specs.Salvage.{salvage_output, Saved, EnvironmentKept, own, gone, KeyKept}
use Rattle.format.proofs.Chains.{no_value}
use Rattle.format.proofs.BlockLaws.{none_left, step_elim, blocks_Walked}
use Rattle.format.proofs.PlaceLaws.{slot_inside}
use Rattle.format.proofs.FoundLaws.{read_before, read_Walk}
use Rattle.format.proofs.AcceptedLaws.{accepted_Read, shortcut-Whole}
use Rattle.format.proofs.SharedLaws.{Shared, sections-Shared}
use Rattle.format.proofs.SalvageLaws.{shared_bytes, sections_end}
use Rattle.format.proofs.SalvageDemands.{accepted_copied, padded_back}

-- ---- the environment

-- the first block of a signature among those of t, which u has too: none, or the first of u
data First (t u : List ℕ) (signature p k : ℕ) (ls ms : List ℕ) : Type 0 where
  none : first_place t signature p ls ≡ no_place → First t u signature p k ls ms
  same : first_place u signature p ms ≡ first_place t signature p ls → (first_place t signature p ls).at + (first_place t signature p ls).len ≤ k → First t u signature p k ls ms

-- j bounds what is left
First-of : (j : ℕ) (before : List ℕ) (p : ℕ) (t ls : List ℕ) (n : ℕ) → length (drop p t) ≤ j → blocks_after before p (drop p t) ≡ got ls n → (u : List ℕ) (k : ℕ) → p + n ≤ k + 4 → take k u ≡ take k t
    → (signature : ℕ) (rest : List ℕ) → First t u signature p k ls (ls ++ rest)
First-of zero before p t ls n l e u k h q signature rest = no_value (sym (none_left before p (drop p t) (omega arith)) ∙ e)
First-of (suc j) before p t ls n l e u k h q signature rest =
    step_elim before p (drop p t) (λ ls n. p + n ≤ k + 4 → First t u signature p k ls (ls ++ rest))
    (λ a b c. none refl)
    (λ c o rs m i g.
    let a : ℕ = block_size (drop p t) in
    let b : 8 ≤ a = leb-true 8 a c.0 in
    let w = blocks_Walked (slot_at (drop p t) ∷ before) (p + a) (drop a (drop p t)) rs m i in
    let v : u32_at u (p + 4) ≡ u32_at t (p + 4) = number_same 4 k u t (p + 4) q (omega (arith, w.adds)) in
    go a rs v (omega (arith, w.adds)) (eqb (u32_at t (p + 4)) signature) refl
    (First-of j (slot_at (drop p t) ∷ before) (p + a) t rs m (omega (arith, length-drop p t, length-drop (p + a) t)) (rw drop-drop at i) u k (omega arith) q signature rest))
    ls n e h
  where
    go : (a : ℕ) (rs : List ℕ) → u32_at u (p + 4) ≡ u32_at t (p + 4) → p + a ≤ k → (b : Bool) → eqb (u32_at t (p + 4)) signature ≡ b
        → First t u signature (p + a) k rs (rs ++ rest) → First t u signature p k (a ∷ rs) (a ∷ rs ++ rest)
    go a rs v h true z x = same (rw (v, z)) (rw z h)
    go a rs v h false z (none y) = none (rw z y)
    go a rs v h false z (same y l) = same (rw (v, z) y) (rw z l)

-- ---- all of it

module _ (t u : List ℕ) (c d : Sections) (n m : ℕ) (i : sections Strict 0 t ≡ got c n) (j : sections Strict 0 u ≡ got d m) (k : ℕ) (h : n ≤ k + 4) (q : take k u ≡ take k t) where
  shared : Shared c d
  shared =
      let g : n - 4 ≤ k = omega arith in
      sections-Shared Strict t c n i u d m j (sym (take-take (n - 4) k u g) ∙ ap (take (n - 4)) q ∙ take-take (n - 4) k t g)

  start_inside : (blocks_of c).start ≤ k
  start_inside = omega (arith, (sections_end t c n i).1)

  -- a slot before that of the blocks
  text : (slot : ℕ) → bytes_at t (get_or (take 15 (record_of c).places) slot no_place) ≡ bytes_at u (get_or (take 15 (record_of c).places) slot no_place)
  text slot =
      let z = slot_inside (blocks_of c).start (take 15 (record_of c).places) slot (read_before t Strict c n i) in
      sym (shared_bytes k u t (get_or (take 15 (record_of c).places) slot no_place) q (omega (arith, start_inside)))

  environment_kept : EnvironmentKept (key_of t c) (key_of u d)
  unfolding key_of
  environment_kept =
      let (header, (items, (info, (name, (relative, (workdir, (arguments, (icon, ((there, start), longer))))))))) = shared in
      let p : ℕ = (blocks_of c).start in
      let ls : List ℕ = (blocks_of c).read in
      let walk = read_Walk Strict t c n i in
      let w = blocks_Walked [] p (drop p t) ls (blocks_of c).len walk in
      go longer.rest (sym start) longer.is
      (First-of (length (drop p t)) [] p t ls (blocks_of c).len (omega arith) walk u k (omega (arith, w.adds, (sections_end t c n i).1)) q 0xA0000001 longer.rest)
    where
      go : (rest : List ℕ) → (blocks_of d).start ≡ (blocks_of c).start → (blocks_of d).read ≡ (blocks_of c).read ++ rest
          → First t u 0xA0000001 (blocks_of c).start k (blocks_of c).read ((blocks_of c).read ++ rest) → EnvironmentKept (key_of t c) (key_of u d)
      go rest s r (none e) = gone (rw e)
      go rest s r (same e l) = own (rw (s, r, e, shared_bytes k u t (first_place t 0xA0000001 (blocks_of c).start (blocks_of c).read) q l))

  key_kept : KeyKept (key_of t c) (key_of u d)
  unfolding key_of
  key_kept =
      let (header, (items, (info, (name, (relative, (workdir, (arguments, (icon, blocks)))))))) = shared in
      record {
        unicode = rw (← header);
        target = rw (← header, ← info, text local_slot, text net_slot, text suffix_slot);
        arguments = rw (← header, ← arguments, text (string_slot arguments_bit));
        workdir = rw (← header, ← workdir, text (string_slot workdir_bit));
        environment = environment_kept;
      }

-- the same said of the calls' own words
pub Saved-key : (s : List ℕ) (k : ℕ) (w : List ℕ) → Saved s k w → (u : List ℕ) (r : Record) → Accepts Strict u r → take k u ≡ take k s → KeyKept (key_in Strict w) (key_in Strict u)
unfolding Accepts key_in
Saved-key s k w x u r a e =
    let y = accepted_Read Strict w x.held (length w) x.accepted in
    let z = accepted_Read Strict u r (length u) a in
    let i = (shortcut-Whole Strict w y.sections (length w) y.is).read in
    let j = (shortcut-Whole Strict u z.sections (length u) z.is).read in
    rw (y.is, z.is) (key_kept w u y.sections z.sections (length w) (length u) i j k x.reach (e ∙ sym x.begins))

-- ---- what comes back as it was has its key

same_back : (s out : List ℕ) {x : List ℕ} → x ≡ put out 0 s → key_in Strict (take (length s) x) ≡ key_in Strict s
unfolding put
same_back s out e = ap (λ (y : List ℕ). key_in Strict (take (length s) y)) e ∙ ap (key_in Strict) (take_at s (drop (0 + length s) out) (length s) refl)

-- an accepted shortcut
pub accepted_key : (s : List ℕ) (r : Record) (out : List ℕ) → Accepts Strict s r → length s ≤ length out → key_in Strict (take (length s) (salvage_output s out)) ≡ key_in Strict s
accepted_key s r out e h = same_back s out (accepted_copied s r out e h).1

-- and one with bytes behind it
pub padded_key : (s : List ℕ) (r : Record) (x out : List ℕ) → Accepts Strict s r → 0 < length x → length (s ++ x) ≤ most → length s ≤ length out
    → key_in Strict (take (length s) (salvage_output (s ++ x) out)) ≡ key_in Strict s
padded_key s r x out e h l room = same_back s out (padded_back s r x out e h l room).1
