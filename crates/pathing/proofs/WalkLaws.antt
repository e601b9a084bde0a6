-- The walk over a body of whole blocks for the place of a signature, and what a block put there makes of the body.
use mathlib.Core.Path.{◌≡◌, refl, sym, ap, ◌∙◌}
use mathlib.Core.List.{List, [], ◌∷◌, ◌++◌, append_assoc, append-nil}
use mathlib.Core.Bool.{Bool, true, false, cond}
use Prim.Native.Nat.{ℕ, ◌+◌, ◌-◌, ◌≤◌, ◌<◌}
use native.Mathlib.Omega.{arith}
use lib.ListN.{length, take, drop, length-append, length-drop}
use lib.Seq.{take_all, take_at, take-append_seam, take-append-add, drop_at, drop-append-add, drop-nil}
use lib.Dec.{eqb}
use borrow.Author.Tests.{eqb-true, eq-eqb, ne_eqb}
use Rattle.octets.specs.Numbers.{u32_at}
use Rattle.octets.specs.Parts.{put}
use Rattle.octets.proofs.NumberLaws.{number_same}
use Rattle.format.specs.Blocks.{slot_at}
use Rattle.format.specs.Writing.{end_to_end, writable_blocks}
use Rattle.format.specs.PathWriting.{is_path, blocks_in, signature_of, with_block}
use Rattle.format.proofs.Bools.{by_order}
use Rattle.format.proofs.PathLaws.{Wholes, body_Parted, path_slot}
use Rattle.pathing.specs.Steps.Places.{place_among, block_place, Found}

-- ---- the walk

-- what is left are whole blocks, which have the place still to find
pub record Walks (x : List ℕ) (g : ℕ) (r : List ℕ) : Type 0 where
  pub before : List ℕ
  pub rest : List (List ℕ)
  pub whole : Wholes before rest
  pub joined : r ≡ end_to_end rest
  pub inside : length r ≤ length x
  pub place : length x - length r + place_among g rest ≡ block_place g x

-- what stands at its start, if it is not the end
record Stands (x : List ℕ) (g : ℕ) (r : List ℕ) : Type 0 where
  least : 8 ≤ u32_at r 0
  inside : u32_at r 0 ≤ length r
  here : u32_at r 4 ≡ g → length x - length r ≡ block_place g x
  later : (u32_at r 4 ≡ g → ⊥) → Walks x g (drop (u32_at r 0) r)

module _ (x : List ℕ) (g : ℕ) where
  walk_start : writable_blocks x ≡ true → Walks x g x
  unfolding block_place
  walk_start e =
      let p = body_Parted x e in
      record { before = []; rest = blocks_in x; whole = p.wholes; joined = sym p.joined; inside = omega arith; place = omega arith }

  walk_end : (r : List ℕ) → Walks x g r → length r ≡ 0 → length x - length r ≡ block_place g x
  walk_end r w h = go w.rest w.whole w.joined w.place
    where
      go : (rest : List (List ℕ)) → Wholes w.before rest → r ≡ end_to_end rest → length x - length r + place_among g rest ≡ block_place g x → length x - length r ≡ block_place g x
      go [] v j n = omega arith
      go (b ∷ bs) v j n = absurd (omega (arith, v.0.least, length-append b (end_to_end bs), ap length j))

  walk_on : (r : List ℕ) → Walks x g r → 0 < length r → Stands x g r
  walk_on r w h = go w.rest w.whole w.joined w.place
    where
      go : (rest : List (List ℕ)) → Wholes w.before rest → r ≡ end_to_end rest → length x - length r + place_among g rest ≡ block_place g x → Stands x g r
      go [] v j n = absurd (omega (arith, ap length j))
      go (b ∷ bs) v j n =
          let s : List ℕ = b ++ end_to_end bs in
          let k : ℕ = length b in
          let least : 8 ≤ k = v.0.least in
          let same : take k s ≡ take k b = take-append_seam b (end_to_end bs) ∙ sym (rw append-nil at (take_at b [] k refl)) in
          let size : u32_at r 0 ≡ k = ap (λ (l : List ℕ). u32_at l 0) j ∙ number_same 4 k s b 0 same (omega arith) ∙ v.0.size in
          let sign : u32_at r 4 ≡ signature_of b = ap (λ (l : List ℕ). u32_at l 4) j ∙ number_same 4 k s b 4 same (omega arith) in
          let long : length r ≡ k + length (end_to_end bs) = ap length j ∙ length-append b (end_to_end bs) in
          let inside : length r ≤ length x = w.inside in
          record {
            least = omega arith;
            inside = omega arith;
            here = λ e. let f : eqb (signature_of b) g ≡ true = eq-eqb (signature_of b) g (sym sign ∙ e) in omega (arith, rw f at n);
            later = λ e.
                let f : eqb (signature_of b) g ≡ false = ne_eqb (signature_of b) g (λ z. e (sign ∙ z)) in
                let left : drop k r ≡ end_to_end bs = ap (drop k) j ∙ drop_at b (end_to_end bs) k refl in
                rw size (record {
                  before = slot_at b ∷ w.before;
                  rest = bs;
                  whole = v.1.1;
                  joined = left;
                  inside = omega (arith, length-drop k r);
                  place = omega (arith, length-drop k r, rw f at n);
                });
          }

-- ---- the walk over any body

abbrev pub Going : List ℕ → ℕ → List ℕ → Type 0
Going x g r = writable_blocks x ≡ true → Walks x g r

pub begins : (x : List ℕ) (g : ℕ) → Going x g x
begins x g = walk_start x g

module _ (x : List ℕ) (g : ℕ) (r : List ℕ) (w : Going x g r) where
  -- fewer than 8 bytes are left: none, if the blocks are whole
  pub found_end : length r < 8 → Found g x (length x - length r)
  found_end h = record {
    inside = omega arith;
    place = λ e.
        by_order (length r) 0 (λ o. walk_end x g r (w e) (omega arith)) (λ o. let s = walk_on x g r (w e) o in absurd (omega (arith, s.least, s.inside)));
  }

  module _ (h : 8 ≤ length r) where
    stands : writable_blocks x ≡ true → Stands x g r
    stands e = walk_on x g r (w e) (omega arith)

    pub found_here : u32_at r 4 ≡ g → Found g x (length x - length r)
    found_here s = record { inside = omega arith; place = λ e. (stands e).here s }

    -- no block: then they are not whole
    pub found_small : u32_at r 0 < 8 → Found g x (length x - length r)
    found_small o = record { inside = omega arith; place = λ e. absurd (omega (arith, (stands e).least)) }

    pub found_past : length r < u32_at r 0 → Found g x (length x - length r)
    found_past o = record { inside = omega arith; place = λ e. absurd (omega (arith, (stands e).inside)) }

    pub goes_on : (u32_at r 4 ≡ g → ⊥) → (n : ℕ) → n ≡ u32_at r 0 → n ≤ length r → Going x g (take (length r - n) (drop n r))
    goes_on other n e l f = rw (take_all (length r - n) (drop n r) (simp length-drop (omega arith)), e) ((stands f).later other)

-- ---- the block at its place

place_inside : (g : ℕ) (bs : List (List ℕ)) → place_among g bs ≤ length (end_to_end bs)
place_inside g [] = omega arith
place_inside g (b ∷ bs) = rw length-append (go (eqb (signature_of b) g) (place_inside g bs))
  where
    go : (t : Bool) → place_among g bs ≤ length (end_to_end bs) → cond t 0 (length b + place_among g bs) ≤ length b + length (end_to_end bs)
    go true h = omega arith
    go false h = omega arith

-- a whole block of such a signature has 788 bytes, so the new one takes the old one's place
put_among : (b : List ℕ) → is_path (signature_of b) ≡ true → length b ≡ 788 → (bs : List (List ℕ)) (before : List ℕ) → Wholes before bs
    → end_to_end (with_block b bs) ≡ put (end_to_end bs) (place_among (signature_of b) bs) b
unfolding with_block put
put_among b p l [] before w = rw (drop-nil (0 + length b))
put_among b p l (x ∷ xs) before w = go (eqb (signature_of x) (signature_of b)) refl (put_among b p l xs (slot_at x ∷ before) w.1.1)
  where
    go : (t : Bool) → eqb (signature_of x) (signature_of b) ≡ t → end_to_end (with_block b xs) ≡ put (end_to_end xs) (place_among (signature_of b) xs) b
        → end_to_end (cond t (b ∷ xs) (x ∷ with_block b xs)) ≡ put (x ++ end_to_end xs) (cond t 0 (length x + place_among (signature_of b) xs)) b
    go true q i =
        let long : length x ≡ 788 = (path_slot (signature_of b) p).exact (length x) (rw (eqb-true (signature_of x) (signature_of b) q) at w.0.rules.0) in
        let k : 0 + length b ≡ length x = omega arith in
        rw (k, drop_at x (end_to_end xs) (length x) refl)
    go false q i =
        let n : ℕ = place_among (signature_of b) xs in
        let k : length x + n + length b ≡ length x + (n + length b) = omega arith in
        rw (i, k, take-append-add x (end_to_end xs) n, drop-append-add x (end_to_end xs) (n + length b)) (sym (append_assoc x (take n (end_to_end xs)) (b ++ drop (n + length b) (end_to_end xs))))

-- in a body that can be written
module _ (x b : List ℕ) (e : writable_blocks x ≡ true) where
  pub place_in : (g : ℕ) → block_place g x ≤ length x
  unfolding block_place
  place_in g = rw (body_Parted x e).joined at (place_inside g (blocks_in x))

  pub put_in : {g : ℕ} → signature_of b ≡ g → is_path g ≡ true → length b ≡ 788 → end_to_end (with_block b (blocks_in x)) ≡ put x (block_place g x) b
  unfolding block_place
  put_in s p l = put_among b (rw s p) l (blocks_in x) [] (body_Parted x e).wholes ∙ rw ((body_Parted x e).joined, s)
