-- The sizes are those of the canonical form: each of its body, where that lies in the buffer, and all of them with the heads of the whole.
use mathlib.Core.Path.{◌≡◌, refl, sym, ap, ◌∙◌}
use mathlib.Core.List.{List, [], ◌∷◌, map}
use mathlib.Core.Bool.{Bool, true, false, cond}
use Prim.Native.Nat.{ℕ, ◌+◌, ◌≤◌}
use native.Mathlib.Omega.{arith}
use lib.ListN.{length, get_or, replicate, length-append}
use lib.Dec.{leb}
use borrow.Author.Tests.{leb-true}
use Rattle.octets.specs.Characters.{bytes_of}
use Rattle.octets.proofs.NumberLaws.{length-little}
use Rattle.format.specs.declared.Place.{Place}
use Rattle.format.specs.declared.Record.{Record}
use Rattle.format.specs.Tests.{no_place}
use Rattle.format.specs.Presence.{info_there, local_there, network_there}
use Rattle.format.specs.Shortcut.{most, sum}
use Rattle.format.specs.Bodies.{BodyKind, items_kind, text_kind, string_kind, blocks_kind, further_kind, BodyRow, body_row, table_of, along, kept, all_inside, placed}
use Rattle.format.specs.Contents.{bytes_at, contents}
use Rattle.format.specs.Writing.{items_bytes, bytes_of_string, header_bytes, canonical}
use Rattle.format.specs.Steps.Lengths.{beside, written_body, written_row, written_heads, written_length}
use Rattle.format.specs.Steps.Shape.{shape_of}
use Rattle.format.specs.Steps.Flat.{body_bytes, slot_bytes, slots_bytes, volume_head_bytes, network_head_bytes, info_flat, flat_bytes}
use Rattle.format.proofs.Bools.{and-true, by_order}
use Rattle.format.proofs.BodyLaws.{body_length}
use Rattle.format.proofs.RowLaws.{map_at}
use Rattle.format.proofs.FlatLaws.{Sized, canonical_flat, length_info_head, length_volume_head, length-network_head}
use Rattle.sizes.specs.Steps.Sizes.{capped, capped_body, sizes_of, clipped_length}
use Rattle.sizes.proofs.CountLaws.{count_exact, count_most}

-- ---- one body

width : (u : Bool) → length {A = ℕ} (replicate (bytes_of u 1) 0) ≡ bytes_of u 1
width true = refl
width false = refl

pub kind_length : (k : BodyKind) (x : List ℕ) → length (body_bytes k x) ≡ length x + beside k
unfolding items_bytes bytes_of_string
kind_length items_kind x = simp (length-append, length-little) (omega arith)
kind_length (text_kind u) x = rw (length-append, width)
kind_length (string_kind u) x = simp (length-append, length-little) (omega arith)
kind_length blocks_kind x = simp (length-append, length-little)
kind_length (further_kind u) x = omega arith

slot_length : (d : List ℕ) (t : Bool) (k : BodyKind) (p : Place) → leb ((cond t p no_place).at + (cond t p no_place).len) (length d) ≡ true
    → length (slot_bytes d (body_row t k) p) ≡ written_body (body_row t k) p
slot_length d true k p e = kind_length k (bytes_at d p) ∙ ap (λ (n : ℕ). n + beside k) (body_length d p (leb-true _ _ e))
slot_length d false k p e = refl

-- ---- all of them

slots_length : (d : List ℕ) (k : ℕ) (bs : List BodyRow) (ps : List Place) → all_inside (length d) (along no_place kept k bs ps) ≡ true
    → map length (along no_place (slot_bytes d) k bs ps) ≡ along no_place written_body k bs ps
slots_length d k [] ps e = refl
slots_length d k (b ∷ bs) ps e =
    let p = get_or ps k no_place in
    let (h, i) = and-true (leb ((kept b p).at + (kept b p).len) (length d)) (all_inside (length d) (along no_place kept (k + 1) bs ps)) e in
    rw (slot_length d b.there b.kind p h, slots_length d (k + 1) bs ps i)

pub head_if : (b : Bool) (x : List ℕ) {n : ℕ} → length x ≡ n → length (cond b x []) ≡ cond b n 0
head_if true x e = e
head_if false x e = refl

module _ (d : List ℕ) (q : Record) (e : placed (length d) q ≡ true) where
  abbrev put : List (List ℕ)
  put = along no_place (slot_bytes d) 0 (table_of q) q.places

  pub row_length : map length put ≡ written_row q
  unfolding placed
  row_length = slots_length d 0 (table_of q) q.places e

  pub sized : Sized d q (written_row q)
  sized k h = ap (λ (l : List ℕ). get_or l k 0) (sym row_length) ∙ map_at length put k [] 0 h

  flat_length : (w : List ℕ) (i : Bool) → info_there q.header.flags ≡ i → length (flat_bytes d q (shape_of q.header.flags q.link) w) ≡ 76 + written_heads q + sum (map length put)
  unfolding flat_bytes info_flat slots_bytes shape_of header_bytes
  flat_length w true i =
      let l = q.link in
      rw i
      (simp (length-append, length-little)
      (omega (
        arith,
        length_info_head l w,
        head_if (local_there l.flags) (volume_head_bytes l w) (length_volume_head l w),
        head_if (network_there l.flags) (network_head_bytes l w) (length-network_head l w),
      )))
  flat_length w false i = rw i (simp (length-append, length-little) (omega arith))

  -- the canonical form is so long
  pub canonical-length : length (canonical (contents d q)) ≡ written_length q
  unfolding written_length
  canonical-length =
      ap length (canonical_flat d q (written_row q) sized)
      ∙ flat_length (written_row q) (info_there q.header.flags) refl
      ∙ ap (λ (l : List ℕ). 76 + written_heads q + sum l) row_length

-- ---- sizes that were clipped

clipped_row : (k : ℕ) (bs : List BodyRow) (ps : List Place) → sum (along no_place capped_body k bs ps) ≤ most
    → along no_place capped_body k bs ps ≡ along no_place written_body k bs ps
clipped_row k [] ps h = refl
clipped_row k (b ∷ bs) ps h =
    let p = get_or ps k no_place in
    rw (one b.there p.len (beside b.kind) (omega arith), clipped_row (k + 1) bs ps (omega arith))
  where
    one : (t : Bool) (n m : ℕ) → cond t (capped n + m) 0 ≤ most → cond t (capped n + m) 0 ≡ cond t (n + m) 0
    one true n m h = by_order n most (λ j. rw (← count_exact n j)) (λ j. absurd (omega (arith, count_most n j)))
    one false n m h = refl

clipped_less : (k : ℕ) (bs : List BodyRow) (ps : List Place) → sum (along no_place capped_body k bs ps) ≤ sum (along no_place written_body k bs ps)
clipped_less k [] ps = omega arith
clipped_less k (b ∷ bs) ps =
    let p = get_or ps k no_place in
    omega (arith, clipped_less (k + 1) bs ps, one b.there p.len (beside b.kind))
  where
    one : (t : Bool) (n m : ℕ) → cond t (capped n + m) 0 ≤ cond t (n + m) 0
    one true n m = by_order n most (λ j. omega (arith, count_exact n j)) (λ j. omega (arith, count_most n j))
    one false n m = omega arith

-- a sum that is no more than the most is the length, and each size its own
pub exact_row : (q : Record) → clipped_length q ≤ most → sizes_of q ≡ written_row q
unfolding clipped_length sizes_of
exact_row q h = clipped_row 0 (table_of q) q.places (omega arith)

pub exact_length : (q : Record) → clipped_length q ≤ most → clipped_length q ≡ written_length q
unfolding clipped_length written_length
exact_length q h = ap (λ (l : List ℕ). 76 + written_heads q + sum l) (exact_row q h)

-- one that is more is that of a form that is too long
pub over_length : (q : Record) → clipped_length q ≤ written_length q
unfolding clipped_length written_length sizes_of
over_length q = omega (arith, clipped_less 0 (table_of q) q.places)
