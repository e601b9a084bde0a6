-- The sizes: of one slot, and how great their sum can be.
use mathlib.Core.Path.{◌≡◌, refl, sym, ap, ◌∙◌}
use mathlib.Core.List.{List, [], ◌∷◌, map}
use mathlib.Core.Bool.{Bool, true, false, cond}
use Prim.Native.Nat.{ℕ, ◌+◌, ◌*◌, ◌≤◌, ◌<◌}
use native.Mathlib.Omega.{arith}
use native.Mathlib.Nat.{zero-add}
use lib.ListN.{length, get_or}
use Rattle.std.specs.List.{sum as total}
use Rattle.std.proofs.lemmas.List.Sums.{sum_by-cons}
use Rattle.octets.specs.Characters.{bytes_of}
use Rattle.format.specs.declared.Place.{Place}
use Rattle.format.specs.declared.Link.{Link}
use Rattle.format.specs.declared.Record.{Record}
use Rattle.format.specs.Tests.{no_place}
use Rattle.format.specs.Presence.{info_there, local_there, network_there}
use Rattle.format.specs.Shortcut.{most, sum}
use Rattle.format.specs.Bodies.{BodyKind, items_kind, text_kind, string_kind, blocks_kind, further_kind, BodyRow, body_row, table_of, along, written_head}
use Rattle.format.specs.Steps.Lengths.{beside, volume_part, network_part, written_heads}
use Rattle.format.specs.Steps.Shape.{Shape, slot_of, shape_of, no_slot}
use Rattle.format.proofs.Bools.{by_order}
use Rattle.format.proofs.RowLaws.{map_at, along_at}
use Rattle.sizes.specs.Steps.Sizes.{capped, capped_body, besides_of, sizes_of}
use Rattle.sizes.proofs.CountLaws.{count_exact, count_most}

pub few : (n : ℕ) → capped n ≤ most + 1
few n = by_order n most (λ h. omega (arith, count_exact n h)) (λ h. omega (arith, count_most n h))

-- ---- one slot

abbrev none : BodyRow
none = body_row false items_kind

beside_row : (q : Record) → map (λ b. beside b.kind) (table_of q) ≡ besides_of q.link.label_unicode
beside_row q = go q.link.label_unicode
  where
    go : (u : Bool) → 4 ∷ bytes_of u 1 ∷ 1 ∷ 1 ∷ 1 ∷ 2 ∷ 2 ∷ 1 ∷ 2 ∷ 2 ∷ 2 ∷ 2 ∷ 2 ∷ 2 ∷ 2 ∷ 4 ∷ 0 ∷ [] ≡ besides_of u
    go true = refl
    go false = refl

pub size_at : (q : Record) {s : Shape} → s ≡ shape_of q.header.flags q.link → (j : ℕ) → j < 17
    → cond (get_or s j no_slot).there (capped (get_or q.places j no_place).len + get_or (besides_of q.link.label_unicode) j 0) 0 ≡ get_or (sizes_of q) j 0
unfolding shape_of sizes_of
size_at q {s} e j h =
    same (capped (get_or q.places j no_place).len)
    (ap (λ (z : Shape). (get_or z j no_slot).there) e ∙ ap (λ x. x.there) (map_at slot_of (table_of q) j none no_slot h))
    (ap (λ (l : List ℕ). get_or l j 0) (sym (beside_row q)) ∙ map_at (λ b. beside b.kind) (table_of q) j none 0 h)
    ∙ sym (rw zero-add at (along_at no_place capped_body 0 (table_of q) q.places j none 0 h))
  where
    same : (k : ℕ) {t u : Bool} {m n : ℕ} → t ≡ u → m ≡ n → cond t (k + m) 0 ≡ cond u (k + n) 0
    same k e f = rw (e, f)

pub sizes_row : (q : Record) → length (sizes_of q) ≡ 17
unfolding sizes_of
sizes_row q = refl

-- ---- their sum

pub few_beside : (k : BodyKind) → beside k ≤ 4
few_beside items_kind = omega arith
few_beside (text_kind true) = omega arith
few_beside (text_kind false) = omega arith
few_beside (string_kind u) = omega arith
few_beside blocks_kind = omega arith
few_beside (further_kind u) = omega arith

few_sum : (k : ℕ) (bs : List BodyRow) (ps : List Place) → sum (along no_place capped_body k bs ps) ≤ 65541 * length bs
few_sum k [] ps = omega arith
few_sum k (b ∷ bs) ps =
    let m : ℕ = capped (get_or ps k no_place).len + beside b.kind in
    omega (arith, few_sum (k + 1) bs ps, few (get_or ps k no_place).len, few_beside b.kind, less b.there m)
  where
    less : (t : Bool) (m : ℕ) → cond t m 0 ≤ m
    less true m = omega arith
    less false m = omega arith

-- a head is one of two numbers
few_head : (t u : Bool) (a b : ℕ) → b ≤ a → cond t (cond u a b) 0 ≤ a
few_head true true a b h = omega arith
few_head true false a b h = omega arith
few_head false u a b h = omega arith

pub few_info : (long : Bool) → written_head long ≤ 36
few_info long = few_head true long 0x24 0x1C (omega arith)

pub few_volume : (l : Link) → volume_part l ≤ 20
few_volume l = few_head (local_there l.flags) l.label_unicode 0x14 0x10 (omega arith)

pub few_network : (l : Link) → network_part l ≤ 28
few_network l = few_head (network_there l.flags) l.network_unicode 0x1C 0x14 (omega arith)

pub few_heads : (q : Record) → written_heads q ≤ 84
few_heads q =
    let l = q.link in
    go (info_there q.header.flags) (omega (arith, few_info l.long, few_volume l, few_network l))
  where
    go : (i : Bool) {n : ℕ} → n ≤ 84 → cond i n 0 ≤ 84
    go true h = h
    go false h = omega arith

-- as the library counts it
pub same_sum : (xs : List ℕ) → total xs ≡ sum xs
same_sum [] = refl
same_sum (x ∷ xs) = rw (sum_by-cons (λ n. n) x xs, same_sum xs)

pub few_sizes : (q : Record) → total (sizes_of q) ≤ 1114197
unfolding sizes_of
few_sizes q = rw same_sum (few_sum 0 (table_of q) q.places)
