-- What the writer of stores promises: it gives up only when it has to, and the store that it writes is the only one for its list.
use mathlib.Core.Path.{◌≡◌, refl, sym, ap, ◌∙◌}
use mathlib.Core.List.{List, [], ◌∷◌, ◌++◌, append_assoc}
use mathlib.Core.Bool.{Bool, true, false, ◌&&◌, cond}
use Prim.Native.Nat.{ℕ, ◌+◌, ◌%◌, ◌≤◌}
use native.Mathlib.Omega.{arith}
use lib.ListN.{length, take, drop, length-append, length-take, length-drop}
use lib.Seq.{drop-drop, take-length, take-append_seam, drop-append-le, drop_at, take_at}
use lib.Dec.{leb, eqb}
use borrow.Author.Tests.{leb-true, leb-false, le-leb, eqb-true, le-ltb}
use Rattle.octets.specs.Numbers.{Bytes, u32_at, little}
use Rattle.octets.proofs.NumberLaws.{Bytes-take, Bytes-drop, length-little, number_back, number_drop}
use Rattle.format.specs.declared.Profile.{Profile}
use Rattle.format.specs.declared.Place.{Place}
use Rattle.format.specs.declared.StoreRow.{StoreRow}
use Rattle.format.specs.declared.Fault.TheVariants.{Place as PLACE, Unwritable as UNWRITABLE, Room as ROOM}
use Rattle.format.specs.Tests.{Outcome, got, refused, place}
use Rattle.format.specs.Store.{store_tests}
use Rattle.format.specs.Blocks.{slot_of, size_fits, inside_tests, slot_at, block_size, block_tests, block_rules, a_block, block, block_step, blocks, first_place}
use Rattle.format.specs.Shortcut.{Sections, blocks_of, shortcut, verdict_of}
use Rattle.format.specs.Contents.{bytes_at}
use Rattle.format.specs.Writing.{output_of}
use Rattle.format.specs.StoreList.{store_rows, block_rows}
use Rattle.format.specs.StoreWriting.{Entry, storage, by_number, by_name, unknown, entries, rows_placed, store_bytes, most_store, writable_store, rows_from, store_writing, store_write_answer, store_write_output, ReadsAsStore, StoreFor, store_block, StoreEnds, misplaced, unwritable, no_room, written}
use Rattle.format.proofs.Bools.{and-true, clash}
use Rattle.format.proofs.Chains.{Pass, pass, all-Pass}
use Rattle.format.proofs.HeldLaws.{first_held}
use Rattle.format.proofs.FoundLaws.{read_Walk, blocks_late}
use Rattle.format.proofs.AcceptedLaws.{shortcut-Whole}
use Rattle.format.proofs.AnswerLaws.{nowhere}
use Rattle.format.proofs.StoreLaws.{store_anywhere, store_four}
use Rattle.format.proofs.StoreReads.{Stands, store_said}
use Rattle.format.proofs.StoreWrites.{EntryBytes, EntriesBytes, store_reads, reads_written}

-- ---- the call

-- what rows say over a buffer of bytes is bytes
pub entries_bytes : (d : List ℕ) → Bytes d → (rs : List StoreRow) → EntriesBytes (entries d rs)
unfolding entries
entries_bytes d b [] = tt
entries_bytes d b (r ∷ rs) = (go (eqb r.kind 0) (eqb r.kind 1) (eqb r.kind 2), entries_bytes d b rs)
  where
    here : (p : Place) → Bytes (bytes_at d p)
    here p = Bytes-take p.len (drop p.at d) (Bytes-drop p.at d b)

    go : (x y z : Bool) → EntryBytes (cond x (storage (bytes_at d r.raw)) (cond y (by_number r.number (bytes_at d r.raw)) (cond z (by_name (bytes_at d r.name) (bytes_at d r.raw)) unknown)))
    go true y z = here r.raw
    go false true z = here r.raw
    go false false true = (here r.name, here r.raw)
    go false false false = tt

module _ (ns d out : List ℕ) where
  -- what the list says, and the store that is written for it
  abbrev es : List Entry
  es = entries d (rows_from ns)

  abbrev w : List ℕ
  w = store_bytes es

  -- every store for the list is the one that is written
  only : (l : List ℕ) → StoreFor l ns d → l ≡ w
  only l f = sym (reads_written l es f.reads).1

  can : (l : List ℕ) → StoreFor l ns d → (eqb (length ns % 6) 0 && writable_store es) ≡ true
  can l f = rw f.whole (reads_written l es f.reads).0

  made : Bytes d → (eqb (length ns % 6) 0 && writable_store es) ≡ true → StoreFor w ns d
  made b h =
      let (x, y) = and-true (eqb (length ns % 6) 0) (writable_store es) h in
      record { whole = eqb-true (length ns % 6) 0 x; reads = store_reads es (entries_bytes d b (rows_from ns)) y }

  pub store_ends : Bytes d → StoreEnds ns d out (store_write_answer ns d out) (store_write_output ns d out)
  unfolding store_write_answer store_write_output store_writing output_of
  store_ends b = go (rows_placed (length d) (rows_from ns)) refl (eqb (length ns % 6) 0 && writable_store es) refl (leb (length w) (length out)) refl
    where
      outcome : Bool → Bool → Bool → Outcome (List ℕ)
      outcome x y z = cond x (cond y (cond z (got w (length w)) (refused ROOM nowhere)) (refused UNWRITABLE nowhere)) (refused PLACE nowhere)

      go : (x : Bool) → rows_placed (length d) (rows_from ns) ≡ x → (y : Bool) → (eqb (length ns % 6) 0 && writable_store es) ≡ y → (z : Bool) → leb (length w) (length out) ≡ z
          → StoreEnds ns d out (verdict_of (outcome x y z)) (output_of (outcome x y z) out)
      go false ex y ey z ez = misplaced ex
      go true ex false ey z ez = unwritable ex (λ l f. clash (can l f) ey)
      go true ex true ey false ez = no_room w ex (made b ey) only (leb-false (length w) (length out) ez)
      go true ex true ey true ez = written w ex (made b ey) only (leb-true (length w) (length out) ez)

-- ---- the store of a block

-- what the tests of a store say of the block that holds it
module _ (b : List ℕ) (is : slot_at b ≡ slot_of 0xA0000009) where
  rules_store : Pass (block_rules b) → (12 ≤ length b) × Pass (store_tests 8 (drop 8 b))
  unfolding size_fits inside_tests slot_of
  rules_store (x, y) = (leb-true 0x0C (length b) (rw is at x), rw is at y)

  store_rules : 12 ≤ length b → Pass (store_tests 8 (drop 8 b)) → Pass (block_rules b)
  unfolding size_fits inside_tests slot_of
  store_rules h p = rw is (le-leb 0x0C (length b) h, p)

-- a block that stands there, at p or later and with a terminal after it, and a store in it
pub record HoldsStore (s : List ℕ) (p : ℕ) (b : Place) : Type 0 where
  pub from : p ≤ b.at
  pub inside : b.at + b.len + 4 ≤ length s
  pub long : 12 ≤ b.len
  pub right : Pass (store_tests 8 (drop 8 (bytes_at s b)))

pub first_store : (s : List ℕ) (p : ℕ) (lengths : List ℕ) (n : ℕ) → blocks p (drop p s) ≡ got lengths n
    → ((first_place s 0xA0000009 p lengths).len ≡ 0 → ⊥) → HoldsStore s p (first_place s 0xA0000009 p lengths)
first_store s p lengths n e z =
    let h = first_held s 0xA0000009 p lengths n e z in
    let (long, right) = rules_store (bytes_at s (first_place s 0xA0000009 p lengths)) h.slot h.rules in
    record { from = h.from; inside = h.inside; long = omega (arith, h.long); right = right }

-- the store of an accepted shortcut, if it has one: no longer than the longest, since header, block head and terminal stand around it
module _ (profile : Profile) (s : List ℕ) (c : Sections) (n : ℕ) (e : shortcut profile s ≡ got c n) where
  abbrev store_place : Place
  store_place = first_place s 0xA0000009 (blocks_of c).start (blocks_of c).read

  pub held_store : (store_place.len ≡ 0 → ⊥) → HoldsStore s (blocks_of c).start store_place
  held_store z = first_store s (blocks_of c).start (blocks_of c).read (blocks_of c).len (read_Walk profile s c n (shortcut-Whole profile s c n e).read) z

  pub held_small : (store_place.len ≡ 0 → ⊥) → length (drop 8 (bytes_at s store_place)) ≤ most_store
  held_small z =
      let h = held_store z in
      let w = shortcut-Whole profile s c n e in
      omega (
        arith,
        h.from,
        h.inside,
        w.limit,
        blocks_late profile s c n w.read,
        length-drop 8 (bytes_at s store_place),
        length-take store_place.len (drop store_place.at s),
      )

-- a store that reads as a list does so in a block around it, wherever that stands and whatever follows
pub in_block : (l : List ℕ) (es : List Entry) → ReadsAsStore l es → (p : ℕ) (r : List ℕ)
    → (block_step p (store_block l ++ r) ≡ got a_block (length (store_block l))) × (entries (store_block l ++ r) (block_rows (store_block l ++ r) (place 0 (length (store_block l)))) ≡ es)
unfolding store_block
in_block l es f p r =
    let b : List ℕ = little 4 (8 + length l) ++ (little 4 0xA0000009 ++ l) in
    let n : ℕ = 8 + length l in
    let h = f.small in
    let right : Pass (store_tests 8 l) = all-Pass (store_tests 8 l) (store_anywhere 8 0 l ∙ f.right) in
    let four : 4 ≤ length l = store_four 8 l right in
    let long : length b ≡ n = simp (length-append, length-little) (omega arith) in
    let all : length (b ++ r) ≡ n + length r = length-append b r ∙ ap (λ (k : ℕ). k + length r) long in
    let size : block_size (b ++ r) ≡ n = rw append_assoc (number_back 4 n ((little 4 0xA0000009 ++ l) ++ r) (omega arith)) in
    let front : take n (b ++ r) ≡ b = take_at b r n long in
    let rest : drop 4 b ≡ little 4 0xA0000009 ++ l = drop_at (little 4 n) (little 4 0xA0000009 ++ l) 4 (length-little 4 n) in
    let kind : u32_at b 4 ≡ 0xA0000009 = sym (number_drop 4 4 b 0) ∙ ap (λ (x : List ℕ). u32_at x 0) rest ∙ number_back 4 0xA0000009 l (omega arith) in
    let body : drop 8 b ≡ l = sym (drop-drop 4 4 b) ∙ ap (drop 4) rest ∙ drop_at (little 4 0xA0000009) l 4 (length-little 4 0xA0000009) in
    let rules : Pass (block_rules b) = store_rules b (ap slot_of kind) (omega arith) (rw body right) in
    let tested : Pass (block_tests (b ++ r)) = rw (size, front) (le-leb 8 n (omega arith), (le-leb n (length (b ++ r)) (omega arith), rules)) in
    let step : block_step p (b ++ r) ≡ got a_block n = rw (le-leb 4 (length (b ++ r)) (omega arith), size, le-ltb n 4 (omega arith)) (rw size at (pass (block p) (block_tests (b ++ r)) (got a_block (block_size (b ++ r))) tested)) in
    let stands : Stands (b ++ r) 8 l = record { is = ap (take (length l)) (drop-append-le 8 b r (omega arith) ∙ ap (λ (x : List ℕ). x ++ r) body) ∙ take-append_seam l r } in
    let said : entries (b ++ r) (store_rows 8 l) ≡ es
    = store_said (b ++ r) 8 8 l stands right ∙ sym (store_said l 0 8 l (record { is = take-length l }) right) ∙ f.same in
    (rw long step, rw (long, front, body) said)
