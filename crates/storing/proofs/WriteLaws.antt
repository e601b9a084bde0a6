-- The writer of stores: one law for each way out, and that each of them ends as StoreEnds says.
use mathlib.Core.Path.{◌≡◌, refl, sym, ap, ◌∙◌}
use mathlib.Core.List.{List}
use mathlib.Core.Bool.{Bool, true, false, not, ◌&&◌}
use Prim.Native.Nat.{ℕ, ◌%◌, ◌≤◌, ◌<◌}
use native.Mathlib.Omega.{arith}
use lib.ListN.{length}
use lib.Dec.{leb, eqb}
use borrow.Author.Tests.{le-leb, lt-leb, ne_eqb, not-true, not-false}
use Rattle.octets.specs.Numbers.{Bytes}
use Rattle.octets.specs.Steps.Puts.{Wrote}
use Rattle.format.specs.declared.Fault.TheVariants.{Place as PLACE, Unwritable as UNWRITABLE, Room as ROOM}
use Rattle.format.specs.Tests.{got, refused}
use Rattle.format.specs.Numbers.{Numbered}
use Rattle.format.specs.Writing.{output_of}
use Rattle.format.specs.StoreWriting.{Entry, entries, rows_placed, rows_from, entries_fit, most_store, store_bytes, writable_store, store_writing, store_write_answer, store_write_output, StoreEnds}
use Rattle.std.specs.Prelude.{Option, None, Some}
use Rattle.std.specs.Option.{is_some, unwrap_or}
use Rattle.format.proofs.Bools.{by_order, and_no}
use Rattle.format.proofs.Chains.{no_true}
use Rattle.format.proofs.AnswerLaws.{nowhere, numbered}
use Rattle.format.proofs.StoreDemands.{store_ends}
use Rattle.stores.specs.Steps.Sizes.{capped_store, store_size}
use Rattle.stores.specs.Steps.Making.{StoreRoom}
use Rattle.stores.proofs.TestLaws.{over, under}
use Rattle.format.specs.Verdicts.{Verdict, refused_at}
use Rattle.std.specs.Prelude.{Ok}

-- ---- what the length tells

-- the entries make a store of n bytes
record Sized (es : List Entry) (n : ℕ) : Type 0 where
  fits : entries_fit 0 es ≡ true
  few : length (store_bytes es) ≤ most_store
  is : n ≡ length (store_bytes es)

module _ (es : List Entry) where
  not_writable : None ≡ store_size es → writable_store es ≡ false
  unfolding store_size writable_store
  not_writable c = go (entries_fit 0 es) refl
    where
      go : (b : Bool) → entries_fit 0 es ≡ b → (entries_fit 0 es && leb (length (store_bytes es)) most_store) ≡ false
      go false e = rw e
      go true e = no_true (ap is_some c ∙ rw e)

  module _ {n : ℕ} (c : Some n ≡ store_size es) where
    -- n is the length, or too great as the length is
    size_is : (entries_fit 0 es ≡ true) × (n ≡ capped_store (length (store_bytes es)))
    unfolding store_size
    size_is = go (entries_fit 0 es) refl
      where
        go : (b : Bool) → entries_fit 0 es ≡ b → (entries_fit 0 es ≡ true) × (n ≡ capped_store (length (store_bytes es)))
        go false e = no_true (sym (ap is_some c ∙ rw e))
        go true e = (e, ap (λ (o : Option ℕ). unwrap_or o 0) c ∙ rw e)

    too_long : most_store < n → writable_store es ≡ false
    unfolding writable_store
    too_long h =
        by_order (length (store_bytes es)) most_store
        (λ k. absurd (omega (arith, size_is.1, under (length (store_bytes es)) k)))
        (λ k. rw (lt-leb (length (store_bytes es)) most_store k) (and_no (entries_fit 0 es)))

    sized : n ≤ most_store → Sized es n
    sized h =
        by_order (length (store_bytes es)) most_store
        (λ k. record { fits = size_is.0; few = k; is = size_is.1 ∙ under (length (store_bytes es)) k })
        (λ k. absurd (omega (arith, size_is.1, over (length (store_bytes es)) k)))

  is_writable : {n : ℕ} → Sized es n → writable_store es ≡ true
  unfolding writable_store
  is_writable s = rw (s.fits, le-leb (length (store_bytes es)) most_store s.few)

-- ---- the ways out

module _ (ns d out : List ℕ) where
  abbrev es : List Entry
  es = entries d (rows_from ns)

  abbrev w : List ℕ
  w = store_bytes es

  -- the answer and the buffer are those of the definitions
  abbrev Right : Verdict → List ℕ → Type 0
  Right v x = (v ≡ store_write_answer ns d out) × (x ≡ store_write_output ns d out)

  pub ended : Bytes d → {v : Verdict} {x : List ℕ} → Right v x
      → (v ≡ store_write_answer ns d out) × ((x ≡ store_write_output ns d out) × (Numbered v (store_writing ns d (length out)) × StoreEnds ns d out v x))
  unfolding store_write_answer
  ended b (p, q) = (p, (q, (numbered (store_writing ns d (length out)) p, rw (p, q) (store_ends ns d out b))))

  module _ {p : Bool} (i : p ≡ rows_placed (length d) (rows_from ns)) where
    pub write_outside : not p ≡ true → Right (refused_at PLACE 0) out
    unfolding store_write_answer store_write_output store_writing output_of
    write_outside t =
        let z : store_writing ns d (length out) ≡ refused PLACE nowhere = rw (sym i ∙ not-true p t) in
        (rw z, rw z)

    module _ (inside : not p ≡ false) where
      pub all_placed : rows_placed (length d) (rows_from ns) ≡ true
      all_placed = sym i ∙ not-false p inside

      cannot : (eqb (length ns % 6) 0 && writable_store es) ≡ false → Right (refused_at UNWRITABLE 0) out
      unfolding store_write_answer store_write_output store_writing output_of
      cannot f =
          let z : store_writing ns d (length out) ≡ refused UNWRITABLE nowhere = rw (all_placed, f) in
          (rw z, rw z)

      pub write_uneven : (length ns % 6 ≡ 0 → ⊥) → Right (refused_at UNWRITABLE 0) out
      write_uneven a = cannot (rw (ne_eqb (length ns % 6) 0 a))

      module _ (even : length ns % 6 ≡ 0) where
        pub write_none : None ≡ store_size es → Right (refused_at UNWRITABLE 0) out
        write_none c = cannot (rw (even, not_writable es c))

        pub write_long : {n : ℕ} → Some n ≡ store_size es → most_store < n → Right (refused_at UNWRITABLE 0) out
        write_long c h = cannot (rw (even, too_long es c h))

        module _ {n : ℕ} (c : Some n ≡ store_size es) (few : n ≤ most_store) where
          can : Sized es n
          can = sized es c few

          pub write_room : length out < n → Right (refused_at ROOM 0) out
          unfolding store_write_answer store_write_output store_writing output_of
          write_room h =
              let k : leb (length w) (length out) ≡ false = lt-leb (length w) (length out) (omega (arith, can.is)) in
              let z : store_writing ns d (length out) ≡ refused ROOM nowhere = rw (all_placed, even, is_writable es can, k) in
              (rw z, rw z)

          module _ (h : n ≤ length out) where
            pub write_fits : StoreRoom ns d out
            write_fits = record { placed = all_placed; fits = can.fits; few = can.few; room = omega (arith, can.is) }

            pub write_written : {m : ℕ} {x : List ℕ} → Wrote out 0 w (length w) x m → Right (Ok m) x
            unfolding store_write_answer store_write_output store_writing output_of
            write_written {m} g =
                let k : leb (length w) (length out) ≡ true = le-leb (length w) (length out) (omega (arith, can.is)) in
                let z : store_writing ns d (length out) ≡ got w (length w) = rw (all_placed, even, is_writable es can, k) in
                let l : m ≡ length w = omega (arith, g.next) in
                (rw z (ap Ok l), rw z g.content)
