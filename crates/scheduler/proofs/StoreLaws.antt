-- The calls on stores: their values fit in the answer, and one law for each way out of writing.
use mathlib.Core.Path.{◌≡◌, refl, sym, ap, ◌∙◌}
use mathlib.Core.List.{List, [], ◌∷◌}
use mathlib.Core.Bool.{Bool, true, false, ◌&&◌, cond}
use Prim.Native.Nat.{ℕ, ◌%◌, ◌≤◌}
use native.Mathlib.Omega.{arith}
use lib.ListN.{length}
use lib.Dec.{leb, eqb}
use borrow.Author.Tests.{leb-true, eq-eqb, ne_eqb}
use Rattle.format.specs.declared.Profile.{Profile}
use Rattle.format.specs.declared.Fault.TheVariants.{Place as PLACE, Unwritable as UNWRITABLE, Room as ROOM}
use Rattle.format.specs.Numbers.{answer_value, Numbered}
use Rattle.format.specs.Tests.{◌else◌at◌, no_section, tests, Outcome, got, refused, and_then}
use Rattle.format.specs.Shortcut.{Sections, shortcut, verdict_of}
use Rattle.format.specs.StoreList.{all_numbers, rows_of, store_list, store_list_answer}
use Rattle.format.specs.StoreWriting.{Entry, entries, rows_placed, rows_from, entries_fit, most_store, store_bytes, writable_store, store_writing, store_write_answer, store_write_output, StoreEnds}
use Rattle.format.proofs.Bools.{and-true}
use Rattle.format.proofs.AnswerLaws.{nowhere}
use Rattle.format.proofs.AcceptedLaws.{shortcut-Whole}
use Rattle.format.proofs.PositionDemands.{positions_small}
use Rattle.storing.proofs.FewLaws.{rows_few}
use Rattle.scheduler.specs.Code.{code_of}
use Rattle.scheduler.specs.Records.{FIELDS}
use Rattle.scheduler.specs.Stores.{store_write_code, store_written_rows, StoreEndsOf}
use Rattle.format.specs.Verdicts.{Verdict}

pub store_list_small : (profile : Profile) (s out : List ℕ) → answer_value (store_list_answer profile s out) ≤ 4194820
unfolding answer_value store_list_answer store_list
store_list_small profile s out = go (shortcut profile s) refl
  where
    either : (w : List ℕ) (n : ℕ) → n ≤ 65536 → (b : Bool) → answer_value (verdict_of (cond b (got w n) (refused ROOM nowhere))) ≤ 4194820
    either w n h true = omega arith
    either w n h false = omega arith

    go : (o : Outcome Sections) → shortcut profile s ≡ o
        → answer_value (verdict_of (and_then o (λ c n. tests no_section (leb (length (all_numbers (rows_of s c))) (length out) else ROOM at 0 ∷ []) (got (all_numbers (rows_of s c)) (length (rows_of s c)))))) ≤ 4194820
    go (got c n) i = either (all_numbers (rows_of s c)) (length (rows_of s c)) (omega (arith, rows_few s c, (shortcut-Whole profile s c n i).limit)) (leb (length (all_numbers (rows_of s c))) (length out))
    go (refused f q) i = omega (arith, positions_small profile s f q i)

-- what can be written is no longer than the longest store
writable_few : (es : List Entry) → writable_store es ≡ true → length (store_bytes es) ≤ most_store
unfolding writable_store
writable_few es e = leb-true (length (store_bytes es)) most_store (and-true (entries_fit 0 es) (leb (length (store_bytes es)) most_store) e).1

pub store_write_small : (ns d out : List ℕ) → answer_value (store_write_answer ns d out) ≤ 4194820
unfolding answer_value store_write_answer store_writing
store_write_small ns d out =
    let es = entries d (rows_from ns) in
    let w = store_bytes es in
    go w (rows_placed (length d) (rows_from ns)) (eqb (length ns % 6) 0 && writable_store es) (leb (length w) (length out)) (λ e. writable_few es (and-true (eqb (length ns % 6) 0) (writable_store es) e).1)
  where
    go : (w : List ℕ) (a b c : Bool) → (b ≡ true → length w ≤ most_store)
        → answer_value (verdict_of (cond a (cond b (cond c (got w (length w)) (refused ROOM nowhere)) (refused UNWRITABLE nowhere)) (refused PLACE nowhere))) ≤ 4194820
    go w true true true h = omega (arith, h refl)
    go w true true false h = omega arith
    go w true false c h = omega arith
    go w false b c h = omega arith

module _ (ns d out : List ℕ) where
  pub write_left_over : (length ns % 6 ≡ 0 → ⊥) → (FIELDS ≡ store_write_code ns d out) × ((out ≡ store_written_rows ns d out) × StoreEndsOf ns d out FIELDS out)
  unfolding store_write_code store_written_rows
  write_left_over h = let e = ne_eqb (length ns % 6) 0 h in (rw e, (rw e, λ n. absurd (h n)))

  pub write_whole : length ns % 6 ≡ 0 → {v : Verdict} {x : List ℕ} {r : ℕ}
      → (v ≡ store_write_answer ns d out) × ((x ≡ store_write_output ns d out) × (Numbered v (store_writing ns d (length out)) × StoreEnds ns d out v x)) → r ≡ code_of v
      → (r ≡ store_write_code ns d out) × ((x ≡ store_written_rows ns d out) × StoreEndsOf ns d out r x)
  unfolding store_write_code store_written_rows
  write_whole h {v} {x} (j, (k, (number, z))) l =
      let n = sym (eq-eqb (length ns % 6) 0 h) in (
        l ∙ ap code_of j ∙ ap (λ (b : Bool). cond b (code_of (store_write_answer ns d out)) FIELDS) n,
        (k ∙ ap (λ (b : Bool). cond b (store_write_output ns d out) out) n, λ m. record { verdict = v; code = l; ends = z }),
      )
