-- One law for each way out of a call.
use mathlib.Core.Path.{◌≡◌, refl, sym, ap, ◌∙◌}
use mathlib.Core.List.{List, [], ◌∷◌, ◌++◌, append-nil}
use mathlib.Core.Bool.{Bool, true, false, ◌&&◌, cond}
use Prim.Native.Nat.{ℕ, ◌+◌, ◌*◌, ◌≤◌, ◌<◌}
use native.Mathlib.Omega.{arith}
use lib.ListN.{length, drop, get_or, get_or-map}
use lib.Dec.{leb, ltb}
use borrow.Author.Tests.{lt-ltb, le-ltb}
use Rattle.std.specs.Prelude.{None, Some}
use Rattle.octets.specs.Steps.Puts.{part}
use Rattle.octets.proofs.PartLaws.{part_in}
use Rattle.format.specs.declared.Place.{Place}
use Rattle.format.specs.declared.Fault.{Fault}
use Rattle.format.specs.declared.Fault.TheVariants.{Shelf as SHELF, Entry as ENTRY}
use Rattle.format.specs.Tests.{Outcome, got, refused, Test, ◌else◌at◌, no_section, spot_at, tests, all, no_place}
use Rattle.format.specs.Numbers.{Numbered}
use Rattle.format.specs.Shortcut.{verdict_of}
use Rattle.format.specs.Contents.{bytes_at}
use Rattle.format.proofs.AnswerLaws.{nowhere, numbered}
use Rattle.format.proofs.Bools.{by_order}
use Rattle.format.proofs.Chains.{pass, all-Pass, tests-append}
use Rattle.format.specs.declared.Refused.{Refused}
use Rattle.shelves.specs.Table.{most_entries, shelf_count, bodies_start, shelf_rows, rows_follow, shelf_tests, shelf_entries, shelf_row}
use Rattle.shelving.specs.Shelf.{accepted_entry, entry_tests, shelf, shelf_answer, shelf_entry, shelf_one, fetched_by, fetch_verdict, entry_answer, one_answer, entry_shown, one_shown}
use Rattle.shelves.specs.Steps.Apart.{apart, table_lengths}
use Rattle.shelving.specs.Steps.Filing.{first_bad, bad_entry}
use Rattle.shelves.proofs.TableLaws.{Right, shelf_Right, entries_apart, entries_count, row_inside}
use Rattle.shelving.proofs.EntryLaws.{bad_some, bad_none, tests_good, tests_bad, first_le, good_at}
use Rattle.format.specs.Verdicts.{Verdict, refused_at}
use Rattle.std.specs.Prelude.{Result, Ok, Err}
use Rattle.std.specs.Result.{result_unwrap_or}

-- ---- the tests of a table, one for all

module _ {A : Type 0} (s : List ℕ) (ts : List Test) (r : Outcome A) where
  pub table_wrong : all (shelf_tests s) ≡ false → tests no_section (shelf_tests s ++ ts) r ≡ refused SHELF nowhere
  unfolding shelf_tests
  table_wrong h = go (leb 4 (length s)) (leb (shelf_count s) most_entries) (leb (bodies_start (shelf_count s)) (length s)) (rows_follow (length s) (bodies_start (shelf_count s)) (shelf_rows s)) h
    where
      go : (a b c d : Bool) → (a && (b && (c && (d && true)))) ≡ false
          → tests no_section (a else SHELF at 0 ∷ b else SHELF at 0 ∷ c else SHELF at 0 ∷ d else SHELF at 0 ∷ ts) r ≡ refused SHELF nowhere
      go false b c d e = refl
      go true false c d e = refl
      go true true false d e = refl
      go true true true false e = refl
      go true true true true e = absurd (let z : ◌≡◌ {A = ℕ} 0 1 = cc in omega arith)

  pub table_right : all (shelf_tests s) ≡ true → tests no_section (shelf_tests s ++ ts) r ≡ tests no_section ts r
  table_right h = tests-append no_section (shelf_tests s) ts r ∙ pass no_section (shelf_tests s) (tests no_section ts r) (all-Pass (shelf_tests s) h)

-- ---- what the code holds

-- the number of the first bad entry is no less than the count: there is none
module _ (s : List ℕ) {n : ℕ} (e : n ≡ first_bad (shelf_entries s)) where
  pub some_bad : n < shelf_count s → first_bad (shelf_entries s) < length (shelf_entries s)
  some_bad h = omega (arith, entries_count s)

  pub none_bad : shelf_count s ≤ n → first_bad (shelf_entries s) ≡ length (shelf_entries s)
  none_bad h = omega (arith, entries_count s, first_le (shelf_entries s))

-- the entries are found by the lengths of the table
pub on_shelf_is : (s : List ℕ) → Right s → {n : ℕ} {ns : List ℕ} → n ≡ shelf_count s → ns ≡ table_lengths s → apart 0 ns (drop (4 + 8 * n) s) ≡ shelf_entries s
on_shelf_is s r e f = rw (e, f) (sym (entries_apart s r))

-- ---- checking

module _ (s : List ℕ) where
  -- the entries' tests with none after them
  entries_only : entry_tests 0 (shelf_entries s) ++ [] ≡ entry_tests 0 (shelf_entries s)
  entries_only = append-nil (entry_tests 0 (shelf_entries s))

  pub told : {v : Verdict} → v ≡ shelf_answer s → (v ≡ shelf_answer s) × Numbered v (shelf s)
  unfolding shelf_answer
  told e = (e, numbered (shelf s) e)

  pub check_wrong : all (shelf_tests s) ≡ false → refused_at SHELF 0 ≡ shelf_answer s
  unfolding shelf_answer shelf
  check_wrong h = sym (ap verdict_of (table_wrong s (entry_tests 0 (shelf_entries s)) (got (shelf_entries s) (shelf_count s)) h))

  module _ (h : all (shelf_tests s) ≡ true) where
    shelf_is : shelf s ≡ tests no_section (entry_tests 0 (shelf_entries s) ++ []) (got (shelf_entries s) (shelf_count s))
    unfolding shelf
    shelf_is = table_right s (entry_tests 0 (shelf_entries s)) (got (shelf_entries s) (shelf_count s)) h ∙ ap (λ (ts : List Test). tests no_section ts (got (shelf_entries s) (shelf_count s))) (sym entries_only)

    pub shelf_bad : first_bad (shelf_entries s) < length (shelf_entries s) → shelf s ≡ refused ENTRY (spot_at no_section (0 + first_bad (shelf_entries s)))
    shelf_bad b = shelf_is ∙ tests_bad no_section [] (got (shelf_entries s) (shelf_count s)) 0 (shelf_entries s) b

    pub shelf_good : first_bad (shelf_entries s) ≡ length (shelf_entries s) → shelf s ≡ got (shelf_entries s) (shelf_count s)
    shelf_good b = shelf_is ∙ tests_good no_section [] (got (shelf_entries s) (shelf_count s)) 0 (shelf_entries s) b

    pub check_bad : {n : ℕ} → n ≡ first_bad (shelf_entries s) → n < shelf_count s → refused_at ENTRY n ≡ shelf_answer s
    unfolding shelf_answer
    check_bad {n} e b =
        let p : n ≡ 0 + (0 + first_bad (shelf_entries s)) = omega arith in
        rw (shelf_bad (some_bad s e b)) (ap (refused_at ENTRY) p)

    pub check_good : {n m : ℕ} → n ≡ first_bad (shelf_entries s) → m ≡ shelf_count s → m ≤ n → Ok m ≡ shelf_answer s
    unfolding shelf_answer
    check_good {n} {m} e c b = rw (shelf_good (none_bad s e (omega arith))) (ap Ok c)

    pub check_some : {n : ℕ} → Some n ≡ bad_entry (shelf_entries s) → refused_at ENTRY n ≡ shelf_answer s
    check_some e = let (i, b) = bad_some (shelf_entries s) e in check_bad i (omega (arith, entries_count s))

    pub check_none : {m : ℕ} → None ≡ bad_entry (shelf_entries s) → m ≡ shelf_count s → Ok m ≡ shelf_answer s
    check_none e c = check_good refl c (omega (arith, bad_none (shelf_entries s) e, entries_count s))

-- ---- fetching

-- a refusal, as the code makes it
abbrev pub refused_by : Fault → ℕ → Result Place Refused
refused_by f p = Err (record { fault = f; position = p })

-- a verdict as the outcome gives it
abbrev SameVerdict : Outcome Place → Type 0
SameVerdict o = fetch_verdict (fetched_by o) ≡ verdict_of o

-- what is got has its own length
verdict_fetched : (ts : List Test) (b : Place) → SameVerdict (tests no_section ts (got b b.len))
verdict_fetched [] b = refl
verdict_fetched (t ∷ ts) b = go t.holds (verdict_fetched ts b)
  where
    go : (h : Bool) → SameVerdict (tests no_section ts (got b b.len)) → SameVerdict (cond h (tests no_section ts (got b b.len)) (refused t.fault (spot_at no_section t.field)))
    go true e = e
    go false e = refl

module _ (s : List ℕ) (k : ℕ) where
  abbrev on_shelf : Test
  on_shelf = ltb k (shelf_count s) else SHELF at 0

  abbrev fetched : Outcome Place
  fetched = got (shelf_row s k) (shelf_row s k).len

  -- the tests after the table's
  abbrev entry_rest : List Test
  entry_rest = on_shelf ∷ entry_tests 0 (shelf_entries s)

  abbrev one_rest : List Test
  one_rest = on_shelf ∷ accepted_entry (bytes_at s (shelf_row s k)) else ENTRY at k ∷ []

  pub entry_told : {f : Result Place Refused} → f ≡ entry_answer s k → (f ≡ entry_answer s k) × Numbered (fetch_verdict f) (shelf_entry s k)
  unfolding entry_answer shelf_entry
  entry_told e = (e, numbered (shelf_entry s k) (ap fetch_verdict e ∙ verdict_fetched (shelf_tests s ++ entry_rest) (shelf_row s k)))

  pub one_told : {f : Result Place Refused} → f ≡ one_answer s k → (f ≡ one_answer s k) × Numbered (fetch_verdict f) (shelf_one s k)
  unfolding one_answer shelf_one
  one_told e = (e, numbered (shelf_one s k) (ap fetch_verdict e ∙ verdict_fetched (shelf_tests s ++ one_rest) (shelf_row s k)))

  module _ (h : all (shelf_tests s) ≡ false) where
    pub entry_wrong : refused_by SHELF 0 ≡ entry_answer s k
    unfolding entry_answer shelf_entry
    entry_wrong = rw (table_wrong s entry_rest fetched h)

    pub one_wrong : refused_by SHELF 0 ≡ one_answer s k
    unfolding one_answer shelf_one
    one_wrong = rw (table_wrong s one_rest fetched h)

  module _ (h : all (shelf_tests s) ≡ true) where
    entry_is : shelf_entry s k ≡ tests no_section entry_rest fetched
    unfolding shelf_entry
    entry_is = table_right s entry_rest fetched h

    one_is : shelf_one s k ≡ tests no_section one_rest fetched
    unfolding shelf_one
    one_is = table_right s one_rest fetched h

    module _ (off : shelf_count s ≤ k) where
      pub entry_is_off : shelf_entry s k ≡ refused SHELF nowhere
      entry_is_off = entry_is ∙ rw (le-ltb k (shelf_count s) off)

      pub entry_off : refused_by SHELF 0 ≡ entry_answer s k
      unfolding entry_answer
      entry_off = rw entry_is_off

      pub one_off : refused_by SHELF 0 ≡ one_answer s k
      unfolding one_answer
      one_off = rw (one_is, le-ltb k (shelf_count s) off)

    module _ (on : k < shelf_count s) where
      entry_on : shelf_entry s k ≡ tests no_section (entry_tests 0 (shelf_entries s) ++ []) fetched
      entry_on = entry_is ∙ rw (lt-ltb k (shelf_count s) on) (ap (λ (ts : List Test). tests no_section ts fetched) (sym (entries_only s)))

      pub entry_is_bad : first_bad (shelf_entries s) < length (shelf_entries s) → shelf_entry s k ≡ refused ENTRY (spot_at no_section (0 + first_bad (shelf_entries s)))
      entry_is_bad b = entry_on ∙ tests_bad no_section [] fetched 0 (shelf_entries s) b

      pub entry_is_good : first_bad (shelf_entries s) ≡ length (shelf_entries s) → shelf_entry s k ≡ fetched
      entry_is_good b = entry_on ∙ tests_good no_section [] fetched 0 (shelf_entries s) b

      pub entry_bad : {n : ℕ} → n ≡ first_bad (shelf_entries s) → n < shelf_count s → refused_by ENTRY n ≡ entry_answer s k
      unfolding entry_answer
      entry_bad {n} e b =
          let p : n ≡ 0 + (0 + first_bad (shelf_entries s)) = omega arith in
          rw (entry_is_bad (some_bad s e b)) (ap (refused_by ENTRY) p)

      pub entry_good : {n : ℕ} {b : Place} → n ≡ first_bad (shelf_entries s) → shelf_count s ≤ n → b ≡ shelf_row s k → Ok b ≡ entry_answer s k
      unfolding entry_answer
      entry_good e g b = rw (entry_is_good (none_bad s e g), b)

      pub entry_some : {n : ℕ} → Some n ≡ bad_entry (shelf_entries s) → refused_by ENTRY n ≡ entry_answer s k
      entry_some e = let (i, b) = bad_some (shelf_entries s) e in entry_bad i (omega (arith, entries_count s))

      pub entry_none : {b : Place} → None ≡ bad_entry (shelf_entries s) → b ≡ shelf_row s k → Ok b ≡ entry_answer s k
      entry_none e b = entry_good refl (omega (arith, bad_none (shelf_entries s) e, entries_count s)) b

      pub one_is_bad : accepted_entry (bytes_at s (shelf_row s k)) ≡ false → shelf_one s k ≡ refused ENTRY (spot_at no_section k)
      one_is_bad b = one_is ∙ rw (lt-ltb k (shelf_count s) on, b)

      pub one_is_good : accepted_entry (bytes_at s (shelf_row s k)) ≡ true → shelf_one s k ≡ fetched
      one_is_good b = one_is ∙ rw (lt-ltb k (shelf_count s) on, b)

      pub one_bad : accepted_entry (bytes_at s (shelf_row s k)) ≡ false → refused_by ENTRY k ≡ one_answer s k
      unfolding one_answer
      one_bad b = let p : k ≡ 0 + k = omega arith in rw (one_is_bad b) (ap (refused_by ENTRY) p)

      pub one_good : {b : Place} → accepted_entry (bytes_at s (shelf_row s k)) ≡ true → b ≡ shelf_row s k → Ok b ≡ one_answer s k
      unfolding one_answer
      one_good a b = rw (one_is_good a, b)

  -- the table is wrong, or has no such row
  module _ (h : all (shelf_tests s) ≡ true → shelf_count s ≤ k) where
    pub entry_missing : refused_by SHELF 0 ≡ entry_answer s k
    entry_missing = go (all (shelf_tests s)) refl
      where
        go : (b : Bool) → all (shelf_tests s) ≡ b → refused_by SHELF 0 ≡ entry_answer s k
        go true e = entry_off e (h e)
        go false e = entry_wrong e

    pub one_missing : refused_by SHELF 0 ≡ one_answer s k
    one_missing = go (all (shelf_tests s)) refl
      where
        go : (b : Bool) → all (shelf_tests s) ≡ b → refused_by SHELF 0 ≡ one_answer s k
        go true e = one_off e (h e)
        go false e = one_wrong e

-- ---- whatever holds of each answer to a fetch

-- the entry of a number is that of its row
pub row_entry : (s : List ℕ) (k : ℕ) → bytes_at s (shelf_row s k) ≡ get_or (shelf_entries s) k []
unfolding shelf_row shelf_entries
row_entry s k = sym (get_or-map (bytes_at s) (shelf_rows s) k no_place)

pub row_good : (s : List ℕ) (k : ℕ) → first_bad (shelf_entries s) ≡ length (shelf_entries s) → k < shelf_count s → accepted_entry (bytes_at s (shelf_row s k)) ≡ true
row_good s k good on = rw (row_entry s k) (good_at (shelf_entries s) k good (omega (arith, entries_count s)))

module _ (s : List ℕ) (k : ℕ) (X : Result Place Refused → Type 0) (wrong : X (refused_by SHELF 0)) (bad : (p : ℕ) → p ≤ most_entries → X (refused_by ENTRY p))
    (row : all (shelf_tests s) ≡ true → k < shelf_count s → accepted_entry (bytes_at s (shelf_row s k)) ≡ true → X (Ok (shelf_row s k))) where
  pub any_entry : X (entry_answer s k)
  any_entry = go (all (shelf_tests s)) refl
    where
      go : (b : Bool) → all (shelf_tests s) ≡ b → X (entry_answer s k)
      go false h = rw (← entry_wrong s k h) wrong
      go true h =
          by_order (shelf_count s) k
          (λ off. rw (← entry_off s k h off) wrong)
          (λ on.
          by_order (shelf_count s) (first_bad (shelf_entries s))
          (λ good. rw (← entry_good s k h on refl good refl) (row h on (row_good s k (none_bad s refl good) on)))
          (λ one. rw (← entry_bad s k h on refl one) (bad (first_bad (shelf_entries s)) (omega (arith, (shelf_Right s h).few)))))

  pub any_one : X (one_answer s k)
  any_one = go (all (shelf_tests s)) refl
    where
      choose : (h : all (shelf_tests s) ≡ true) → k < shelf_count s → (b : Bool) → accepted_entry (bytes_at s (shelf_row s k)) ≡ b → X (one_answer s k)
      choose h on true a = rw (← one_good s k h on a refl) (row h on a)
      choose h on false a = rw (← one_bad s k h on a) (bad k (omega (arith, (shelf_Right s h).few)))

      go : (b : Bool) → all (shelf_tests s) ≡ b → X (one_answer s k)
      go false h = rw (← one_wrong s k h) wrong
      go true h =
          by_order (shelf_count s) k
          (λ off. rw (← one_off s k h off) wrong)
          (λ on. choose h on (accepted_entry (bytes_at s (shelf_row s k))) refl)

-- ---- what is shown

module _ (s : List ℕ) (k : ℕ) where
  -- the place lies in the shelf, the empty one too
  Inside : Result Place Refused → Type 0
  Inside f = (result_unwrap_or f no_place).at + (result_unwrap_or f no_place).len ≤ length s

  entry_Inside : Inside (entry_answer s k)
  unfolding Inside
  entry_Inside = any_entry s k Inside (omega arith) (λ p h. omega arith) (λ h on good. row_inside s (shelf_Right s h) k on)

  one_Inside : Inside (one_answer s k)
  unfolding Inside
  one_Inside = any_one s k Inside (omega arith) (λ p h. omega arith) (λ h on good. row_inside s (shelf_Right s h) k on)

  shown : {b : Place} {x : List ℕ} (g : Result Place Refused) → Inside g → b ≡ result_unwrap_or g no_place → x ≡ part s b.at b.len → x ≡ bytes_at s (result_unwrap_or g no_place)
  unfolding Inside
  shown g i e p = let b = result_unwrap_or g no_place in p ∙ rw e (sym (part_in s b.at b.len i))

  pub entry_place : {f : Result Place Refused} {b : Place} {x : List ℕ} → f ≡ entry_answer s k → b ≡ result_unwrap_or f no_place → x ≡ part s b.at b.len → x ≡ entry_shown s k
  unfolding entry_shown
  entry_place e q p = shown (entry_answer s k) entry_Inside (rw e at q) p

  pub one_place : {f : Result Place Refused} {b : Place} {x : List ℕ} → f ≡ one_answer s k → b ≡ result_unwrap_or f no_place → x ≡ part s b.at b.len → x ≡ one_shown s k
  unfolding one_shown
  one_place e q p = shown (one_answer s k) one_Inside (rw e at q) p
