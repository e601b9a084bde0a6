-- How great the value of an answer can be: the longest shelf has 64 entries of 65,536 bytes.
use mathlib.Core.Path.{◌≡◌, refl, ap}
use mathlib.Core.List.{List, [], ◌∷◌, map}
use mathlib.Core.Bool.{Bool, true, false}
use Prim.Native.Nat.{ℕ, ◌+◌, ◌*◌, ◌≤◌, ◌<◌}
use native.Mathlib.Omega.{arith}
use lib.ListN.{length, length-map}
use lib.Dec.{leb, eqb}
use borrow.Author.Tests.{leb-true}
use Rattle.octets.specs.Numbers.{Bytes}
use Rattle.octets.proofs.NumberLaws.{number_below}
use Rattle.format.specs.declared.Fault.{Fault}
use Rattle.format.specs.declared.Fault.TheVariants.{Shelf as SHELF, Entry as ENTRY}
use Rattle.format.specs.Numbers.{answer_value}
use Rattle.format.specs.Tests.{◌else◌at◌, no_section, tests, all}
use Rattle.format.specs.Shortcut.{most, sum, verdict_of}
use Rattle.format.specs.Contents.{bytes_at}
use Rattle.format.proofs.Bools.{by_order}
use Rattle.format.proofs.Chains.{pass, all-Pass}
use Rattle.shelves.specs.Table.{most_entries, shelf_count, shelf_tests, shelf_entries, shelf_row, shelf_bytes}
use Rattle.shelving.specs.Shelf.{accepted_entry, shelf_answer, entry_answer, one_answer}
use Rattle.shelving.specs.Building.{filed, bodies_by, shelf_build, build_answer}
use Rattle.shelves.specs.OldFile.{old_fits, old_entries, old_bytes}
use Rattle.shelving.specs.OldForm.{from_old, from_old_answer, to_old, to_old_answer}
use Rattle.shelving.specs.Steps.Filing.{first_bad}
use Rattle.shelves.specs.Steps.Apart.{Small}
use Rattle.shelving.specs.Steps.Fetches.{FetchSmall}
use Rattle.shelves.proofs.ApartLaws.{Small-sum, span_four, apart_count, old_long, shelf_long}
use Rattle.shelving.proofs.FileLaws.{bodies_apart, to_wrong}
use Rattle.shelves.proofs.TableLaws.{shelf_Right, entries_count, row_is, row_long}
use Rattle.shelves.proofs.OldLaws.{old_apart}
use Rattle.shelving.proofs.EntryLaws.{first_le, good_small, all_small, filed_bad, filed_room, filed_all}
use Rattle.shelving.proofs.CallLaws.{check_wrong, check_bad, check_good, refused_by, any_entry, any_one}
use Rattle.format.specs.Verdicts.{refused_at}
use Rattle.std.specs.Prelude.{Ok}

abbrev pub longest : ℕ
longest = 4194820

-- ---- a file of entries

module _ (es : List (List ℕ)) (few : length es ≤ most_entries) where
  lengths_Small : first_bad es ≡ length es → Small (map length es)
  lengths_Small g = record { few = omega (arith, length-map es length); each = all_small es g }

  filed-Small : (w : List ℕ) (room : ℕ) → (Small (map length es) → length w ≤ longest) → answer_value (verdict_of (filed es w room)) ≤ longest
  unfolding answer_value
  filed-Small w room h =
      by_order (length es) (first_bad es)
      (λ all.
      let g : first_bad es ≡ length es = omega (arith, first_le es) in
      by_order (length w) room
      (λ fits. rw (filed_all es w room g fits) (h (lengths_Small g)))
      (λ long. rw (filed_room es w room g long) (omega arith)))
      (λ bad. rw (filed_bad es w room bad) (omega arith))

  shelf_Small : Small (map length es) → length (shelf_bytes es) ≤ longest
  shelf_Small s = omega (arith, shelf_long es, Small-sum s)

  old_Small : Small (map length es) → length (old_bytes es) ≤ longest
  old_Small s = omega (arith, old_long es, span_four (map length es), Small-sum s, s.few)

-- ---- the calls

none_small : answer_value (refused_at SHELF 0) ≤ longest
unfolding answer_value
none_small = omega arith

pub check_small : (s : List ℕ) → answer_value (shelf_answer s) ≤ longest
unfolding answer_value
check_small s = go (all (shelf_tests s)) refl
  where
    go : (b : Bool) → all (shelf_tests s) ≡ b → answer_value (shelf_answer s) ≤ longest
    go false h = rw (← check_wrong s h) none_small
    go true h =
        by_order (shelf_count s) (first_bad (shelf_entries s))
        (λ good. rw (← check_good s h refl refl good) (omega (arith, (shelf_Right s h).few)))
        (λ bad. rw (← check_bad s h refl bad) (omega (arith, (shelf_Right s h).few)))

pub build_small : (ns d out : List ℕ) → answer_value (build_answer ns d out) ≤ longest
unfolding build_answer shelf_build
build_small ns d out = go (leb (length ns) most_entries) refl (eqb (sum ns) (length d))
  where
    go : (a : Bool) → leb (length ns) most_entries ≡ a → (b : Bool)
        → answer_value (verdict_of (tests no_section (a else SHELF at 0 ∷ b else SHELF at 0 ∷ []) (filed (bodies_by ns d) (shelf_bytes (bodies_by ns d)) (length out)))) ≤ longest
    go false e b = none_small
    go true e false = none_small
    go true e true =
        let few : length (bodies_by ns d) ≤ most_entries = omega (arith, ap length (bodies_apart ns d), apart_count 0 ns d, leb-true (length ns) most_entries e) in
        filed-Small (bodies_by ns d) few (shelf_bytes (bodies_by ns d)) (length out) (shelf_Small (bodies_by ns d) few)

pub from_small : (s out : List ℕ) → answer_value (from_old_answer s out) ≤ longest
unfolding from_old_answer from_old
from_small s out = go (old_fits most_entries s) refl
  where
    go : (a : Bool) → old_fits most_entries s ≡ a
        → answer_value (verdict_of (tests no_section (a else SHELF at 0 ∷ []) (filed (old_entries most_entries s) (shelf_bytes (old_entries most_entries s)) (length out)))) ≤ longest
    go false e = none_small
    go true e =
        let few = (old_apart most_entries s e).few in
        filed-Small (old_entries most_entries s) few (shelf_bytes (old_entries most_entries s)) (length out) (shelf_Small (old_entries most_entries s) few)

pub to_small : (s out : List ℕ) → answer_value (to_old_answer s out) ≤ longest
unfolding to_old_answer to_old
to_small s out = go (all (shelf_tests s)) refl
  where
    go : (b : Bool) → all (shelf_tests s) ≡ b → answer_value (verdict_of (tests no_section (shelf_tests s) (filed (shelf_entries s) (old_bytes (shelf_entries s)) (length out)))) ≤ longest
    go false h = rw (← (to_wrong s out h).answer) none_small
    go true h =
        let few : length (shelf_entries s) ≤ most_entries = omega (arith, entries_count s, (shelf_Right s h).few) in
        rw (pass no_section (shelf_tests s) (filed (shelf_entries s) (old_bytes (shelf_entries s)) (length out)) (all-Pass (shelf_tests s) h))
        (filed-Small (shelf_entries s) few (old_bytes (shelf_entries s)) (length out) (old_Small (shelf_entries s) few))

-- ---- the place of an entry: a start of four bytes, and the length of a shortcut

module _ (s : List ℕ) (bytes : Bytes s) (k : ℕ) where
  row_small : all (shelf_tests s) ≡ true → k < shelf_count s → accepted_entry (bytes_at s (shelf_row s k)) ≡ true
      → FetchSmall (Ok (shelf_row s k))
  unfolding answer_value
  row_small h on good =
      let long : (shelf_row s k).len ≤ most = omega (arith, row_long s (shelf_Right s h) k on, good_small (bytes_at s (shelf_row s k)) good) in
      let start : (shelf_row s k).at < 4294967296 = rw (row_is s k on) (number_below 4 s (4 + 8 * k) bytes) in
      record { value = long; start = start; long = long }

  none_fetched : (f : Fault) (p : ℕ) → p ≤ most_entries → FetchSmall (refused_by f p)
  unfolding answer_value
  none_fetched f p h = record { value = omega arith; start = omega arith; long = omega arith }

  pub entry_small : FetchSmall (entry_answer s k)
  entry_small = any_entry s k FetchSmall (none_fetched SHELF 0 (omega arith)) (none_fetched ENTRY) row_small

  pub one_small : FetchSmall (one_answer s k)
  one_small = any_one s k FetchSmall (none_fetched SHELF 0 (omega arith)) (none_fetched ENTRY) row_small
