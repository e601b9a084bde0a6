-- One law for each way out of the calls that make a file.
use mathlib.Core.Path.{◌≡◌, refl, sym, ap, ◌∙◌}
use mathlib.Core.List.{List, [], ◌∷◌, map, append-nil}
use mathlib.Core.Bool.{Bool, true, false, ◌&&◌, cond}
use Prim.Native.Nat.{ℕ, ◌+◌, ◌*◌, ◌-◌, ◌≤◌, ◌<◌}
use native.Mathlib.Omega.{arith}
use lib.ListN.{length, drop, length-drop, length-map}
use lib.Dec.{leb, eqb}
use borrow.Author.Tests.{leb-true, eqb-true}
use Rattle.octets.specs.Steps.Puts.{Wrote}
use Rattle.octets.proofs.WroteLaws.{reword}
use Rattle.std.specs.Prelude.{Option, None, Some}
use Rattle.std.specs.Option.{is_some, unwrap_or}
use Rattle.format.proofs.Bools.{and-true}
use Rattle.format.specs.declared.Fault.TheVariants.{Shelf as SHELF, Entry as ENTRY, Room as ROOM}
use Rattle.format.specs.Tests.{Outcome, got, refused, Test, no_section, tests, all}
use Rattle.format.specs.Numbers.{Numbered}
use Rattle.format.specs.Shortcut.{sum, verdict_of}
use Rattle.format.specs.Writing.{output_of}
use Rattle.format.proofs.AnswerLaws.{nowhere, numbered}
use Rattle.format.proofs.Chains.{pass, all-Pass, no_true}
use Rattle.shelves.specs.Table.{most_entries, shelf_count, bodies_start, shelf_tests, shelf_entries, shelf_bytes}
use Rattle.shelving.specs.Building.{bodies_by, filed, shelf_build, build_answer, build_output}
use Rattle.shelves.specs.OldFile.{old_fits, old_entries, old_bytes}
use Rattle.shelving.specs.OldForm.{from_old, from_old_answer, from_old_output, to_old, to_old_answer, to_old_output}
use Rattle.shelves.specs.Steps.Apart.{apart, span, table_lengths, old_lengths, Small, ShelfRoom, OldRoom}
use Rattle.shelving.specs.Steps.Filing.{first_bad, bad_entry, Entries, Filed}
use Rattle.shelves.proofs.ApartLaws.{apart_lengths, shelf_size, span_none, span_four, old_long}
use Rattle.shelves.proofs.TableLaws.{shelf_Right, entries_apart, lengths_sum, lengths_count}
use Rattle.shelves.proofs.OldLaws.{OldApart, old_apart}
use Rattle.shelving.proofs.EntryLaws.{bad_some, bad_none, filed_bad, filed_room, filed_all, all_small}
use Rattle.shelving.proofs.CallLaws.{table_wrong}
use Rattle.format.specs.Verdicts.{Verdict, refused_at}
use Rattle.std.specs.Prelude.{Ok}

-- ---- what a call that makes a file comes to

module _ (o : Outcome (List ℕ)) (out : List ℕ) where
  pub file_refused : {f : _} {p : _} {n : ℕ} → o ≡ refused f p → n ≡ p.position → Filed o out (refused_at f n) out
  unfolding output_of
  file_refused {f} e i = record { answer = rw e (ap (refused_at f) i); output = rw e }

  pub file_made : {w x : List ℕ} {n r : ℕ} → o ≡ got w (length w) → Wrote out 0 w n x r → Filed o out (Ok r) x
  unfolding output_of
  file_made {w} {r = r} e g = let l : r ≡ length w = omega (arith, g.next, g.long) in record { answer = rw e (ap Ok l); output = rw e g.content }

-- bodies end to end have no gaps
pub bodies_apart : (ns d : List ℕ) → bodies_by ns d ≡ apart 0 ns d
bodies_apart [] d = refl
bodies_apart (n ∷ ns) d = let e : 0 + n ≡ n = omega arith in rw (bodies_apart ns (drop n d), e)

-- ---- a shelf of entries one after another

module _ (d : List ℕ) (gap : ℕ) (ns : List ℕ) (bytes : ℕ) (E : Entries d gap ns bytes) (out : List ℕ) where
  abbrev es : List (List ℕ)
  es = apart gap ns d

  abbrev made : Outcome (List ℕ)
  made = filed es (shelf_bytes es) (length out)

  inside : span gap ns ≤ length d
  inside = omega (arith, E.whole)

  pub shelve_bad : {n : ℕ} → Some n ≡ bad_entry es → Filed made out (refused_at ENTRY n) out
  shelve_bad e = let (i, b) = bad_some es e in file_refused made out (filed_bad es (shelf_bytes es) (length out) (omega arith)) (omega arith)

  module _ (none : None ≡ bad_entry es) where
    good : first_bad es ≡ length es
    good = bad_none es none

    pub shelve_Small : Small ns
    shelve_Small = record { few = E.few; each = rw (apart_lengths gap ns d inside) at (all_small es good) }

    pub shelve_room : length out < 4 + 8 * length ns + bytes → Filed made out (refused_at ROOM 0) out
    shelve_room k = file_refused made out (filed_room es (shelf_bytes es) (length out) good (omega (arith, shelf_size gap ns d inside, E.total))) refl

    module _ (k : 4 + 8 * length ns + bytes ≤ length out) where
      pub shelve_fits : ShelfRoom d gap ns out
      shelve_fits = record { small = shelve_Small; inside = inside; room = omega (arith, E.total) }

      pub shelve_made : {x : List ℕ} {m r : ℕ} → Wrote out 0 (shelf_bytes es) m x r → Filed made out (Ok r) x
      shelve_made g = file_made made out (filed_all es (shelf_bytes es) (length out) good (omega (arith, shelf_size gap ns d inside, E.total))) g

-- ---- the old form of the entries on a shelf

module _ (s ns : List ℕ) (ok : all (shelf_tests s) ≡ true) (is : ns ≡ table_lengths s) (out : List ℕ) where
  abbrev on : List (List ℕ)
  on = shelf_entries s

  abbrev back : Outcome (List ℕ)
  back = filed on (old_bytes on) (length out)

  as_many : length ns ≡ shelf_count s
  as_many = ap length is ∙ lengths_count s

  pub unshelve_inside : bodies_start (length ns) + span 0 ns ≤ length s
  unshelve_inside = omega (arith, span_none ns, ap sum is, lengths_sum s (shelf_Right s ok), as_many)

  pub on-apart : on ≡ apart 0 ns (drop (bodies_start (length ns)) s)
  on-apart = rw (is, lengths_count s) (entries_apart s (shelf_Right s ok))

  on_lengths : map length on ≡ ns
  on_lengths = rw on-apart (apart_lengths 0 ns (drop (bodies_start (length ns)) s) (omega (arith, length-drop (bodies_start (length ns)) s, unshelve_inside)))

  old_size : length (old_bytes on) ≡ length s - (4 + 4 * length ns)
  old_size = old_long on ∙ omega (arith, ap (span 4) on_lengths, span_four ns, unshelve_sum)
    where
      unshelve_sum : bodies_start (length ns) + sum ns ≡ length s
      unshelve_sum = omega (arith, ap sum is, lengths_sum s (shelf_Right s ok), as_many)

  pub unshelve_bad : {n : ℕ} → Some n ≡ bad_entry on → Filed back out (refused_at ENTRY n) out
  unshelve_bad e = let (i, b) = bad_some on e in file_refused back out (filed_bad on (old_bytes on) (length out) (omega arith)) (omega arith)

  module _ (none : None ≡ bad_entry on) where
    all_good : first_bad on ≡ length on
    all_good = bad_none on none

    pub unshelve_room : length out < length s - (4 + 4 * length ns) → Filed back out (refused_at ROOM 0) out
    unshelve_room k = file_refused back out (filed_room on (old_bytes on) (length out) all_good (omega (arith, old_size))) refl

    module _ (k : length s - (4 + 4 * length ns) ≤ length out) where
      pub unshelve_fits : OldRoom s (bodies_start (length ns)) ns out
      unshelve_fits = record {
        small = record { few = omega (arith, as_many, (shelf_Right s ok).few); each = rw on_lengths at (all_small on all_good) };
        inside = unshelve_inside;
        room = omega (arith, old_size, old_long on ∙ ap (span 4) on_lengths);
      }

      pub unshelve_made : {x : List ℕ} {m r : ℕ} → Wrote out 0 (old_bytes (apart 0 ns (drop (bodies_start (length ns)) s))) m x r → Filed back out (Ok r) x
      unshelve_made g = file_made back out (filed_all on (old_bytes on) (length out) all_good (omega (arith, old_size))) (reword g (ap old_bytes (sym on-apart)) refl)

-- ---- the calls

module _ (o : Outcome (List ℕ)) {out : List ℕ} {v : Verdict} {x : List ℕ} where
  called : Filed o out v x → (v ≡ verdict_of o) × ((x ≡ output_of o out) × Numbered v o)
  called f = (f.answer, (f.output, numbered o f.answer))

module _ (ns d out : List ℕ) where
  pub build_told : {v : Verdict} {x : List ℕ} → Filed (shelf_build ns d (length out)) out v x
      → (v ≡ build_answer ns d out) × ((x ≡ build_output ns d out) × Numbered v (shelf_build ns d (length out)))
  unfolding build_answer build_output
  build_told f = called (shelf_build ns d (length out)) f

  module _ {b : Bool} (e : b ≡ (leb (length ns) most_entries && eqb (sum ns) (length d))) where
    pub build_wrong : b ≡ false → Filed (shelf_build ns d (length out)) out (refused_at SHELF 0) out
    unfolding shelf_build
    build_wrong t = go (leb (length ns) most_entries) refl
      where
        go : (many : Bool) → leb (length ns) most_entries ≡ many → Filed (shelf_build ns d (length out)) out (refused_at SHELF 0) out
        go false m = file_refused (shelf_build ns d (length out)) out {p = nowhere} (rw m) refl
        go true m = let z : eqb (sum ns) (length d) ≡ false = sym (ap (λ (c : Bool). c && eqb (sum ns) (length d)) m) ∙ sym e ∙ t in file_refused (shelf_build ns d (length out)) out {p = nowhere} (rw (m, z)) refl

    module _ (t : b ≡ true) where
      both : (leb (length ns) most_entries ≡ true) × (eqb (sum ns) (length d) ≡ true)
      both = and-true (leb (length ns) most_entries) (eqb (sum ns) (length d)) (sym e ∙ t)

      pub build_Entries : Entries d 0 ns (length d)
      build_Entries =
          let z : sum ns ≡ length d = eqb-true (sum ns) (length d) both.1 in
          record { few = leb-true (length ns) most_entries both.0; whole = span_none ns ∙ z; total = sym z }

      build_is : shelf_build ns d (length out) ≡ filed (apart 0 ns d) (shelf_bytes (apart 0 ns d)) (length out)
      unfolding shelf_build
      build_is = rw (both.0, both.1, bodies_apart ns d)

      pub build_filed : {v : Verdict} {x : List ℕ} → Filed (filed (apart 0 ns d) (shelf_bytes (apart 0 ns d)) (length out)) out v x → Filed (shelf_build ns d (length out)) out v x
      build_filed f = rw build_is f

module _ (s out : List ℕ) where
  pub from_told : {v : Verdict} {x : List ℕ} → Filed (from_old s (length out)) out v x
      → (v ≡ from_old_answer s out) × ((x ≡ from_old_output s out) × Numbered v (from_old s (length out)))
  unfolding from_old_answer from_old_output
  from_told f = called (from_old s (length out)) f

  pub from_wrong : None ≡ cond (old_fits most_entries s) (Some (length (old_entries most_entries s))) None → Filed (from_old s (length out)) out (refused_at SHELF 0) out
  unfolding from_old
  from_wrong e = go (old_fits most_entries s) refl
    where
      go : (b : Bool) → old_fits most_entries s ≡ b → Filed (from_old s (length out)) out (refused_at SHELF 0) out
      go false f = file_refused (from_old s (length out)) out {p = nowhere} (rw f) refl
      go true f = no_true (ap is_some e ∙ rw f)

  module _ {n : ℕ} (e : Some n ≡ cond (old_fits most_entries s) (Some (length (old_entries most_entries s))) None) where
    counted : (old_fits most_entries s ≡ true) × (n ≡ length (old_entries most_entries s))
    counted = go (old_fits most_entries s) refl
      where
        go : (b : Bool) → old_fits most_entries s ≡ b → (old_fits most_entries s ≡ true) × (n ≡ length (old_entries most_entries s))
        go false f = no_true (sym (ap is_some e ∙ rw f))
        go true f = (f, ap (λ (o : Option ℕ). unwrap_or o 0) e ∙ rw f)

    pub from_fits : old_fits most_entries s ≡ true
    from_fits = counted.0

    pub from_count : n ≡ length (old_lengths s)
    unfolding old_lengths
    from_count = counted.1 ∙ sym (length-map (old_entries most_entries s) length)

    old_is : OldApart s (old_entries most_entries s) most_entries
    old_is = old_apart most_entries s from_fits

    pub from_few : n ≤ most_entries
    from_few = omega (arith, counted.1, old_is.few)

    pub from_span : span 4 (old_lengths s) ≡ length s
    unfolding old_lengths
    from_span = old_is.whole

    pub from_Entries : Entries s 4 (old_lengths s) (length s - 4 * n)
    from_Entries = record {
      few = omega (arith, counted.1, old_is.few, from_count);
      whole = from_span;
      total = omega (arith, from_span, span_four (old_lengths s), from_count);
    }

    from_is : from_old s (length out) ≡ filed (apart 4 (old_lengths s) s) (shelf_bytes (apart 4 (old_lengths s) s)) (length out)
    unfolding from_old old_lengths
    from_is = rw from_fits (ap (λ (es : List (List ℕ)). filed es (shelf_bytes es) (length out)) old_is.is)

    pub from_filed : {v : Verdict} {x : List ℕ} → Filed (filed (apart 4 (old_lengths s) s) (shelf_bytes (apart 4 (old_lengths s) s)) (length out)) out v x → Filed (from_old s (length out)) out v x
    from_filed f = rw from_is f

  pub to_told : {v : Verdict} {x : List ℕ} → Filed (to_old s (length out)) out v x
      → (v ≡ to_old_answer s out) × ((x ≡ to_old_output s out) × Numbered v (to_old s (length out)))
  unfolding to_old_answer to_old_output
  to_told f = called (to_old s (length out)) f

  pub to_wrong : all (shelf_tests s) ≡ false → Filed (to_old s (length out)) out (refused_at SHELF 0) out
  unfolding to_old
  to_wrong h =
      let back = filed (shelf_entries s) (old_bytes (shelf_entries s)) (length out) in
      file_refused (to_old s (length out)) out {p = nowhere} (ap (λ (ts : List Test). tests no_section ts back) (sym (append-nil (shelf_tests s))) ∙ table_wrong s [] back h) refl

  pub to_filed : all (shelf_tests s) ≡ true → {v : Verdict} {x : List ℕ} → Filed (filed (shelf_entries s) (old_bytes (shelf_entries s)) (length out)) out v x → Filed (to_old s (length out)) out v x
  unfolding to_old
  to_filed h f = rw (pass no_section (shelf_tests s) (filed (shelf_entries s) (old_bytes (shelf_entries s)) (length out)) (all-Pass (shelf_tests s) h)) f

-- the number of entries of the old form, 65 where it is wrong
pub old_number : (s : List ℕ) → cond (old_fits most_entries s) (length (old_entries most_entries s)) 65 ≡ unwrap_or (cond (old_fits most_entries s) (Some (length (old_entries most_entries s))) None) 65
old_number s = go (old_fits most_entries s)
  where
    go : (b : Bool) → cond b (length (old_entries most_entries s)) 65 ≡ unwrap_or (cond b (Some (length (old_entries most_entries s))) None) 65
    go true = refl
    go false = refl
