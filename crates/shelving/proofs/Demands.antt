-- The promises of the shelf: what is built is a shelf of the bodies, every shelf is built from its entries, the old form goes there and back,
-- and a fetch shows the entry. First over the definitions, then of what the calls answer and leave in their buffers.
use mathlib.Core.Path.{◌≡◌, refl, sym, ap, ◌∙◌}
use mathlib.Core.List.{List, [], ◌∷◌, map}
use mathlib.Core.Bool.{true}
use Prim.Native.Nat.{ℕ, ◌≤◌, ◌<◌}
use native.Mathlib.Omega.{arith}
use lib.ListN.{length, take, get_or, length-map}
use lib.Dec.{leb, eqb}
use borrow.Author.Tests.{leb-true, le-leb, eq-eqb}
use Rattle.octets.specs.Numbers.{Bytes}
use Rattle.format.specs.declared.Place.{Place}
use Rattle.format.specs.declared.Fault.TheVariants.{Shelf as SHELF}
use Rattle.format.specs.Tests.{Outcome, got, refused, ◌else◌at◌, no_section, no_place}
use Rattle.format.specs.Shortcut.{sum}
use Rattle.format.specs.Contents.{bytes_at}
use Rattle.format.specs.Writing.{end_to_end}
use Rattle.format.proofs.AnswerLaws.{nowhere}
use Rattle.format.proofs.Chains.{passed, pass, Pass-all, all-Pass}
use Rattle.shelves.specs.Table.{most_entries, shelf_count, shelf_tests, shelf_entries, shelf_row, shelf_bytes}
use Rattle.shelving.specs.Shelf.{shelf, shelf_answer, shelf_entry, shelf_one, fetched_by, fetch_verdict, entry_answer, one_answer, entry_shown}
use Rattle.shelving.specs.Building.{filed, bodies_by, shelf_build, build_answer, build_output}
use Rattle.shelves.specs.OldFile.{old_fits, old_entries, old_bytes}
use Rattle.shelving.specs.OldForm.{from_old, from_old_answer, from_old_output, to_old, to_old_answer, to_old_output}
use Rattle.shelving.specs.Steps.Filing.{first_bad}
use Rattle.shelves.proofs.TableLaws.{shelf_Right, entries_count, row_long}
use Rattle.shelves.proofs.OldLaws.{old_apart}
use Rattle.shelving.proofs.EntryLaws.{all_small, filed_all}
use Rattle.shelving.proofs.CallLaws.{row_entry, row_good, entry_is_off, entry_is_good, one_is_good}
use Rattle.shelves.proofs.ApartLaws.{length_end, apart_count}
use Rattle.shelving.proofs.FileLaws.{bodies_apart}
use Rattle.shelving.proofs.RoundLaws.{ShelfOf, built, rebuilt, bodies_cut, old_of, old_back}
use Rattle.shelving.specs.Promises.{Leaves}
use Rattle.shelving.proofs.ShelfLaws.{Good, small, shelf_is, file_is, build_long, from_long, to_long, entry_is, of_Good, gives, leaves, taken}
use Rattle.std.specs.Prelude.{Ok}
use Rattle.std.specs.Result.{result_unwrap_or}

-- ---- the promises over the definitions

-- what is built is a shelf whose entries are those bodies
pub built_shelf : (ns d : List ℕ) (room : ℕ) {w : List ℕ} {n : ℕ} → shelf_build ns d room ≡ got w n → shelf w ≡ got (bodies_by ns d) (length ns)
unfolding shelf_build
built_shelf ns d room {w} e =
    let es : List (List ℕ) = bodies_by ns d in
    let (p, q) = passed no_section (leb (length ns) most_entries else SHELF at 0 ∷ eqb (sum ns) (length d) else SHELF at 0 ∷ []) (filed es (shelf_bytes es) room) e in
    let f = file_is es (shelf_bytes es) room q in
    let count : length es ≡ length ns = ap length (bodies_apart ns d) ∙ apart_count 0 ns d in
    let g : Good es = record { each = f.each; few = omega (arith, leb-true (length ns) most_entries p.0) } in
    rw (← f.is) (of_Good es g ∙ ap (got es) count)

-- every accepted shelf is built from its entries, their bodies end to end
pub shelf_built : (s : List ℕ) → Bytes s → {es : List (List ℕ)} {n : ℕ} → shelf s ≡ got es n → (room : ℕ) → length s ≤ room
    → shelf_build (map length es) (end_to_end es) room ≡ got s (length s)
unfolding shelf_build
shelf_built s b {es} e room h =
    let i = shelf_is s e in
    let is : shelf_bytes es ≡ s = ap shelf_bytes i.entries ∙ rebuilt s b (shelf_Right s i.right) in
    let few : leb (length (map length es)) most_entries ≡ true = le-leb (length (map length es)) most_entries (omega (arith, length-map es length, i.good.few)) in
    let sums : eqb (sum (map length es)) (length (end_to_end es)) ≡ true = eq-eqb (sum (map length es)) (length (end_to_end es)) (sym (length_end es)) in
    rw (few, sums, bodies_cut es, is) (filed_all es s room i.good.each h)

-- from the old form to a shelf and back: the same bytes
pub there_and_back : (o : List ℕ) → Bytes o → (room : ℕ) {w : List ℕ} {n : ℕ} → from_old o room ≡ got w n → (again : ℕ) → length o ≤ again → to_old w again ≡ got o (length o)
unfolding from_old to_old
there_and_back o b room {w} e again h =
    let es : List (List ℕ) = old_entries most_entries o in
    let (p, q) = passed no_section (old_fits most_entries o else SHELF at 0 ∷ []) (filed es (shelf_bytes es) room) e in
    let f = file_is es (shelf_bytes es) room q in
    let g : Good es = record { each = f.each; few = (old_apart most_entries o p.0).few } in
    let x : ShelfOf (shelf_bytes es) es = built es (small g) in
    let is : old_bytes es ≡ o = old_back most_entries o b p.0 in
    rw (← f.is, x.entries, is) (pass no_section (shelf_tests (shelf_bytes es)) (filed es o again) (all-Pass (shelf_tests (shelf_bytes es)) x.right) ∙ filed_all es o again f.each h)

-- from a shelf to the old form and back: the same bytes
pub back_and_there : (s : List ℕ) → Bytes s → (room : ℕ) {o : List ℕ} {n : ℕ} → to_old s room ≡ got o n → (again : ℕ) → length s ≤ again → from_old o again ≡ got s (length s)
unfolding from_old to_old
back_and_there s b room {o} e again h =
    let es : List (List ℕ) = shelf_entries s in
    let (p, q) = passed no_section (shelf_tests s) (filed es (old_bytes es) room) e in
    let r = shelf_Right s (Pass-all (shelf_tests s) p) in
    let f = file_is es (old_bytes es) room q in
    let (x, y) = old_of most_entries es (omega (arith, entries_count s, r.few)) (all_small es f.each) in
    rw (← f.is, x, y, rebuilt s b r) (filed_all es s again f.each h)

-- fetching shows exactly the entry; a number that is not on the shelf is SHELF
pub fetch_shows : (s : List ℕ) {es : List (List ℕ)} {n : ℕ} → shelf s ≡ got es n → (k : ℕ) → k < n
    → (shelf_entry s k ≡ got (shelf_row s k) (length (get_or es k []))) × (bytes_at s (shelf_row s k) ≡ get_or es k [])
fetch_shows s {es} {n} e k h =
    let i = shelf_is s e in
    let on : k < shelf_count s = omega (arith, i.count, ap length i.entries, entries_count s) in
    let good : first_bad (shelf_entries s) ≡ length (shelf_entries s) = rw i.entries at i.good.each in
    let shown : bytes_at s (shelf_row s k) ≡ get_or es k [] = row_entry s k ∙ ap (λ (l : List (List ℕ)). get_or l k []) (sym i.entries) in
    let long : (shelf_row s k).len ≡ length (get_or es k []) = sym (row_long s (shelf_Right s i.right) k on) ∙ ap length shown in
    (entry_is_good s k i.right on good ∙ ap (got (shelf_row s k)) long, shown)

pub not_on_shelf : (s : List ℕ) {es : List (List ℕ)} {n : ℕ} → shelf s ≡ got es n → (k : ℕ) → n ≤ k → shelf_entry s k ≡ refused SHELF nowhere
not_on_shelf s e k h =
    let i = shelf_is s e in
    entry_is_off s k i.right (omega (arith, i.count, ap length i.entries, entries_count s))

-- wherever a fetch is accepted, one that tests the asked entry alone gives the same
pub one_is_entry : (s : List ℕ) (k : ℕ) {b : Place} {n : ℕ} → shelf_entry s k ≡ got b n → shelf_one s k ≡ got b n
one_is_entry s k e =
    let i = entry_is s k e in
    one_is_good s k i.right i.on (row_good s k i.each i.on) ∙ i.is

-- ---- the promises of the calls: what they answer, and what stands in the buffers afterwards

pub built_answered : (ns d out : List ℕ) {n : ℕ} → build_answer ns d out ≡ Ok n
    → shelf (take n (build_output ns d out)) ≡ got (bodies_by ns d) (length ns)
unfolding build_answer build_output
built_answered ns d out e =
    let g = gives (shelf_build ns d (length out)) e in
    rw (taken out g.is (build_long ns d (length out) g.is)) (built_shelf ns d (length out) g.is)

pub shelf_answered : (s : List ℕ) → Bytes s → {n : ℕ} → shelf_answer s ≡ Ok n → (out : List ℕ) → length s ≤ length out
    → let es = shelf_entries s in Leaves (build_answer (map length es) (end_to_end es) out) (build_output (map length es) (end_to_end es) out) s
unfolding shelf_answer build_answer build_output
shelf_answered s b {n} e out h =
    let g = gives (shelf s) e in
    let is : g.value ≡ shelf_entries s = (shelf_is s g.is).entries in
    leaves out (shelf_built s b (g.is ∙ ap (λ (es : List (List ℕ)). got es n) is) (length out) h)

pub there_answered : (o : List ℕ) → Bytes o → (out : List ℕ) {n : ℕ} → from_old_answer o out ≡ Ok n → (again : List ℕ) → length o ≤ length again
    → let w = take n (from_old_output o out) in Leaves (to_old_answer w again) (to_old_output w again) o
unfolding from_old_answer from_old_output to_old_answer to_old_output
there_answered o b out e again h =
    let g = gives (from_old o (length out)) e in
    rw (taken out g.is (from_long o (length out) g.is)) (leaves again (there_and_back o b (length out) g.is (length again) h))

pub back_answered : (s : List ℕ) → Bytes s → (out : List ℕ) {n : ℕ} → to_old_answer s out ≡ Ok n → (again : List ℕ) → length s ≤ length again
    → let w = take n (to_old_output s out) in Leaves (from_old_answer w again) (from_old_output w again) s
unfolding from_old_answer from_old_output to_old_answer to_old_output
back_answered s b out e again h =
    let g = gives (to_old s (length out)) e in
    rw (taken out g.is (to_long s (length out) g.is)) (leaves again (back_and_there s b (length out) g.is (length again) h))

-- the entry is shown, with its own length
pub entry_answered : (s : List ℕ) (k : ℕ) {n : ℕ} → fetch_verdict (entry_answer s k) ≡ Ok n → (entry_shown s k ≡ get_or (shelf_entries s) k []) × (n ≡ length (entry_shown s k))
unfolding entry_answer entry_shown
entry_answered s k {n} e = go (shelf_entry s k) refl e
  where
    go : (o : Outcome Place) → shelf_entry s k ≡ o → fetch_verdict (fetched_by o) ≡ Ok n → (bytes_at s (result_unwrap_or (fetched_by o) no_place) ≡ get_or (shelf_entries s) k []) × (n ≡ length (bytes_at s (result_unwrap_or (fetched_by o) no_place)))
    go (got b m) i f =
        let x = entry_is s k i in
        let e : b ≡ shelf_row s k = x.place in
        let q : b.len ≡ n = cc in
        (rw e (row_entry s k), rw e (sym (rw e at q) ∙ sym (row_long s (shelf_Right s x.right) k x.on)))
    go (refused f p) i g = absurd (let z : ◌≡◌ {A = ℕ} 0 1 = cc in omega arith)

pub one_answered : (s : List ℕ) (k : ℕ) {n : ℕ} → fetch_verdict (entry_answer s k) ≡ Ok n → one_answer s k ≡ entry_answer s k
unfolding entry_answer one_answer
one_answered s k {n} e = go (shelf_entry s k) refl e
  where
    go : (o : Outcome Place) → shelf_entry s k ≡ o → fetch_verdict (fetched_by o) ≡ Ok n → fetched_by (shelf_one s k) ≡ fetched_by o
    go (got b m) i f = rw (one_is_entry s k i)
    go (refused f p) i g = absurd (let z : ◌≡◌ {A = ℕ} 0 1 = cc in omega arith)
