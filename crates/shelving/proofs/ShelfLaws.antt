-- What an accepted outcome says of the file and its entries, and what it leaves in a buffer.
use mathlib.Core.Path.{◌≡◌, refl, sym, ap, ◌∙◌}
use mathlib.Core.List.{List, [], ◌∷◌, ◌++◌, map}
use mathlib.Core.Bool.{true}
use Prim.Native.Nat.{ℕ, ◌≤◌, ◌<◌}
use native.Mathlib.Omega.{arith}
use lib.ListN.{length, take, length-map}
use lib.Dec.{leb, ltb, eqb}
use borrow.Author.Tests.{leb-true, ltb-true}
use Rattle.format.specs.declared.Place.{Place}
use Rattle.format.specs.declared.Fault.TheVariants.{Shelf as SHELF, Room as ROOM}
use Rattle.format.specs.Tests.{Outcome, got, refused, Test, ◌else◌at◌, no_section, all}
use Rattle.format.specs.Shortcut.{sum, verdict_of}
use Rattle.format.specs.Writing.{output_of}
use Rattle.format.proofs.Chains.{passed, Pass-split, Pass-all, got_elim}
use Rattle.shelves.specs.Table.{most_entries, shelf_count, shelf_tests, shelf_entries, shelf_row, shelf_bytes}
use Rattle.shelving.specs.Shelf.{entry_tests, shelf, shelf_entry}
use Rattle.shelving.specs.Building.{filed, bodies_by, shelf_build}
use Rattle.shelves.specs.OldFile.{old_fits, old_entries, old_bytes}
use Rattle.shelving.specs.OldForm.{from_old, to_old}
use Rattle.shelving.specs.Steps.Filing.{first_bad}
use Rattle.shelves.specs.Steps.Apart.{Small}
use Rattle.shelves.proofs.PutLaws.{front_put}
use Rattle.shelves.proofs.TableLaws.{shelf_Right, entries_count}
use Rattle.shelving.proofs.EntryLaws.{all_good, all_small}
use Rattle.shelving.proofs.CallLaws.{shelf_good}
use Rattle.shelving.proofs.RoundLaws.{ShelfOf, built}
use Rattle.shelving.specs.Promises.{Leaves}
use Rattle.std.specs.Prelude.{Ok}

-- ---- what an accepted outcome says

-- the entries are all good, and few
pub record Good (es : List (List ℕ)) : Type 0 where
  pub each : first_bad es ≡ length es
  pub few : length es ≤ most_entries

pub small : {es : List (List ℕ)} → Good es → Small (map length es)
small {es} g = record { few = omega (arith, g.few, length-map es length); each = all_small es g.each }

-- a shelf
pub record IsShelf (s : List ℕ) (es : List (List ℕ)) (n : ℕ) : Type 0 where
  pub right : all (shelf_tests s) ≡ true
  pub entries : es ≡ shelf_entries s
  pub count : n ≡ length es
  pub good : Good es

pub shelf_is : (s : List ℕ) {es : List (List ℕ)} {n : ℕ} → shelf s ≡ got es n → IsShelf s es n
unfolding shelf
shelf_is s {es} {n} e =
    let (p, q) = passed no_section (shelf_tests s ++ entry_tests 0 (shelf_entries s)) (got (shelf_entries s) (shelf_count s)) e in
    let (a, b) = Pass-split (shelf_tests s) (entry_tests 0 (shelf_entries s)) p in
    let ok = Pass-all (shelf_tests s) a in
    got_elim (λ es n. IsShelf s es n) q
    (record {
      right = ok;
      entries = refl;
      count = sym (entries_count s);
      good = record { each = all_good 0 (shelf_entries s) b; few = omega (arith, entries_count s, (shelf_Right s ok).few) };
    })

-- a file w of entries
pub record IsFile (es : List (List ℕ)) (made w : List ℕ) (n room : ℕ) : Type 0 where
  pub each : first_bad es ≡ length es
  pub is : made ≡ w
  pub long : length w ≡ n
  pub fits : length w ≤ room

pub file_is : (es : List (List ℕ)) (made : List ℕ) (room : ℕ) {w : List ℕ} {n : ℕ} → filed es made room ≡ got w n → IsFile es made w n room
unfolding filed
file_is es made room e =
    let (p, q) = passed no_section (entry_tests 0 es ++ leb (length made) room else ROOM at 0 ∷ []) (got made (length made)) e in
    let (a, b) = Pass-split (entry_tests 0 es) (leb (length made) room else ROOM at 0 ∷ []) p in
    got_elim (λ w n. IsFile es made w n room) q
    (record { each = all_good 0 es a; is = refl; long = refl; fits = leb-true (length made) room b.0 })

-- how long a file is that a call makes
pub build_long : (ns d : List ℕ) (room : ℕ) {w : List ℕ} {n : ℕ} → shelf_build ns d room ≡ got w n → n ≡ length w
unfolding shelf_build
build_long ns d room e =
    let es : List (List ℕ) = bodies_by ns d in
    let (p, q) = passed no_section (leb (length ns) most_entries else SHELF at 0 ∷ eqb (sum ns) (length d) else SHELF at 0 ∷ []) (filed es (shelf_bytes es) room) e in
    sym (file_is es (shelf_bytes es) room q).long

pub from_long : (s : List ℕ) (room : ℕ) {w : List ℕ} {n : ℕ} → from_old s room ≡ got w n → n ≡ length w
unfolding from_old
from_long s room e =
    let es : List (List ℕ) = old_entries most_entries s in
    let (p, q) = passed no_section (old_fits most_entries s else SHELF at 0 ∷ []) (filed es (shelf_bytes es) room) e in
    sym (file_is es (shelf_bytes es) room q).long

pub to_long : (s : List ℕ) (room : ℕ) {w : List ℕ} {n : ℕ} → to_old s room ≡ got w n → n ≡ length w
unfolding to_old
to_long s room e =
    let es : List (List ℕ) = shelf_entries s in
    let (p, q) = passed no_section (shelf_tests s) (filed es (old_bytes es) room) e in
    sym (file_is es (old_bytes es) room q).long

-- a fetch
pub record IsEntry (s : List ℕ) (k : ℕ) (b : Place) (n : ℕ) : Type 0 where
  pub right : all (shelf_tests s) ≡ true
  pub on : k < shelf_count s
  pub each : first_bad (shelf_entries s) ≡ length (shelf_entries s)
  pub place : b ≡ shelf_row s k
  pub long : n ≡ (shelf_row s k).len
  pub is : got (shelf_row s k) (shelf_row s k).len ≡ got b n

pub entry_is : (s : List ℕ) (k : ℕ) {b : Place} {n : ℕ} → shelf_entry s k ≡ got b n → IsEntry s k b n
unfolding shelf_entry
entry_is s k {b} {n} e =
    let rest : List Test = ltb k (shelf_count s) else SHELF at 0 ∷ entry_tests 0 (shelf_entries s) in
    let (p, q) = passed no_section (shelf_tests s ++ rest) (got (shelf_row s k) (shelf_row s k).len) e in
    let (x, y) = Pass-split (shelf_tests s) rest p in
    got_elim (λ b n. IsEntry s k b n) q
    (record {
      right = Pass-all (shelf_tests s) x;
      on = ltb-true k (shelf_count s) y.0;
      each = all_good 0 (shelf_entries s) y.1;
      place = refl;
      long = refl;
      is = refl;
    })

-- a shelf of good entries
pub of_Good : (es : List (List ℕ)) → Good es → shelf (shelf_bytes es) ≡ got es (length es)
of_Good es g =
    let x : ShelfOf (shelf_bytes es) es = built es (small g) in
    let good : first_bad (shelf_entries (shelf_bytes es)) ≡ length (shelf_entries (shelf_bytes es)) = rw x.entries g.each in
    shelf_good (shelf_bytes es) x.right good ∙ rw (x.entries, x.count)

-- ---- what a call answers and leaves

-- a success has a value
pub record Gives {A : Type 0} (o : Outcome A) (n : ℕ) : Type 0 where
  pub value : A
  pub is : o ≡ got value n

pub gives : {A : Type 0} (o : Outcome A) {n : ℕ} → verdict_of o ≡ Ok n → Gives o n
gives (got a m) {n} e = let q : m ≡ n = cc in record { value = a; is = ap (got a) q }
gives (refused f p) e = absurd (let z : ◌≡◌ {A = ℕ} 0 1 = cc in omega arith)

module _ (out : List ℕ) {o : Outcome (List ℕ)} {w : List ℕ} where
  pub leaves : o ≡ got w (length w) → Leaves (verdict_of o) (output_of o out) w
  unfolding output_of
  leaves e = record { answer = rw e; front = rw e (front_put out w refl refl) }

  -- and what is taken from the front is that file
  pub taken : {n : ℕ} → o ≡ got w n → n ≡ length w → take n (output_of o out) ≡ w
  unfolding output_of
  taken e h = rw e (front_put out w refl h)
