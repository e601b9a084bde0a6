-- Beginnings, proved of the definitions: none of an accepted shortcut is accepted, whatever call is asked; what salvage saves of one; and none of a store is a store.
use mathlib.Core.Path.{◌≡◌, refl, sym, ap, ◌∙◌}
use mathlib.Core.List.{List, [], ◌∷◌, ◌++◌, append_assoc}
use mathlib.Core.Bool.{Bool, true, false}
use Prim.Native.Nat.{ℕ, zero, suc, ◌+◌, ◌-◌, ◌≤◌, ◌<◌}
use native.Mathlib.Omega.{arith}
use native.Mathlib.Nat.{add-sub_of_le}
use lib.ListN.{length, take, drop, length-take, length-drop}
use lib.Seq.{length-take-le, take-take, take-length}
use lib.Dec.{leb}
use borrow.Author.Tests.{leb-true, le-leb}
use Rattle.octets.specs.Numbers.{u32_at, number, number_at, little}
use Rattle.octets.proofs.NumberLaws.{number_same, length-little}
use Rattle.format.specs.declared.Profile.{Profile}
use Rattle.format.specs.declared.Profile.TheVariants.{Strict}
use Rattle.format.specs.declared.Fault.TheVariants.{Cut as CUT, Lost as LOST}
use Rattle.format.specs.declared.Record.{Record}
use Rattle.format.specs.declared.Reading.{Reading}
use Rattle.format.specs.declared.Rescue.{Rescue}
use Rattle.format.specs.Numbers.{number_of}
use Rattle.format.specs.Tests.{Test, got, refused}
use Rattle.format.specs.Store.{part_tests, storage_tests, store_tests}
use Rattle.format.specs.Shortcut.{most, Sections, blocks_of, sum, sections, shortcut, no_record, reading}
use Rattle.format.specs.Bodies.{blocks_slot, place_in}
use Rattle.format.specs.Writing.{output_of}
use Rattle.format.specs.Listing.{Row, block_rows, listing}
use Rattle.format.specs.Demands.{Accepts, Refuses}
use Rattle.format.specs.Target.{target, target_answer, target_output}
use Rattle.format.specs.Key.{key, key_answer, key_output}
use Rattle.format.specs.StoreList.{store_list, store_list_answer, store_list_output}
use Rattle.format.specs.Moving.{to_unicode, to_unicode_answer, to_unicode_output, to_byte_strings, to_bytes_answer, to_bytes_output}
use Rattle.format.specs.Salvage.{at_block, before, refused_by, rescue_of, rescue, rescued, salvaging, salvage_verdict, salvage_answer, salvage_output, Saved, Lost}
use Rattle.format.specs.Beginnings.{BeginningStopped, BeginningSaved}
use Rattle.format.proofs.Bools.{by_order}
use Rattle.format.proofs.Chains.{Pass, drop-take}
use Rattle.format.proofs.StoreLaws.{parts_split}
use Rattle.format.proofs.BlockLaws.{blocks_Walked}
use Rattle.format.proofs.FoundLaws.{read_Walk}
use Rattle.format.proofs.AcceptedLaws.{Whole, Read, accepted_Read, shortcut-Whole, refused_read}
use Rattle.format.proofs.Demands.{beginning_cut}
use Rattle.format.proofs.SharedLaws.{sections-Shared}
use Rattle.format.proofs.SalvageLaws.{front_rows, body_rows, rows_split, body_longer, sections_end}
use Rattle.format.proofs.SalvageDemands.{rescue_is, rescue-Saves, unfit_Lost, Lost-exactly, with_terminal}
use Rattle.format.proofs.SalvageKeyDemands.{Saved-key}
use Rattle.format.proofs.BeginningLaws.{sum-append, next_size, Hit, sections-Hit}
use Rattle.format.specs.Verdicts.{refused_at}
use Rattle.std.specs.Prelude.{Option, Some, None, Ok}

-- ---- every call refuses a proper beginning of an accepted shortcut with CUT, at a position not after the cut, and touches no buffer

pub beginning_stopped : (profile : Profile) (s : List ℕ) (r : Record) → Accepts profile s r → (k : ℕ) → k < length s → BeginningStopped profile s k
unfolding Refuses listing target target_answer target_output key key_answer key_output store_list store_list_answer store_list_output to_unicode to_unicode_answer to_unicode_output to_byte_strings to_bytes_answer to_bytes_output output_of
beginning_stopped profile s r e k h =
    let z = beginning_cut profile s r e k h in
    let i = refused_read profile (take k s) (ap (λ (x : Reading). x.verdict) z.refusal) in
    record {
      position = z.position;
      early = z.early;
      stopped = record {
        read = z.refusal;
        listed = rw i.is;
        target = λ out. (rw (i.is, i.told), rw i.is);
        key = λ out. (rw (i.is, i.told), rw i.is);
        stores = λ out. (rw (i.is, i.told), rw i.is);
        to_unicode = λ out. (rw (i.is, i.told), rw i.is);
        to_bytes = λ out. (rw (i.is, i.told), rw i.is);
      };
    }

-- so none of them begins another
pub no_other_begins : (profile : Profile) (s t : List ℕ) (r q : Record) → Accepts profile s r → Accepts profile t q → take (length s) t ≡ s → s ≡ t
unfolding Accepts Refuses
no_other_begins profile s t r q a b e =
    by_order (length t) (length s)
    (λ h.
    let m : length s ≤ length t = omega (arith, length-take (length s) t, ap (λ (l : List ℕ). length l) e) in
    let n : length s ≡ length t = omega arith in
    sym e ∙ ap (λ (i : ℕ). take i t) n ∙ take-length t)
    (λ h.
    let z = beginning_cut profile t q b (length s) h in
    let y : reading profile s ≡ record { verdict = refused_at CUT z.position; held = no_record } = rw e at z.refusal in
    let v : Ok (length s) ≡ refused_at CUT z.position = ap (λ (x : Reading). x.verdict) (sym a ∙ y) in
    absurd (let i : ◌≡◌ {A = ℕ} 0 1 = cc in omega arith))

-- a zero size
zero_number : u32_at (little 4 0) 0 ≡ 0
unfolding number_at number little
zero_number = refl

-- ---- what salvage makes of a beginning: nothing where the cut lies before the blocks

module _ (s : List ℕ) (r : Record) (a : Accepts Strict s r) where
  -- where the blocks start, or the terminal if there are none
  abbrev b : ℕ
  b = (place_in r blocks_slot).at

  pub beginning_lost : (k : ℕ) → k < b → (out : List ℕ) → salvage_verdict (salvage_answer (take k s) out) ≡ refused_at LOST 0
  unfolding Accepts
  beginning_lost k h out = (Lost-exactly (take k s) out).1 (go (rescue (take k s)) refl)
    where
      t : List ℕ
      t = take k s

      kept : (q : Rescue) → rescue t ≡ Some q → leb (length (rescued t q)) most ≡ true → b ≤ k
      kept q e l =
          let w : List ℕ = rescued t q in
          let n : ℕ = q.kept in
          let x : Saved t n w = ((rescue-Saves t).saves q e).1 (leb-true (length w) most l) in
          let y = accepted_Read Strict w x.held (length w) x.accepted in
          let z = accepted_Read Strict s r (length s) a in
          let i = (shortcut-Whole Strict w y.sections (length w) y.is).read in
          let j = (shortcut-Whole Strict s z.sections (length s) z.is).read in
          let f : n ≤ k = omega (arith, x.within, length-take k s) in
          let g : length w - 4 ≤ n = omega (arith, x.reach) in
          let u : take n w ≡ take n s = x.begins ∙ take-take n k s f in
          let v : take (length w - 4) s ≡ take (length w - 4) w = sym (take-take (length w - 4) n s g) ∙ ap (take (length w - 4)) (sym u) ∙ take-take (length w - 4) n w g in
          let (header, (items, (info, (name, (relative, (workdir, (arguments, (icon, ((there, start), longer))))))))) = sections-Shared Strict w y.sections (length w) i s z.sections (length s) j v in
          let c : (blocks_of z.sections).start ≡ b = ap (λ (q : Record). (place_in q blocks_slot).at) z.held in
          omega (arith, start, c, (sections_end w y.sections (length w) i).1, x.reach)

      by : (q : Rescue) → rescue t ≡ Some q → (o : Bool) → leb (length (rescued t q)) most ≡ o → Lost t
      by q e true l = absurd (omega (arith, kept q e l))
      by q e false l = unfit_Lost t (rw e l)

      go : (o : Option Rescue) → rescue t ≡ o → Lost t
      go None e = unfit_Lost t (rw e)
      go (Some q) e = by q e (leb (length (rescued t q)) most) refl

-- ---- and else all that stands before the block that the cut hit

-- the row of that block, or of the terminal
next_row : (p : ℕ) (rest : List ℕ) → (x : Row) × ((more : List Row) × ((block_rows p rest ≡ x ∷ more) × ((x.start ≡ p) × (x.len ≡ next_size rest))))
next_row p [] = (record { name = 9; start = p; len = 4 }, ([], (refl, (refl, refl))))
next_row p (n ∷ ns) = (record { name = 8; start = p; len = n }, (block_rows (p + n) ns, (refl, (refl, refl))))

at_blocks : (k : ℕ) → 8 ≤ k → k ≤ 9 → at_block k ≡ true
at_blocks k a b = by_order 9 k (λ h. let e : k ≡ 9 = omega arith in rw e) (λ h. let e : k ≡ 8 = omega arith in rw e)

module _ (s : List ℕ) (r : Record) (a : Accepts Strict s r) (k : ℕ) (l : k < length s) (reads : Read Strict s r (length s)) (first : (blocks_of reads.sections).start ≤ k) where
  abbrev t : List ℕ
  t = take k s

  long : length t ≡ k
  long = length-take-le k s (omega arith)

  abbrev c : Sections
  c = reads.sections

  whole : Whole Strict s c (length s)
  whole = shortcut-Whole Strict s c (length s) reads.is

  abbrev p : ℕ
  p = (blocks_of c).start

  hit : Hit p (k - p) (blocks_of c).read (sections Strict 0 t)
  hit = sections-Hit Strict s c (length s) whole.read k first l

  -- what is kept
  abbrev n : ℕ
  n = p + sum hit.whole

  kept : n ≤ k
  kept = omega (arith, hit.within, first)

  -- the whole shortcut has a terminal after that
  behind : n + 4 ≤ length s
  behind =
      let w = blocks_Walked [] p (drop p s) (blocks_of c).read (blocks_of c).len (read_Walk Strict s c (length s) whole.read) in
      let e = (sections_end s c (length s) whole.read).1 in
      omega (arith, e, ap sum hit.is, sum-append hit.whole hit.rest)

  refusal : shortcut Strict t ≡ refused CUT hit.spot
  unfolding shortcut
  refusal = rw (le-leb (length t) most (omega (arith, long, whole.limit)), hit.refusal)

  keeps : rescue t ≡ before 2 n
  unfolding rescue_of refused_by number_of
  keeps = rescue_is t (refused CUT hit.spot) refusal ∙ rw (at_blocks hit.spot.section hit.late hit.last, hit.start)

  same : take n t ++ little 4 0 ≡ take n s ++ little 4 0
  same = ap (λ (x : List ℕ). x ++ little 4 0) (take-take n k s kept)

  saves : (room : ℕ) → n + 4 ≤ room → salvaging t room ≡ got (take n s ++ little 4 0) (n + 4)
  unfolding salvaging
  saves room m =
      let v : n ≤ length t = omega (arith, long, kept) in
      rw (keeps, with_terminal t n v, le-leb (n + 4) most (omega (arith, behind, whole.limit)), le-leb (n + 4) room m, same)

  saved : Saved t n (take n s ++ little 4 0)
  saved =
      let v : n ≤ length t = omega (arith, long, kept) in
      rw same at (((rescue-Saves t).saves (record { number = 2; kept = n; mended = true }) keeps).1 (rw (with_terminal t n v) (omega (arith, behind, whole.limit))))

  cut_saved : BeginningSaved s k
  unfolding listing salvage_answer salvage_output output_of
  cut_saved =
      let (x, (more, (e, (f, g)))) = next_row n hit.rest in
      record {
        before = front_rows c ++ body_rows p hit.whole;
        hit = x;
        after = more;
        listed =
            rw reads.is (
            rows_split c p (hit.whole ++ hit.rest) refl hit.is
            ∙ ap (λ (y : List Row). front_rows c ++ y) (body_longer p hit.whole hit.rest ∙ ap (λ (y : List Row). body_rows p hit.whole ++ y) e)
            ∙ sym (append_assoc (front_rows c) (body_rows p hit.whole) (x ∷ more))
            );
        starts = omega (arith, f, kept);
        ends = omega (arith, f, g, hit.next, first);
        answer = λ out m. rw f (rw (saves (length out) (omega (arith, f)), keeps, long));
        output = λ out m. rw f (rw (saves (length out) (omega (arith, f))));
        key = rw f (Saved-key t n (take n s ++ little 4 0) saved s r a (sym (take-take n k s kept)));
      }

pub beginning_saved : (s : List ℕ) (r : Record) → Accepts Strict s r → (k : ℕ) → (place_in r blocks_slot).at ≤ k → k < length s → BeginningSaved s k
unfolding Accepts
beginning_saved s r a k h l =
    let reads = accepted_Read Strict s r (length s) a in
    cut_saved s r a k l reads (omega (arith, ap (λ (q : Record). (place_in q blocks_slot).at) reads.held))

-- ---- stores

-- a beginning of parts has no end of its own; j bounds what is left
part_beginning : (least : ℕ) (own : ℕ → List ℕ → List Test) (j i : ℕ) (l : List ℕ) (m : ℕ) → length l ≤ j → Pass (part_tests least own i 0 l) → m < length l → Pass (part_tests least own i 0 (take m l)) → ⊥
part_beginning least own zero i l m b p h q = omega arith
part_beginning least own (suc j) i l m b p h q =
    let x : length (take m l) ≡ m = length-take-le m l (omega arith) in
    parts_split least own i l p
    (λ e. parts_split least own i (take m l) q
    (λ f. omega (arith, x, ap (λ (y : List ℕ). length y) e, ap (λ (y : List ℕ). length y) f, length-little 4 0))
    (λ n a b c d four o w. omega (arith, x, ap (λ (y : List ℕ). length y) e, length-little 4 0)))
    (λ n a pos low fits four o w.
    parts_split least own i (take m l) q
    (λ f.
    let z : u32_at (take m l) 0 ≡ u32_at l 0 = number_same 4 4 (take m l) l 0 (take-take 4 m l (omega (arith, x, ap (λ (y : List ℕ). length y) f, length-little 4 0))) (omega arith) in
    omega (arith, a, z, ap (λ (y : List ℕ). u32_at y 0) f, zero_number))
    (λ n₂ a₂ pos₂ low₂ fits₂ four₂ o₂ w₂.
    let z : u32_at (take m l) 0 ≡ u32_at l 0 = number_same 4 4 (take m l) l 0 (take-take 4 m l (omega arith)) (omega arith) in
    let s : n₂ ≡ n = a₂ ∙ z ∙ sym a in
    let k : n ≤ m = omega arith in
    let d : drop n (take m l) ≡ take (m - n) (drop n l) = rw add-sub_of_le at (drop-take n (m - n) l) in
    part_beginning least own j (i + n) (drop n l) (m - n) (omega (arith, length-drop n l)) w (omega (arith, length-drop n l)) (rw (s, d) at w₂)))

-- no proper beginning of a property store is a store
pub store_beginning : (i : ℕ) (l : List ℕ) (m : ℕ) → Pass (store_tests i l) → m < length l → Pass (store_tests i (take m l)) → ⊥
unfolding store_tests
store_beginning i l m p h q = part_beginning 28 storage_tests (length l) i l m (omega arith) p h q
