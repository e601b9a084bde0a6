-- The calls on a shortcut's store: one law for each way out.
use mathlib.Core.Path.{◌≡◌, refl, sym, ap, ◌∙◌}
use mathlib.Core.List.{List, []}
use mathlib.Core.Bool.{true, cond}
use Prim.Native.Nat.{ℕ, ◌+◌, ◌-◌, ◌/◌, ◌^◌, ◌≤◌, ◌<◌}
use native.Mathlib.Omega.{arith}
use lib.ListN.{length, drop, get_or, length-drop}
use lib.Seq.{length-take-le}
use lib.Dec.{leb}
use borrow.Author.Tests.{le-leb, lt-leb}
use Rattle.octets.specs.Parts.{put}
use Rattle.octets.specs.Steps.Puts.{part}
use Rattle.octets.proofs.PartLaws.{part_in}
use Rattle.octets.proofs.WroteLaws.{put-nil}
use Rattle.format.specs.declared.Profile.{Profile}
use Rattle.format.specs.declared.Fault.TheVariants.{Room as ROOM}
use Rattle.format.specs.declared.Place.{Place}
use Rattle.format.specs.declared.Record.{Record}
use Rattle.format.specs.declared.Refusal.{Refusal}
use Rattle.format.specs.declared.Reading.{Reading}
use Rattle.format.specs.declared.StoreRow.{StoreRow}
use Rattle.format.specs.Tests.{got, refused, all, no_place}
use Rattle.format.specs.Numbers.{Numbered}
use Rattle.format.specs.Store.{store_tests}
use Rattle.format.specs.Blocks.{blocks, first_place}
use Rattle.format.specs.Shortcut.{shortcut, blocks_of, reading}
use Rattle.format.specs.Bodies.{place_in, blocks_slot}
use Rattle.format.specs.Contents.{bytes_at}
use Rattle.format.specs.Writing.{output_of}
use Rattle.format.specs.Demands.{Accepts}
use Rattle.format.specs.StoreList.{per_part, store_rows, block_rows, rows_of, all_numbers, store_list, store_list_answer, store_list_output, rows_by, nth_row, store_row, store_name, store_raw}
use Rattle.format.specs.Steps.Firsts.{firsts, first_field}
use Rattle.format.proofs.AnswerLaws.{nowhere, numbered}
use Rattle.format.proofs.AcceptedLaws.{accepted_Read, accepted_held, shortcut-Whole}
use Rattle.format.proofs.Chains.{all-Pass, Pass-all}
use Rattle.format.proofs.FoundLaws.{read_Walk}
use Rattle.format.proofs.PositionLaws.{part_drop}
use Rattle.format.proofs.StoreLaws.{store_anywhere}
use Rattle.format.proofs.StoreDemands.{first_store}
use Rattle.blocks.specs.Steps.Walk.{block_from}
use Rattle.blocks.proofs.FirstLaws.{First-block, place_from}
use Rattle.reader.specs.Steps.Finish.{FirstsOf}
use Rattle.storing.specs.Steps.Stored.{Holds, StoreAt, RowIs}
use Rattle.storing.proofs.RowLaws.{numbers_long}
use Rattle.storing.proofs.InsideLaws.{store_in, nth_in}
use Rattle.format.specs.Verdicts.{Verdict, refused_at}
use Rattle.std.specs.Prelude.{Option, Some, None, Ok, SomeIff, IfSome, unwrap_or}

-- ---- where the store stands

-- no block, no rows
pub no_rows : (s : List ℕ) (b : Place) → b.len ≡ 0 → block_rows s b ≡ []
unfolding store_rows per_part
no_rows s b e = rw e

-- of an accepted shortcut with the row of its signatures
module _ (profile : Profile) (s : List ℕ) (held : Record) {row : List ℕ} (a : Accepts profile s held) (noted : FirstsOf s held row) where
  -- the ninth signature of the table
  abbrev field : ℕ
  field = get_or row 8 0

  pub record StoreField : Type 0 where
    pub reached : field ≤ length s
    pub verdict : (reading profile s).verdict ≡ Ok (length s)
    pub rows : block_rows s (block_from s field) ≡ rows_by s (shortcut profile s)
    pub holds : 4 ≤ field → Holds s (block_from s field)

  pub store_field : StoreField
  unfolding Accepts firsts rows_of
  store_field =
      let x = accepted_Read profile s held (length s) a in
      let q = x.sections in
      let start = (blocks_of q).start in
      let lengths = (blocks_of q).read in
      let walk = read_Walk profile s q (length s) (shortcut-Whole profile s q (length s) x.is).read in
      let same : (place_in held blocks_slot).at ≡ start = ap (λ (r : Record). (place_in r blocks_slot).at) (sym x.held) in
      let n : (ls : List ℕ) (m : ℕ) → blocks start (drop start s) ≡ got ls m → row ≡ firsts s start ls = rw same at noted in
      let is : field ≡ first_field s 0xA0000009 start lengths = ap (λ (l : List ℕ). get_or l 8 0) (n lengths _ walk) in
      let F = First-block s 0xA0000009 start lengths _ walk in
      let p : block_from s field ≡ first_place s 0xA0000009 start lengths = ap (block_from s) is ∙ F.block in
      record {
        reached = rw is F.field;
        verdict = ap (λ (y : Reading). y.verdict) a;
        rows = rw p (sym (ap (rows_by s) x.is));
        holds = λ z.
            let long : 8 ≤ (first_place s 0xA0000009 start lengths).len = F.there (rw is at z) in
            let h = first_store s start lengths _ walk (λ e. omega arith) in
            rw p
            (record {
              inside = omega (arith, h.inside);
              long = h.long;
              right = store_anywhere 0 8 (drop 8 (bytes_at s (first_place s 0xA0000009 start lengths))) ∙ Pass-all (store_tests 8 (drop 8 (bytes_at s (first_place s 0xA0000009 start lengths)))) h.right;
            });
      }

  pub stored : (b : Option Place) → SomeIff b (4 ≤ field) (block_from s field) → StoreAt profile s b
  stored b i = record { verdict = store_field.verdict; rows = rw (place_from s field b i) store_field.rows; holds = held_by b i }
    where
      held_by : (b : Option Place) → SomeIff b (4 ≤ field) (block_from s field) → IfSome b (Holds s)
      held_by (Some x) i = rw i.1 (store_field.holds i.0)
      held_by None i = tt

-- ---- the list

-- the store's bytes in the shortcut
pub store_part : (s : List ℕ) (b : Place) → Holds s b → part s (b.at + 8) (b.len - 8) ≡ drop 8 (bytes_at s b)
store_part s b h = sym (part_in s (b.at + 8) (b.len - 8) (omega (arith, h.inside, h.long))) ∙ sym (part_drop 8 b.len b.at s (omega (arith, h.long)))

-- its tests hold, and its places are numbers
pub store_ready : (s : List ℕ) (b : Place) → Holds s b → length s < 2 ^ 64 → {l : List ℕ} → l ≡ drop 8 (bytes_at s b) → (all (store_tests 0 l) ≡ true) × (b.at + 8 + length l < 2 ^ 64)
store_ready s b h small e =
    let d : length (bytes_at s b) ≡ b.len = length-take-le b.len (drop b.at s) (omega (arith, h.inside, length-drop b.at s)) in
    rw e (h.right, omega (arith, length-drop 8 (bytes_at s b), h.inside, h.long))

-- what the call says of its answer v and its buffer x
abbrev ListCall : Profile → List ℕ → List ℕ → Verdict → List ℕ → Type 0
ListCall profile s out v x = (v ≡ store_list_answer profile s out) × ((x ≡ store_list_output profile s out) × Numbered v (store_list profile s (length out)))

list_call : (profile : Profile) (s out : List ℕ) {v : Verdict} {x : List ℕ} → v ≡ store_list_answer profile s out → x ≡ store_list_output profile s out → ListCall profile s out v x
unfolding store_list_answer
list_call profile s out a o = (a, (o, numbered (store_list profile s (length out)) a))

module _ (profile : Profile) (s out : List ℕ) where
  -- leaving with the refusal
  pub list_left : {r : Refusal} → shortcut profile s ≡ refused r.fault r.spot → ListCall profile s out (refused_at r.fault r.spot.position) out
  unfolding store_list_answer store_list_output store_list output_of
  list_left i = list_call profile s out (rw i) (rw i)

  module _ {b : Option Place} (T : StoreAt profile s b) where
    abbrev rows : List StoreRow
    rows = block_rows s (unwrap_or b no_place)

    list_is : store_list profile s (length out) ≡ cond (leb (length (all_numbers rows)) (length out)) (got (all_numbers rows) (length rows)) (refused ROOM nowhere)
    unfolding store_list
    list_is =
        let x = accepted_Read profile s (reading profile s).held (length s) (accepted_held profile s {g = reading profile s} refl T.verdict) in
        let r : rows ≡ rows_of s x.sections = T.rows ∙ ap (rows_by s) x.is in
        rw (x.is, r)

    module _ {m : ℕ} (count : m ≡ length rows) where
      pub list_room : length out / 6 < m → ListCall profile s out (refused_at ROOM 0) out
      unfolding store_list_answer store_list_output output_of
      list_room h =
          let z : store_list profile s (length out) ≡ refused ROOM nowhere = list_is ∙ rw (lt-leb (length (all_numbers rows)) (length out) (omega (arith, numbers_long rows))) in
          list_call profile s out (rw z) (rw z)

      pub list_fits : m ≤ length out / 6 → length (all_numbers rows) ≤ length out
      list_fits h = omega (arith, numbers_long rows)

      pub list_put : m ≤ length out / 6 → {x : List ℕ} → x ≡ put out 0 (all_numbers rows) → ListCall profile s out (Ok m) x
      unfolding store_list_answer store_list_output output_of
      list_put h e =
          let z : store_list profile s (length out) ≡ got (all_numbers rows) (length rows) = list_is ∙ rw (le-leb (length (all_numbers rows)) (length out) (list_fits h)) in
          list_call profile s out (rw (z, count)) (e ∙ rw z)

  pub list_none : StoreAt profile s None → ListCall profile s out (Ok 0) out
  unfolding store_list_answer store_list_output output_of
  list_none T =
      let z : store_list profile s (length out) ≡ got [] 0 = list_is T ∙ rw (le-leb 0 (length out) (omega arith)) in
      list_call profile s out (rw z) (rw z (put-nil out 0))

-- ---- a row

-- a refused shortcut has none
pub row_refused : (profile : Profile) (s : List ℕ) (k : ℕ) {q : Refusal} {r : StoreRow} → shortcut profile s ≡ refused q.fault q.spot → r ≡ nth_row k [] → RowIs profile s k r
unfolding store_row
row_refused profile s k e i = record { is = i ∙ rw e; inside = rw i (nth_in (length s) k [] tt) }

module _ (profile : Profile) (s : List ℕ) (k : ℕ) where
  row_told : {b : Option Place} → StoreAt profile s b → nth_row k (block_rows s (unwrap_or b no_place)) ≡ store_row profile s k
  unfolding store_row
  row_told T = ap (nth_row k) T.rows

  pub row_none : {r : StoreRow} → StoreAt profile s None → r ≡ nth_row k [] → RowIs profile s k r
  row_none {r} T i = record {
    is = i ∙ sym (ap (nth_row k) (no_rows s no_place refl)) ∙ row_told T;
    inside = rw i (nth_in (length s) k [] tt);
  }

  pub row_is : {r : StoreRow} {b : Place} → StoreAt profile s (Some b) → r ≡ nth_row k (block_rows s b) → RowIs profile s k r
  row_is {r} {b} T i =
      let h = T.holds in
      let l : List ℕ = drop 8 (bytes_at s b) in
      let d : length (bytes_at s b) ≡ b.len = length-take-le b.len (drop b.at s) (omega (arith, h.inside, length-drop b.at s)) in
      let e : b.at + 8 + length l ≤ length s = omega (arith, length-drop 8 (bytes_at s b), h.inside, h.long) in
      let a = nth_in (b.at + 8 + length l) k (block_rows s b) (store_in (b.at + 8) 0 l (all-Pass (store_tests 0 l) h.right)) in
      record { is = i ∙ row_told T; inside = rw i (record { name = omega (arith, a.name); raw = omega (arith, a.raw) }) }

-- the parts that a row shows
module _ (profile : Profile) (s : List ℕ) (k : ℕ) {r : StoreRow} (R : RowIs profile s k r) where
  pub shown_name : part s r.name.at r.name.len ≡ store_name profile s k
  unfolding store_name
  shown_name = sym (part_in s r.name.at r.name.len R.inside.name) ∙ ap (λ (x : StoreRow). bytes_at s x.name) R.is

  pub shown_raw : part s r.raw.at r.raw.len ≡ store_raw profile s k
  unfolding store_raw
  shown_raw = sym (part_in s r.raw.at r.raw.len R.inside.raw) ∙ ap (λ (x : StoreRow). bytes_at s x.raw) R.is
