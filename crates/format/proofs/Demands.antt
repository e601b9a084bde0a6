-- The demands, proved of the definitions. Laws that write ask for what types give, bytes below 256 and numbers that fit their fields; no call asks it.
use mathlib.Core.Path.{◌≡◌, refl, sym, ap, ◌∙◌}
use mathlib.Core.List.{List, [], ◌∷◌, map}
use mathlib.Core.Logic.{◌↔◌}
use mathlib.Core.Bool.{Bool, true, false, cond}
use Prim.Native.Nat.{ℕ, ◌+◌, ◌-◌, ◌≤◌, ◌<◌}
use native.Mathlib.Omega.{arith}
use lib.ListN.{length, take, drop}
use lib.Seq.{take-length, take-add, drop-drop}
use lib.Dec.{leb}
use borrow.Author.Tests.{leb-true, leb-false}
use Rattle.octets.specs.Numbers.{Bytes}
use Rattle.format.specs.declared.Profile.{Profile}
use Rattle.format.specs.declared.Record.{Record}
use Rattle.format.specs.declared.Reading.{Reading}
use Rattle.format.specs.declared.Fault.{Fault}
use Rattle.format.specs.declared.Fault.TheVariants.{Cut as CUT, Place as PLACE, Unwritable as UNWRITABLE, Room as ROOM}
use Rattle.format.specs.Tests.{Outcome, got, refused}
use Rattle.format.proofs.AnswerLaws.{nowhere}
use Rattle.format.proofs.VerdictLaws.{same_fault}
use Rattle.format.specs.Shortcut.{Sections, shortcut, record_of, verdict_of, reading}
use Rattle.format.specs.Bodies.{placed}
use Rattle.format.specs.Contents.{Contents, present, contents, Same}
use Rattle.format.specs.Writing.{end_to_end, canonical, writable, writing, output_of, write_answer, write_output}
use Rattle.format.specs.Listing.{Row, listing, EndToEnd, row_bytes}
use Rattle.format.specs.Demands.{Accepts, Refuses, ReadsAs, Ends, misplaced, unwritable, no_room, written, CutAt}
use Rattle.format.proofs.Ranges.{FitsRecord}
use Rattle.format.proofs.Bools.{clash}
use Rattle.format.proofs.WholeLaws.{shortest, writes, refuses, beginning, can_Valid, canonical-Bytes}
use Rattle.format.proofs.FoundLaws.{read_EndToEnd}
use Rattle.format.proofs.TypedLaws.{record_Typed}
use Rattle.format.proofs.AcceptedLaws.{accepted_Read, shortcut-Whole, accepted_length, accepted_present, accepted_inside, accepted_decode, decode_accepted, decode-refused}
use Rattle.format.specs.Verdicts.{Verdict, refused_at}
use Rattle.std.specs.Prelude.{Ok}

-- ---- Demand 1: every input is answered, with one answer

-- accepted, all of it, or refused
pub data Answered (profile : Profile) (s : List ℕ) : Type 0 where
  accepted : (r : Record) → Accepts profile s r → Answered profile s
  refused_with : (f : Fault) (p : ℕ) → Refuses profile s f p → Answered profile s

pub every_input_Answered : (profile : Profile) (s : List ℕ) → Answered profile s
unfolding Accepts Refuses reading
every_input_Answered profile s = go (shortcut profile s) refl
  where
    go : (o : Outcome Sections) → shortcut profile s ≡ o → Answered profile s
    go (got c n) i =
        let q = (shortcut-Whole profile s c n i).all in
        accepted (record_of c) (rw (i, q))
    go (refused f p) i = refused_with f p.position (rw i)

-- reading determines number, position and record
pub one_answer : (profile : Profile) (s : List ℕ) (a b : Reading) → a ≡ reading profile s → b ≡ reading profile s → a ≡ b
one_answer profile s a b p q = p ∙ sym q

-- ---- Demand 2: what is shown is what is there

-- an accepted shortcut is accepted whole
pub accepted_whole : (profile : Profile) (s : List ℕ) (r : Record) (n : ℕ) → reading profile s ≡ record { verdict = Ok n; held = r } → Accepts profile s r
unfolding Accepts
accepted_whole profile s r n e =
    let q : n ≡ length s = accepted_length profile s r n e in
    e ∙ ap (λ (k : ℕ). record { verdict = Ok k; held = r }) q

-- its bodies lie inside it, and what is absent is zero
pub bodies_inside : (profile : Profile) (s : List ℕ) (r : Record) → Accepts profile s r → placed (length s) r ≡ true
unfolding Accepts
bodies_inside profile s r e = accepted_inside profile s r (length s) e

pub absent_zero : (profile : Profile) (s : List ℕ) (r : Record) → Accepts profile s r → present r ≡ r
unfolding Accepts
absent_zero profile s r e = accepted_present profile s r (length s) e

-- its sections follow one another without a gap, from the first byte to the last
pub sections_EndToEnd : (profile : Profile) (s : List ℕ) (r : Record) → Accepts profile s r → EndToEnd 0 (listing profile s) (length s)
unfolding Accepts listing
sections_EndToEnd profile s r e =
    let x = accepted_Read profile s r (length s) e in
    let w = shortcut-Whole profile s x.sections (length s) x.is in
    rw x.is (read_EndToEnd profile s x.sections (length s) w.read)

pub ahead : (p q : ℕ) (rows : List Row) → EndToEnd p rows q → p ≤ q
ahead p q [] e = omega arith
ahead p q (x ∷ xs) e = omega (arith, ahead (p + x.len) q xs e.1)

glued : (s : List ℕ) (p q : ℕ) (rows : List Row) → EndToEnd p rows q → q ≤ length s → end_to_end (map (row_bytes s) rows) ≡ take (q - p) (drop p s)
glued s p q [] e h =
    let z : q - p ≡ 0 = omega arith in
    rw z
glued s p q (x ∷ xs) e h =
    let k : p + x.len ≤ q = ahead (p + x.len) q xs e.1 in
    let n : q - p ≡ x.len + (q - (p + x.len)) = omega arith in
    rw (e.0, n, take-add x.len (q - (p + x.len)) (drop p s), drop-drop x.len p s, glued s (p + x.len) q xs e.1 h)

-- and what they show, one after another, is the shortcut
pub sections_show_all : (profile : Profile) (s : List ℕ) (r : Record) → Accepts profile s r → end_to_end (map (row_bytes s) (listing profile s)) ≡ s
sections_show_all profile s r e =
    let z : length s - 0 ≡ length s = omega arith in
    glued s 0 (length s) (listing profile s) (sections_EndToEnd profile s r e) (omega arith) ∙ rw (z, take-length s)

-- sameness is an equivalence
pub Same-self : (d : List ℕ) (r : Record) → Same d r d r
unfolding Same
Same-self d r = refl

pub Same-back : (d : List ℕ) (r : Record) (e : List ℕ) (q : Record) → Same d r e q → Same e q d r
unfolding Same
Same-back d r e q p = sym p

pub Same-through : (d : List ℕ) (r : Record) (e : List ℕ) (q : Record) (f : List ℕ) (t : Record) → Same d r e q → Same e q f t → Same d r f t
unfolding Same
Same-through d r e q f t p k = p ∙ k

-- ---- Demand 3: the writer gives up only when it has to. r is a record over the body buffer d

module _ (profile : Profile) (r : Record) (d : List ℕ) where
  -- no accepted shortcut that reads as the record is shorter than what is written
  pub none_shorter : (s : List ℕ) → ReadsAs profile s r d → length (canonical (contents d r)) ≤ length s
  unfolding Same Accepts
  none_shorter s x =
      let e = accepted_decode profile s x.held (length s) x.accepted in
      let k = (shortest profile s (contents s x.held) (length s) x.bytes e).short in
      rw x.same at k

  -- the writability test fails exactly if no accepted shortcut reads as the record
  pub unwritable_none : writable profile (contents d r) ≡ false → (s : List ℕ) → ReadsAs profile s r d → ⊥
  unfolding Same Accepts
  unwritable_none e s x =
      let i = accepted_decode profile s x.held (length s) x.accepted in
      refuses profile (contents d r) e s (length s) x.bytes (rw x.same at i)

  -- FitsLaws has what gives the first; a slice's type gives the second
  module _ (fits : FitsRecord r) (bytes : Bytes d) where
    -- what is written reads back as the record
    pub reads_back : writable profile (contents d r) ≡ true → ReadsAs profile (canonical (contents d r)) r d
    unfolding Same Accepts
    reads_back e =
        let c : Contents = contents d r in
        let t = record_Typed d bytes r fits in
        let f = decode_accepted profile (canonical c) c (length (canonical c)) (writes profile c t e) in
        record { bytes = canonical-Bytes profile c (can_Valid profile c t e).0; held = f.held; accepted = f.is; same = f.same }

    pub none_unwritable : ((s : List ℕ) → ReadsAs profile s r d → ⊥) → writable profile (contents d r) ≡ false
    none_unwritable h = go (writable profile (contents d r)) refl
      where
        go : (b : Bool) → writable profile (contents d r) ≡ b → b ≡ false
        go true e = absurd (h (canonical (contents d r)) (reads_back e))
        go false e = refl

    -- the writer ends as demand 3 says, whatever the room
    pub the_writer : (out : List ℕ) → Ends profile r d out (write_answer profile r d out) (write_output profile r d out)
    unfolding writing output_of write_answer write_output
    the_writer out = go (placed (length d) r) refl (writable profile c) refl (leb (length w) (length out)) refl
      where
        c : Contents
        c = contents d r

        w : List ℕ
        w = canonical c

        answered : Bool → Bool → Bool → Outcome (List ℕ)
        answered a b e = cond a (cond b (cond e (got w (length w)) (refused ROOM nowhere)) (refused UNWRITABLE nowhere)) (refused PLACE nowhere)

        go : (a : Bool) → placed (length d) r ≡ a → (b : Bool) → writable profile c ≡ b → (e : Bool) → leb (length w) (length out) ≡ e
            → Ends profile r d out (verdict_of (answered a b e)) (output_of (answered a b e) out)
        go true p true i true q = written w p (reads_back i) (leb-true _ _ q) none_shorter
        go true p true i false q = no_room w p (reads_back i) (λ s x. let k = none_shorter s x in omega (arith, leb-false (length w) (length out) q))
        go true p false i e q = unwritable p (unwritable_none i)
        go false p b i e q = misplaced p

-- what it comes to for a call that has ended so, if no present body passes its buffer
module _ (profile : Profile) {r : Record} {d out : List ℕ} (p : placed (length d) r ≡ true) where
  -- UNWRITABLE exactly if no accepted shortcut reads as the record
  pub unwritable_exactly : {v : Verdict} {x : List ℕ} → Ends profile r d out v x → (v ≡ refused_at UNWRITABLE 0) ↔ ((s : List ℕ) → ReadsAs profile s r d → ⊥)
  unwritable_exactly (misplaced q) = clash p q
  unwritable_exactly (unwritable q h) = (λ e. h, λ k. refl)
  unwritable_exactly (no_room w q y h) = (λ e. absurd (let f = same_fault e in let z : ◌≡◌ {A = ℕ} 0 1 = cc in omega arith), λ k. absurd (k w y))
  unwritable_exactly (written w q y l h) = (λ e. absurd (let z : ◌≡◌ {A = ℕ} 0 1 = cc in omega arith), λ k. absurd (k w y))

  -- ROOM exactly if some do but none as short as the room
  pub room_exactly : {v : Verdict} {x : List ℕ} → Ends profile r d out v x
      → (v ≡ refused_at ROOM 0) ↔ (((w : List ℕ) × ReadsAs profile w r d) × ((s : List ℕ) → ReadsAs profile s r d → length out < length s))
  room_exactly (misplaced q) = clash p q
  room_exactly (unwritable q h) = (λ e. absurd (let f = same_fault e in let z : ◌≡◌ {A = ℕ} 0 1 = cc in omega arith), λ k. absurd (h k.0.0 k.0.1))
  room_exactly (no_room w q y h) = (λ e. ((w, y), h), λ k. refl)
  room_exactly (written w q y l h) = (λ e. absurd (let z : ◌≡◌ {A = ℕ} 0 1 = cc in omega arith), λ k. absurd (let z = k.1 w y in omega arith))

-- ---- no beginning passes

-- whoever cuts an accepted shortcut short gets CUT, reported no later than where it was cut
pub beginning_cut : (profile : Profile) (s : List ℕ) (r : Record) → Accepts profile s r → (k : ℕ) → k < length s → CutAt profile k (take k s)
unfolding Accepts
beginning_cut profile s r e k h =
    let z = beginning profile s (contents s r) (length s) (accepted_decode profile s r (length s) e) k h in
    record { position = z.spot.position; early = z.early; refusal = decode-refused profile (take k s) CUT z.spot z.is }
