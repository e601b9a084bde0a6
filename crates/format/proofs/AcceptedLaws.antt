-- An accepted shortcut: from its reading to its contents and back.
use mathlib.Core.Path.{◌≡◌, refl, sym, ap, ◌∙◌}
use mathlib.Core.List.{List, [], ◌∷◌}
use mathlib.Core.Bool.{true}
use Prim.Native.Nat.{ℕ, ◌+◌, ◌-◌, ◌≤◌}
use native.Mathlib.Omega.{arith}
use lib.ListN.{length}
use lib.Dec.{leb, eqb}
use borrow.Author.Tests.{leb-true, eqb-true}
use Rattle.format.specs.declared.Profile.{Profile}
use Rattle.format.specs.declared.Place.{Place}
use Rattle.format.specs.declared.Record.{Record}
use Rattle.format.specs.declared.Reading.{Reading}
use Rattle.format.specs.declared.Fault.{Fault}
use Rattle.format.specs.declared.Fault.TheVariants.{Long as LONG, Trail as TRAIL}
use Rattle.format.specs.declared.Spot.{Spot}
use Rattle.format.specs.Tests.{Outcome, got, refused, ◌else◌at◌, tests, and_then, section, no_section}
use Rattle.format.specs.Shortcut.{Sections, most, sections, shortcut, record_of, no_record, verdict_of, held_by, reading}
use Rattle.format.specs.Bodies.{place_in, all_inside, placed}
use Rattle.format.specs.Contents.{Contents, present, bodies_of, contents}
use Rattle.format.specs.Demands.{Refuses}
use Rattle.format.proofs.Chains.{passed, got_elim, no_value}
use Rattle.format.proofs.VerdictLaws.{same_fault, same_position}
use Rattle.format.proofs.WholeLaws.{decode}
use Rattle.format.proofs.PlaceLaws.{mapped, slot_inside}
use Rattle.format.proofs.ReadingLaws.{decode_is}
use Rattle.format.proofs.FoundLaws.{read_present, read_inside}
use Rattle.format.specs.Verdicts.{Verdict, refused_at}
use Rattle.std.specs.Prelude.{Ok}

pub record Whole (profile : Profile) (s : List ℕ) (c : Sections) (n : ℕ) : Type 0 where
  pub limit : length s ≤ most
  pub read : sections profile 0 s ≡ got c n
  pub all : n ≡ length s

pub shortcut-Whole : (profile : Profile) (s : List ℕ) (c : Sections) (n : ℕ) → shortcut profile s ≡ got c n → Whole profile s c n
unfolding shortcut
shortcut-Whole profile s c n e =
    let i = passed no_section (leb (length s) most else LONG at most ∷ []) _ e in
    go (leb-true _ _ i.0.0) (sections profile 0 s) refl i.1
  where
    go : length s ≤ most → (r : Outcome Sections) → sections profile 0 s ≡ r → and_then r (λ c n. tests (section 9 (n - 4)) (eqb n (length s) else TRAIL at 4 ∷ []) (got c n)) ≡ got c n → Whole profile s c n
    go l (got a k) i h =
        let j = passed (section 9 (k - 4)) (eqb k (length s) else TRAIL at 4 ∷ []) (got a k) h in
        got_elim (λ c n. Whole profile s c n) j.1 (record { limit = l; read = i; all = eqb-true k (length s) j.0.0 })
    go l (refused x y) i h = no_value h

-- an accepted reading: the sections, and all that is known of them
pub record Read (profile : Profile) (s : List ℕ) (r : Record) (n : ℕ) : Type 0 where
  pub sections : Sections
  pub is : shortcut profile s ≡ got sections n
  pub held : record_of sections ≡ r

pub accepted_Read : (profile : Profile) (s : List ℕ) (r : Record) (n : ℕ) → reading profile s ≡ record { verdict = Ok n; held = r } → Read profile s r n
unfolding reading
accepted_Read profile s r n e = go (shortcut profile s) refl (ap (λ (x : Reading). x.verdict) e) (ap (λ (x : Reading). x.held) e)
  where
    go : (o : Outcome Sections) → shortcut profile s ≡ o → verdict_of o ≡ Ok n → held_by o ≡ r → Read profile s r n
    go (got c m) i v h =
        let q : m ≡ n = cc in
        record { sections = c; is = i ∙ ap (got c) q; held = h }
    go (refused f p) i v h = absurd (let z : ◌≡◌ {A = ℕ} 0 1 = cc in omega arith)

-- what a call holds that has read
pub accepted_held : (profile : Profile) (s : List ℕ) {g : Reading} {n : ℕ} → g ≡ reading profile s → g.verdict ≡ Ok n → reading profile s ≡ record { verdict = Ok n; held = g.held }
accepted_held profile s {g} e q = sym e ∙ ap (λ (v : Verdict). record { verdict = v; held = g.held }) q

-- a refused one
pub record RefusedWith (profile : Profile) (s : List ℕ) (f : Fault) (p : ℕ) : Type 0 where
  pub spot : Spot
  pub is : shortcut profile s ≡ refused f spot
  pub told : spot.position ≡ p

pub refused_read : (profile : Profile) (s : List ℕ) {f : Fault} {p : ℕ} → (reading profile s).verdict ≡ refused_at f p → RefusedWith profile s f p
unfolding reading
refused_read profile s {f} {p} e = go (shortcut profile s) refl e
  where
    go : (o : Outcome Sections) → shortcut profile s ≡ o → verdict_of o ≡ refused_at f p → RefusedWith profile s f p
    go (got c n) i h = absurd (let z : ◌≡◌ {A = ℕ} 0 1 = cc in omega arith)
    go (refused x y) i h = record { spot = y; is = i ∙ ap (λ (g : Fault). refused g y) (same_fault h); told = same_position h }

-- ---- what holds of an accepted one

abbrev In : ℕ → Place → Type 0
In n b = b.at + b.len ≤ n

module _ (profile : Profile) (s : List ℕ) (r : Record) (n : ℕ) (e : reading profile s ≡ record { verdict = Ok n; held = r }) where
  reads : Read profile s r n
  reads = accepted_Read profile s r n e

  pub accepted_length : n ≡ length s
  accepted_length = (shortcut-Whole profile s reads.sections n reads.is).all

  pub accepted_limit : length s ≤ most
  accepted_limit = (shortcut-Whole profile s reads.sections n reads.is).limit

  -- it holds zeros for what is absent
  pub accepted_present : present r ≡ r
  accepted_present =
      let x = reads in
      ap present (sym x.held) ∙ read_present profile s x.sections n (shortcut-Whole profile s x.sections n x.is).read ∙ x.held

  -- its bodies lie inside
  all_inside_lem : all_inside (length s) r.places ≡ true
  all_inside_lem =
      let x = reads in
      let w = shortcut-Whole profile s x.sections n x.is in
      ap (λ (q : Record). all_inside (length s) q.places) (sym x.held) ∙ read_inside profile s x.sections n w.read (omega (arith, w.all))

  pub accepted_inside : placed (length s) r ≡ true
  unfolding placed present
  accepted_inside = ap (λ (q : Record). all_inside (length s) q.places) accepted_present ∙ all_inside_lem

  pub accepted_bodies : (k : ℕ) → In (length s) (place_in r k)
  accepted_bodies k = slot_inside (length s) r.places k all_inside_lem

  pub accepted_decode : decode profile s ≡ got (contents s r) n
  unfolding contents
  accepted_decode =
      let x = reads in
      decode_is profile s ∙ ap (mapped (λ c. bodies_of s (record_of c))) x.is ∙ ap (λ (q : Record). got (bodies_of s q) n) (x.held ∙ sym accepted_present)

contents_is : (s : List ℕ) (r : Record) → contents s r ≡ bodies_of s (present r)
unfolding contents
contents_is s r = refl

-- what reads for its contents is accepted
pub record Found (profile : Profile) (s : List ℕ) (c : Contents) (n : ℕ) : Type 0 where
  pub held : Record
  pub is : reading profile s ≡ record { verdict = Ok n; held = held }
  pub same : contents s held ≡ c

pub decode_accepted : (profile : Profile) (s : List ℕ) (c : Contents) (n : ℕ) → decode profile s ≡ got c n → Found profile s c n
unfolding reading
decode_accepted profile s c n e = go (shortcut profile s) refl (sym (decode_is profile s) ∙ e)
  where
    go : (o : Outcome Sections) → shortcut profile s ≡ o → mapped (λ c. bodies_of s (record_of c)) o ≡ got c n → Found profile s c n
    go (got a m) i h =
        let q : m ≡ n = cc in
        let b : bodies_of s (record_of a) ≡ c = cc in
        let v : reading profile s ≡ record { verdict = Ok n; held = record_of a } = rw (i, q) in
        let z : contents s (record_of a) ≡ bodies_of s (record_of a) = same_contents (record_of a) (accepted_present profile s (record_of a) n v) in
        record { held = record_of a; is = v; same = z ∙ b }
      where
        same_contents : (r : Record) → present r ≡ r → contents s r ≡ bodies_of s r
        same_contents r e = contents_is s r ∙ ap (bodies_of s) e
    go (refused f p) i h = no_value h

-- a refusal: the same for places and for contents
pub decode-refused : (profile : Profile) (s : List ℕ) (f : Fault) (p : Spot) → decode profile s ≡ refused f p → Refuses profile s f p.position
unfolding Refuses reading
decode-refused profile s f p e = go (shortcut profile s) refl (sym (decode_is profile s) ∙ e)
  where
    go : (o : Outcome Sections) → shortcut profile s ≡ o → mapped (λ c. bodies_of s (record_of c)) o ≡ refused f p → reading profile s ≡ record { verdict = refused_at f p.position; held = no_record }
    go (got a m) i h = absurd (let z : ◌≡◌ {A = ℕ} 0 1 = cc in omega arith)
    go (refused x y) i h =
        let a : x ≡ f = cc in
        let b : y ≡ p = cc in
        rw (i, a, b)
