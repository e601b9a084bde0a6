-- One law for each way out of reading into fields and of writing from them.
use mathlib.Core.Path.{◌≡◌, sym, ap, subst, ◌∙◌}
use mathlib.Core.List.{List}
use mathlib.Core.Bool.{Bool, true, false, not}
use Prim.Native.Nat.{ℕ, ◌*◌, ◌≤◌}
use lib.ListN.{length}
use lib.Dec.{eqb}
use borrow.Author.Tests.{eq-eqb, ne_eqb, not-true, not-false}
use Rattle.format.specs.declared.Profile.{Profile}
use Rattle.format.specs.declared.Record.{Record}
use Rattle.format.specs.declared.Refusal.{Refusal}
use Rattle.format.specs.Shortcut.{reading}
use Rattle.format.specs.Numbers.{answer_value, Numbered}
use Rattle.format.specs.Writing.{writing, write_answer, write_output}
use Rattle.format.specs.Demands.{Ends}
use Rattle.format.proofs.Bools.{clash}
use Rattle.fields.specs.Fields.{field_count, fields_of, are_record, record_from}
use Rattle.reader.specs.declared.SectionEnds.{SectionEnds}
use Rattle.reader.specs.Steps.Finish.{outline, next_verdict}
use Rattle.reader.proofs.OutlineLaws.{outline_verdict}
use Rattle.scheduler.specs.Code.{code_of}
use Rattle.scheduler.specs.Records.{FIELDS, VALUES, read_code, read_fields, write_code, written_fields, EndsOf}
use Rattle.scheduler.proofs.PositionLaws.{check_small}
use Rattle.scheduler.proofs.CodeLaws.{accepted_small, accepted_code}
use Rattle.format.specs.Verdicts.{Verdict, refused_at}
use Rattle.std.specs.Prelude.{Ok, Err}

-- ---- reading into fields

module _ (profile : Profile) (s f : List ℕ) where
  module _ (h : length f ≡ field_count → ⊥) where
    pub code_miscounted : FIELDS ≡ read_code profile s f
    unfolding read_code
    code_miscounted = rw (ne_eqb (length f) field_count h)

    pub fields_miscounted : f ≡ read_fields profile s f
    unfolding read_fields
    fields_miscounted = rw (ne_eqb (length f) field_count h)

    pub read_miscounted : (FIELDS ≡ read_code profile s f) × (f ≡ read_fields profile s f)
    read_miscounted = (code_miscounted, fields_miscounted)

  module _ (h : length f ≡ field_count) where
    counted : eqb (length f) field_count ≡ true
    counted = eq-eqb (length f) field_count h

    module _ (x : Refusal) (k : Err x ≡ outline profile s) where
      refused_reading : (reading profile s).verdict ≡ refused_at x.fault x.spot.position
      refused_reading = sym (outline_verdict profile s) ∙ ap (next_verdict (length s)) (sym k)

      pub refusal_small : answer_value (refused_at x.fault x.spot.position) ≤ 4194820
      refusal_small = rw refused_reading at (check_small profile s)

      pub code_refused : code_of (refused_at x.fault x.spot.position) ≡ read_code profile s f
      unfolding read_code
      code_refused = rw (counted, refused_reading)

      pub fields_refused : f ≡ read_fields profile s f
      unfolding read_fields
      fields_refused = rw (counted, refused_reading)

      pub read_refused : (code_of (refused_at x.fault x.spot.position) ≡ read_code profile s f) × (f ≡ read_fields profile s f)
      read_refused = (code_refused, fields_refused)

    module _ (e : SectionEnds) (k : Ok e ≡ outline profile s) where
      accepted : (reading profile s).verdict ≡ Ok (length s)
      accepted = sym (outline_verdict profile s) ∙ ap (next_verdict (length s)) (sym k)

      pub read_small : length s ≤ 4194820
      read_small = accepted_small accepted (check_small profile s)

      pub code_filled : 256 * length s ≡ read_code profile s f
      unfolding read_code
      code_filled = rw counted (accepted_code accepted)

      pub fields_filled : fields_of (reading profile s).held ≡ read_fields profile s f
      unfolding read_fields
      fields_filled = rw (counted, accepted)

      pub read_filled : (256 * length s ≡ read_code profile s f) × (fields_of (reading profile s).held ≡ read_fields profile s f)
      read_filled = (code_filled, fields_filled)

-- what reading into fields rests on
pub ruleset filling = (code_miscounted, fields_miscounted, refusal_small, code_refused, fields_refused, read_small, code_filled, fields_filled)

-- ---- writing from them

module _ (profile : Profile) (f d out : List ℕ) where
  pub write_miscounted : (length f ≡ field_count → ⊥) → (FIELDS ≡ write_code profile f d out) × ((out ≡ written_fields profile f d out) × EndsOf profile f d out FIELDS out)
  unfolding write_code written_fields
  write_miscounted h = let e = ne_eqb (length f) field_count h in (rw e, (rw e, λ n i. absurd (h n)))

  module _ (h : length f ≡ field_count) {b : Bool} (e : b ≡ are_record f) where
    pub write_no_record : not b ≡ true → (VALUES ≡ write_code profile f d out) × ((out ≡ written_fields profile f d out) × EndsOf profile f d out VALUES out)
    unfolding write_code written_fields
    write_no_record t =
        let n = eq-eqb (length f) field_count h in
        let k : are_record f ≡ false = sym e ∙ not-true b t in
        (rw (n, k), (rw (n, k), λ n i. clash i k))

    module _ (t : not b ≡ false) where
      pub is_record : are_record f ≡ true
      is_record = sym e ∙ not-false b t

      pub write_answered : {q : Record} → q ≡ record_from f → {v : Verdict} {x : List ℕ} {r : ℕ} → (v ≡ write_answer profile q d out) × ((x ≡ write_output profile q d out) × (Numbered v (writing profile q d (length out)) × Ends profile q d out v x)) → r ≡ code_of v
          → (r ≡ write_code profile f d out) × ((x ≡ written_fields profile f d out) × EndsOf profile f d out r x)
      unfolding write_code written_fields
      write_answered i {v} {x} (j, (k, (number, z))) l =
          let n = eq-eqb (length f) field_count h in (
            rw (n, is_record) (l ∙ rw (j, i)),
            (
              rw (n, is_record) (k ∙ rw i),
              λ m o.
                  record { verdict = v; code = l; ends = subst (λ (t : Record). Ends profile t d out v x) i z },
            ),
          )
