-- FORMAT: Numbers that fit. Reading into fields and writing from them: the slice of numbers is tested first.
use Rattle.std.specs.Prelude.{ℕ, ◌≡◌, List, true, cond, length, eqb, Ok, Err}
use Rattle.format.specs.declared.Profile.{Profile}
use Rattle.format.specs.declared.Record.{Record}
use Rattle.format.specs.Shortcut.{reading}
use Rattle.format.specs.Writing.{write_answer, write_output}
use Rattle.format.specs.Demands.{Ends}
use Rattle.fields.specs.Fields.{field_count, fields_of, are_record, record_from}
use Rattle.scheduler.specs.Code.{code_of}
use Rattle.format.specs.Verdicts.{Verdict}

-- a slice of another length than 49, or of rows that are not whole; numbers that are no record; both with value 0
abbrev pub FIELDS : ℕ
FIELDS = 201

abbrev pub VALUES : ℕ
VALUES = 202

-- on success all of the fields are written, on refusal nothing in them changes
abbrev pub filled_by : Verdict → Record → List ℕ → List ℕ
filled_by (Ok n) q f = fields_of q
filled_by (Err r) q f = f

unfoldable pub read_code : Profile → List ℕ → List ℕ → ℕ
unfolding code_of reading
read_code profile s f = cond (eqb (length f) field_count) (code_of (reading profile s).verdict) FIELDS

unfoldable pub read_fields : Profile → List ℕ → List ℕ → List ℕ
unfolding reading fields_of
read_fields profile s f = cond (eqb (length f) field_count) (filled_by (reading profile s).verdict (reading profile s).held f) f

unfoldable pub write_code : Profile → List ℕ → List ℕ → List ℕ → ℕ
unfolding code_of are_record record_from write_answer
write_code profile f d out = cond (eqb (length f) field_count) (cond (are_record f) (code_of (write_answer profile (record_from f) d out)) VALUES) FIELDS

unfoldable pub written_fields : Profile → List ℕ → List ℕ → List ℕ → List ℕ
unfolding are_record record_from write_output
written_fields profile f d out = cond (eqb (length f) field_count) (cond (are_record f) (write_output profile (record_from f) d out) out) out

-- how writing from the fields of a record may end, by the writer's verdict: the answer c is its code, and x is the lent buffer afterwards
pub record WriteEnds (profile : Profile) (f d out : List ℕ) (c : ℕ) (x : List ℕ) : Type 0 where
  pub verdict : Verdict
  pub code : c ≡ code_of verdict
  pub ends : Ends profile (record_from f) d out verdict x

-- this of 49 fields that are a record
abbrev pub EndsOf : Profile → List ℕ → List ℕ → List ℕ → ℕ → List ℕ → Type 0
EndsOf profile f d out c x = length f ≡ field_count → are_record f ≡ true → WriteEnds profile f d out c x
