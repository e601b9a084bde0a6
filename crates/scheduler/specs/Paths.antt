-- FORMAT: Numbers that fit, Path block call. A path block put into a record of fields: the slice of numbers is tested first.
use Rattle.std.specs.Prelude.{ℕ, ◌≡◌, List, true, cond, length, eqb}
use Rattle.format.specs.declared.Profile.{Profile}
use Rattle.format.specs.PathWriting.{path_answer, path_output, PathEnds}
use Rattle.fields.specs.Fields.{field_count, are_record, record_from}
use Rattle.scheduler.specs.Code.{code_of}
use Rattle.scheduler.specs.Records.{FIELDS, VALUES}
use Rattle.format.specs.Verdicts.{Verdict}

unfoldable pub path_code : Profile → List ℕ → List ℕ → ℕ → List ℕ → List ℕ → List ℕ → ℕ
unfolding code_of are_record record_from path_answer
path_code profile f d signature text unicode out =
    cond (eqb (length f) field_count) (cond (are_record f) (code_of (path_answer profile (record_from f) d signature text unicode out)) VALUES) FIELDS

unfoldable pub path_written : Profile → List ℕ → List ℕ → ℕ → List ℕ → List ℕ → List ℕ → List ℕ
unfolding are_record record_from path_output
path_written profile f d signature text unicode out =
    cond (eqb (length f) field_count) (cond (are_record f) (path_output profile (record_from f) d signature text unicode out) out) out

-- how the call may end, by its verdict: the answer c is its code, and x is the lent buffer afterwards
pub record PathCodeEnds (profile : Profile) (f d : List ℕ) (signature : ℕ) (text unicode out : List ℕ) (c : ℕ) (x : List ℕ) : Type 0 where
  pub verdict : Verdict
  pub code : c ≡ code_of verdict
  pub ends : PathEnds profile (record_from f) d signature text unicode out verdict x

-- this of 49 fields that are a record
abbrev pub PathEndsOf : Profile → List ℕ → List ℕ → ℕ → List ℕ → List ℕ → List ℕ → ℕ → List ℕ → Type 0
PathEndsOf profile f d signature text unicode out c x = length f ≡ field_count → are_record f ≡ true → PathCodeEnds profile f d signature text unicode out c x
