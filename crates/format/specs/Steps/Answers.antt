-- What a step of reading answers: an outcome as what was read and the cursor after it, or a refusal; with that outcome's number and value.
use Rattle.std.specs.Prelude.{ℕ, ◌+◌, ◌≡◌, Result, Ok, Err}
use Rattle.octets.specs.declared.Cursor.{Cursor}
use Rattle.format.specs.declared.Fault.{Fault}
use Rattle.format.specs.declared.Spot.{Spot}
use Rattle.format.specs.declared.Refusal.{Refusal}
use Rattle.format.specs.Tests.{Outcome, got, refused}
use Rattle.format.specs.Numbers.{number_of, outcome_number}

abbrev pub refusal : Fault → Spot → Refusal
refusal f q = record { fault = f; spot = q }

-- a section read from p on
abbrev pub read_from : {A : Type 0} → ℕ → Outcome A → Result (A × Cursor) Refusal
read_from p (got a n) = Ok (a, record { at = p + n })
read_from p (refused f q) = Err (refusal f q)

-- where a reading from p on ends, or the position of its refusal
abbrev pub outcome_end : {A : Type 0} → ℕ → Outcome A → ℕ
outcome_end p (got a n) = p + n
outcome_end p (refused f q) = q.position

-- r is e, the outcome o of reading from p on; its type says what the number and the value of each of its cases are
pub record Answers {R A : Type 0} (number_in value_in : R → ℕ) (p : ℕ) (o : Outcome A) (e r : R) : Type 0 where
  pub is : r ≡ e
  pub number : number_in r ≡ outcome_number o
  pub value : value_in r ≡ outcome_end p o

unfoldable pub taken_number : {A : Type 0} → Result (A × Cursor) Refusal → ℕ
taken_number (Ok x) = 0
taken_number (Err r) = number_of r.fault

-- where the section ends, or the position of a refusal
unfoldable pub taken_value : {A : Type 0} → Result (A × Cursor) Refusal → ℕ
taken_value (Ok x) = x.1.at
taken_value (Err r) = r.spot.position
