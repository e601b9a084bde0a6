-- FORMAT: Store writing. Writing a store from a slice of numbers, which is tested first.
use Rattle.std.specs.Prelude.{ℕ, ◌%◌, ◌≡◌, List, cond, length, eqb}
use Rattle.format.specs.StoreWriting.{store_write_answer, store_write_output, StoreEnds}
use Rattle.scheduler.specs.Code.{code_of}
use Rattle.scheduler.specs.Records.{FIELDS}
use Rattle.format.specs.Verdicts.{Verdict}

-- numbers left over after the last whole row are the slice's own fault, before all others
unfoldable pub store_write_code : List ℕ → List ℕ → List ℕ → ℕ
unfolding code_of store_write_answer
store_write_code ns d out = cond (eqb (length ns % 6) 0) (code_of (store_write_answer ns d out)) FIELDS

unfoldable pub store_written_rows : List ℕ → List ℕ → List ℕ → List ℕ
unfolding store_write_output
store_written_rows ns d out = cond (eqb (length ns % 6) 0) (store_write_output ns d out) out

-- how writing from whole rows may end, by the writer's verdict: the answer c is its code, and x is the lent buffer afterwards
pub record StoreWriteEnds (ns d out : List ℕ) (c : ℕ) (x : List ℕ) : Type 0 where
  pub verdict : Verdict
  pub code : c ≡ code_of verdict
  pub ends : StoreEnds ns d out verdict x

-- this of whole rows
abbrev pub StoreEndsOf : List ℕ → List ℕ → List ℕ → ℕ → List ℕ → Type 0
StoreEndsOf ns d out c x = length ns % 6 ≡ 0 → StoreWriteEnds ns d out c x
