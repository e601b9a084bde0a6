-- FORMAT: Numbers. The number of each fault, and the number and the value of every answer.
use Rattle.std.specs.Prelude.{ℕ, ◌≡◌, Ok, Err}
use Rattle.format.specs.declared.Fault.{Fault}
use Rattle.format.specs.declared.Fault.TheVariants.{Long, Cut, Magic, Head, Items, Info, Piece, Block, Trail, Place, Unwritable, Room, NoTarget, Twice, Store, NoMap, Shelf, Entry, Lost}
use Rattle.format.specs.Tests.{Outcome, got, refused}
use Rattle.format.specs.Verdicts.{Verdict}

-- No | Name
unfoldable pub number_of : Fault → ℕ
number_of Long = 1
number_of Cut = 2
number_of Magic = 3
number_of Head = 4
number_of Items = 5
number_of Info = 6
number_of Piece = 7
number_of Block = 8
number_of Trail = 9
number_of Place = 10
number_of Unwritable = 11
number_of Room = 12
number_of NoTarget = 13
number_of Twice = 14
number_of Store = 15
number_of NoMap = 16
number_of Shelf = 17
number_of Entry = 18
number_of Lost = 19

-- an accepted answer is 0 OK
unfoldable pub answer_number : Verdict → ℕ
unfolding number_of
answer_number (Ok n) = 0
answer_number (Err r) = number_of r.fault

-- the length of a success, the position of a refusal
unfoldable pub answer_value : Verdict → ℕ
answer_value (Ok n) = n
answer_value (Err r) = r.position

-- ---- the same of what reading or writing comes to

abbrev pub outcome_number : {A : Type 0} → Outcome A → ℕ
outcome_number (got a n) = 0
outcome_number (refused f p) = number_of f

abbrev pub outcome_value : {A : Type 0} → Outcome A → ℕ
outcome_value (got a n) = n
outcome_value (refused f p) = p.position

-- the answer has the outcome's number and value
abbrev pub Numbered : {A : Type 0} → Verdict → Outcome A → Type 0
Numbered v o = (answer_number v ≡ outcome_number o) × (answer_value v ≡ outcome_value o)
