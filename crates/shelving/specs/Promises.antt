-- The words in which the promises are put.
use Rattle.std.specs.Prelude.{ℕ, ◌<◌, ◌≡◌, List, length, take, Ok}
use Rattle.octets.specs.Parts.{put}
use Rattle.format.specs.declared.Fault.TheVariants.{Shelf as SHELF}
use Rattle.shelves.specs.Table.{most_entries, shelf_bytes}
use Rattle.shelving.specs.Shelf.{shelf_answer, fetch_verdict, entry_answer, one_answer}
use Rattle.shelves.specs.OldFile.{old_entries, old_bytes}
use Rattle.shelving.specs.OldForm.{to_old_answer, to_old_output}
use Rattle.format.specs.Verdicts.{Verdict, refused_at}

-- the file that a success leaves in front of the buffer
pub record Leaves (v : Verdict) (x w : List ℕ) : Type 0 where
  pub answer : v ≡ Ok (length w)
  pub front : take (length w) x ≡ w

-- every call on s as a shelf refuses it with SHELF, and its buffer is as it was
pub record NoShelf (s : List ℕ) : Type 0 where
  pub check : shelf_answer s ≡ refused_at SHELF 0
  pub entry : (number : ℕ) → fetch_verdict (entry_answer s number) ≡ refused_at SHELF 0
  pub one : (number : ℕ) → fetch_verdict (one_answer s number) ≡ refused_at SHELF 0
  pub to_old : (out : List ℕ) → (to_old_answer s out ≡ refused_at SHELF 0) × (to_old_output s out ≡ out)

-- the first j entries of a file of the old form
abbrev pub first_entries : ℕ → List ℕ → List (List ℕ)
first_entries j s = take j (old_entries most_entries s)

-- how moving t, cut from the file s of the old form, to a shelf in the lent buffer out ends: the answer, and that buffer afterwards
pub data OldCut (s t out : List ℕ) : Verdict → List ℕ → Type 0 where
  -- t is the first j entries, which may be none but are not all: a shelf of those
  at_an_end : (j : ℕ) → j < length (old_entries most_entries s) → t ≡ old_bytes (first_entries j s)
      → OldCut s t out (Ok (length (shelf_bytes (first_entries j s)))) (put out 0 (shelf_bytes (first_entries j s)))
  -- else SHELF, and the buffer is as it was
  elsewhere : ((j : ℕ) → t ≡ old_bytes (first_entries j s) → ⊥) → OldCut s t out (refused_at SHELF 0) out
