-- The first bad entry of those that stand one after another, and what a call that makes a file of them comes to.
use Rattle.std.specs.Prelude.{ℕ, ◌+◌, ◌≤◌, ◌≡◌, List, [], ◌∷◌, Option, not, cond, length, position}
use Rattle.format.specs.Tests.{Outcome}
use Rattle.format.specs.Shortcut.{sum, verdict_of}
use Rattle.format.specs.Writing.{output_of}
use Rattle.shelves.specs.Table.{most_entries}
use Rattle.shelves.specs.Steps.Apart.{span}
use Rattle.shelving.specs.Shelf.{accepted_entry}
use Rattle.format.specs.Verdicts.{Verdict}

-- the number of the first bad entry; their count where there is none
unfoldable pub first_bad : List (List ℕ) → ℕ
first_bad [] = 0
first_bad (e ∷ es) = cond (accepted_entry e) (1 + first_bad es) 0

-- the same where there may be none
abbrev pub bad_entry : List (List ℕ) → Option ℕ
bad_entry es = position (λ (e : List ℕ). not (accepted_entry e)) es

-- all entries of d by these lengths, few enough for a shelf, of which there are as many bytes
pub record Entries (d : List ℕ) (gap : ℕ) (ns : List ℕ) (bytes : ℕ) : Type 0 where
  pub few : length ns ≤ most_entries
  pub whole : span gap ns ≡ length d
  pub total : bytes ≡ sum ns

-- the answer, and the buffer afterwards, of what comes to this
pub record Filed (o : Outcome (List ℕ)) (out : List ℕ) (v : Verdict) (x : List ℕ) : Type 0 where
  pub answer : v ≡ verdict_of o
  pub output : x ≡ output_of o out
