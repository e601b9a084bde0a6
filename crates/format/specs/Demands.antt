-- The words in which the three demands are put.
use Rattle.std.specs.Prelude.{ℕ, ◌≤◌, ◌<◌, ◌≡◌, List, true, false, length, Ok}
use Rattle.octets.specs.Numbers.{Bytes}
use Rattle.octets.specs.Parts.{put}
use Rattle.format.specs.declared.Profile.{Profile}
use Rattle.format.specs.declared.Record.{Record}
use Rattle.format.specs.declared.Fault.{Fault}
use Rattle.format.specs.declared.Fault.TheVariants.{Cut as CUT, Place as PLACE, Unwritable as UNWRITABLE, Room as ROOM}
use Rattle.format.specs.Shortcut.{reading, no_record}
use Rattle.format.specs.Bodies.{placed}
use Rattle.format.specs.Contents.{Same}
use Rattle.format.specs.Verdicts.{Verdict, refused_at}

-- the shortcut s is accepted, all of it, and read as the record r
unfoldable pub Accepts : Profile → List ℕ → Record → Type 0
unfolding reading
Accepts profile s r = reading profile s ≡ record { verdict = Ok (length s); held = r }

-- the shortcut s is refused with this fault, at this position; the record beside a refusal is all zeros
unfoldable pub Refuses : Profile → List ℕ → Fault → ℕ → Type 0
unfolding reading
Refuses profile s f p = reading profile s ≡ record { verdict = refused_at f p; held = no_record }

-- s is an accepted shortcut that reads as the record r over the body buffer d
pub record ReadsAs (profile : Profile) (s : List ℕ) (r : Record) (d : List ℕ) : Type 0 where
  pub bytes : Bytes s
  pub held : Record
  pub accepted : Accepts profile s held
  pub same : Same s held d r

-- how a call may end that writes the record r over the body buffer d into the lent buffer out: its answer, and that buffer afterwards
pub data Ends (profile : Profile) (r : Record) (d out : List ℕ) : Verdict → List ℕ → Type 0 where
  -- a present body does not lie inside the body buffer
  misplaced : placed (length d) r ≡ false → Ends profile r d out (refused_at PLACE 0) out
  -- no accepted shortcut reads as the record
  unwritable : placed (length d) r ≡ true → ((s : List ℕ) → ReadsAs profile s r d → ⊥) → Ends profile r d out (refused_at UNWRITABLE 0) out
  -- some do, but none as short as the room
  no_room : (w : List ℕ) → placed (length d) r ≡ true → ReadsAs profile w r d → ((s : List ℕ) → ReadsAs profile s r d → length out < length s)
      → Ends profile r d out (refused_at ROOM 0) out
  -- else what is written reads as the record, nothing that reads so is shorter, and the rest of the buffer is as it was
  written : (w : List ℕ) → placed (length d) r ≡ true → ReadsAs profile w r d → length w ≤ length out → ((s : List ℕ) → ReadsAs profile s r d → length w ≤ length s)
      → Ends profile r d out (Ok (length w)) (put out 0 w)

-- the shortcut s is cut: CUT, reported at k or before
pub record CutAt (profile : Profile) (k : ℕ) (s : List ℕ) : Type 0 where
  pub position : ℕ
  pub early : position ≤ k
  pub refusal : Refuses profile s CUT position
