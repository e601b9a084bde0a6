-- What rewriting an accepted shortcut keeps.
use Rattle.std.specs.Prelude.{ℕ, ◌≤◌, ◌≡◌, List, length, Ok}
use Rattle.octets.specs.Parts.{put}
use Rattle.format.specs.declared.Profile.{Profile}
use Rattle.format.specs.declared.Record.{Record}
use Rattle.format.specs.Demands.{Accepts, ReadsAs}
use Rattle.format.specs.Verdicts.{Verdict}

-- the shortcut s with the record r, rewritten into the lent buffer out: the answer v, and the buffer x at the end
pub record Kept (profile : Profile) (s : List ℕ) (r : Record) (out : List ℕ) (v : Verdict) (x : List ℕ) : Type 0 where
  -- it is accepted and reads as the same record
  pub form : List ℕ
  pub reads : ReadsAs profile form r s
  -- nothing that reads so is shorter, and so it is not longer than s
  pub least : (t : List ℕ) → ReadsAs profile t r s → length form ≤ length t
  pub short : length form ≤ length s
  pub answer : v ≡ Ok (length form)
  pub output : x ≡ put out 0 form

-- this of every shortcut s that is accepted, where the buffer is no shorter than it
abbrev pub Keeps : Profile → List ℕ → List ℕ → Verdict → List ℕ → Type 0
Keeps profile s out v x = (r : Record) → Accepts profile s r → length s ≤ length out → Kept profile s r out v x
