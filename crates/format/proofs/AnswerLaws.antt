-- The number and the value of a verdict, and of a section's answer, are those of the outcome that it tells.
use mathlib.Core.Path.{◌≡◌, refl}
use Prim.Native.Nat.{ℕ}
use Rattle.format.specs.declared.Spot.{Spot}
use Rattle.format.specs.Tests.{no_section, spot_at, Outcome, got, refused}
use Rattle.format.specs.Numbers.{outcome_number, answer_number, answer_value, Numbered}
use Rattle.format.specs.Steps.Answers.{read_from, outcome_end, taken_number, taken_value}
use Rattle.format.specs.Shortcut.{verdict_of}
use Rattle.format.specs.Verdicts.{Verdict}

-- where a refusal of what is no reading stands: position 0
abbrev pub nowhere : Spot
nowhere = spot_at no_section 0

told : {A : Type 0} (o : Outcome A) → Numbered (verdict_of o) o
unfolding answer_number answer_value
told (got a n) = (refl, refl)
told (refused f p) = (refl, refl)

pub numbered : {A : Type 0} {v : Verdict} (o : Outcome A) → v ≡ verdict_of o → Numbered v o
numbered o e = rw e (told o)

-- of a section read from p on
pub read_told : {A : Type 0} (p : ℕ) (o : Outcome A) → (taken_number (read_from p o) ≡ outcome_number o) × (taken_value (read_from p o) ≡ outcome_end p o)
unfolding taken_number taken_value
read_told p (got a n) = (refl, refl)
read_told p (refused f q) = (refl, refl)
