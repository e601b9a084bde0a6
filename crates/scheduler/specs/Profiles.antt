-- FORMAT: C functions. The profile as a number, which is tested before all else.
use Rattle.std.specs.Prelude.{ℕ, cond, leb, eqb}
use Rattle.format.specs.declared.Profile.{Profile}
use Rattle.format.specs.declared.Profile.TheVariants.{Strict, NinetyFive}

-- a number that is no profile; its value is 0
abbrev pub PROFILE : ℕ
PROFILE = 203

-- 0 is strict and 1 is 95
abbrev pub profile_of : ℕ → Profile
profile_of n = cond (eqb n 0) Strict NinetyFive

-- what a call gives by its profile; of any other number what stands for a refusal
abbrev pub under_profile : {A : Type 0} → ℕ → (Profile → A) → A → A
under_profile n f none = cond (leb n 1) (f (profile_of n)) none
