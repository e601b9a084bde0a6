-- What is known of the number that was tested for a profile.
use mathlib.Core.Path.{◌≡◌, refl, sym}
use mathlib.Core.Bool.{Bool, true, false, cond}
use Prim.Native.Nat.{ℕ}
use native.Mathlib.Omega.{arith}
use lib.Dec.{leb}
use Rattle.std.specs.Prelude.{Some, None}
use Rattle.std.proofs.lemmas.Option.{cond_some}
use Rattle.format.specs.declared.Profile.{Profile}
use Rattle.scheduler.specs.Profiles.{profile_of, under_profile}

pub no_profile : (n : ℕ) → None ≡ under_profile n Some None → leb n 1 ≡ false
no_profile n e = go (leb n 1) e
  where
    go : (b : Bool) → None ≡ cond b (Some (profile_of n)) None → b ≡ false
    go true h = absurd (let z : ◌≡◌ {A = ℕ} 0 1 = cc in omega arith)
    go false h = refl

module _ (n : ℕ) (p : Profile) (e : Some p ≡ under_profile n Some None) where
  pub a_profile : leb n 1 ≡ true
  a_profile = (cond_some (leb n 1) (profile_of n) p (sym e)).0

  pub that_profile : profile_of n ≡ p
  that_profile = (cond_some (leb n 1) (profile_of n) p (sym e)).1

-- what a call rests on that takes a profile
pub ruleset asked = (no_profile, a_profile, that_profile)
