-- The code of a fetch.
use mathlib.Core.Path.{◌≡◌, refl}
use Prim.Native.Nat.{◌+◌, ◌*◌}
use Rattle.format.specs.declared.Place.{Place}
use Rattle.format.specs.declared.Refused.{Refused}
use Rattle.scheduler.specs.Code.{code_of}
use Rattle.scheduler.specs.Shelves.{fetch_code}
use Rattle.std.specs.Prelude.{Ok, Err}

pub fetch_shown : (b : Place) → 256 * (b.len + 65537 * b.at) ≡ fetch_code (Ok b)
unfolding fetch_code
fetch_shown b = refl

pub fetch_refused : (r : Refused) → code_of (Err r) ≡ fetch_code (Err r)
unfolding fetch_code
fetch_refused r = refl

-- what the code of a fetch rests on
pub ruleset fetched = (fetch_shown, fetch_refused)
