-- At the position that is given.
use mathlib.Core.Path.{refl}
use Rattle.format.proofs.Refused.at.Goals as goal

pub returns : goal.returns
returns c = refl
