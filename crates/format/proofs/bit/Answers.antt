-- Shifted by K, the remainder by two is the bit.
use mathlib.Core.Path.{refl}
use Rattle.format.proofs.bit.Goals as goal

pub returns : goal.returns
returns k c = refl
