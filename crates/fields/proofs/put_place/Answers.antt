-- Two stores at places of their own.
use Rattle.fields.specs.Steps.Putting.{with_place}
use mathlib.Core.Path.{refl}
use Rattle.fields.proofs.put_place.Goals as goal

pub returns : goal.returns
unfolding with_place
returns c = refl
