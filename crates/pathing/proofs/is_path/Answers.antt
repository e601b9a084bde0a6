-- The test compares with the three signatures of the definition.
use mathlib.Core.Path.{refl}
use Rattle.pathing.proofs.is_path.Goals as goal

pub returns : goal.returns
returns c = refl
