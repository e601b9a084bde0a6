-- The number is the field itself.
use mathlib.Core.Path.{refl}
use Rattle.copies.proofs.output.Output.at.Goals as goal

pub returns : goal.returns
returns c = refl
