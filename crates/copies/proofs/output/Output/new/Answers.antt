-- The buffer is the one that is lent, and nothing is put yet.
use mathlib.Core.Path.{refl}
use Rattle.copies.proofs.output.Output.new.Goals as goal

pub returns : goal.returns
returns c = refl
