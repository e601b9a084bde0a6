use mathlib.Core.Path.{refl}
use Rattle.header.proofs.low_byte_ok.Goals as goal

pub returns : goal.returns
returns c = refl
