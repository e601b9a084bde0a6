use mathlib.Core.Path.{refl}
use Rattle.header.proofs.high_byte_ok.Goals as goal

pub returns : goal.returns
returns c = refl
