-- Four bytes are written, and the output stands behind all of them.
use mathlib.Core.Path.{refl}
use native.Mathlib.Omega.{arith}
use Rattle.octets.proofs.NumberLaws.{length-little}
use Rattle.copies.proofs.OutputLaws.{Writes-made}
use Rattle.copies.proofs.output.Output.put_u32.Goals as goal

pub returns : goal.returns
returns c = Writes-made _ c.requires (length-little 4 _) refl c.put_u32.ensures refl (omega arith)
