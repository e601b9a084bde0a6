-- All bytes are written, and the output stands behind them.
use mathlib.Core.Path.{refl}
use native.Mathlib.Omega.{arith}
use Rattle.copies.proofs.OutputLaws.{Writes-made}
use Rattle.copies.proofs.output.Output.put_bytes.Goals as goal

pub returns : goal.returns
returns c = Writes-made _ c.requires refl refl c.put_bytes.ensures refl (omega arith)
