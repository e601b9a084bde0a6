use native.Mathlib.Omega.{arith}
use Rattle.lines.proofs.HexLaws.{hex_none, hex_more}
use Rattle.lines.proofs.window.Window.hex.Goals as goal

pub loop-x-init : goal.loop-x-init
loop-x-init c = hex_none _ c.args.bytes.now

pub loop-x-preserved : goal.loop-x-preserved
loop-x-preserved c = hex_more _ _ {i = c.loop-x.x-index} c.loop-x.invariant (omega arith) c.byte.ensures
