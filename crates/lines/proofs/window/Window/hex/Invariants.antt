-- The first bytes were shown in hex; one more goes behind them.
use lib.ListN.{take}
use Rattle.lines.specs.Steps.Windows.{Showed}
use Rattle.lines.specs.Text.{hex_of}
use Rattle.lines.proofs.window.Window.hex.Given as goal

abbrev pub invariant-loop-x : goal.invariant-loop-x
invariant-loop-x l = Showed l.initial.self (hex_of (take l.x-index l.bytes)) l.self
