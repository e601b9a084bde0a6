-- A section that is there has its line, and any other has none.
use Rattle.lines.proofs.LineLaws.{line_there, line_absent}
use Rattle.lines.proofs.WindowLaws.{Showed-none, Showed-as}
use Rattle.lines.proofs.window.Window.line_if.Goals as goal

pub returns-then-there : goal.returns-then-there
returns-then-there c = Showed-as c.line.ensures (line_there _ _ _ c.if-there.true c.saturating_sub.ensures)

pub returns-else-there : goal.returns-else-there
returns-else-there c = Showed-as (Showed-none _) (line_absent _ _ _ c.if-there.false)
