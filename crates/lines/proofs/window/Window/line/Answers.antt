-- Six parts, one after another, are the line.
use Rattle.lines.proofs.LineLaws.{line_parts}
use Rattle.lines.proofs.WindowLaws.{Showed-join, Showed-as}
use Rattle.lines.proofs.window.Window.line.Goals as goal

pub returns : goal.returns
returns c =
    let name = Showed-join c.show.ensures c.show-2.ensures in
    let place = Showed-join (Showed-join name c.decimal.ensures) c.show-3.ensures in
    Showed-as (Showed-join (Showed-join place c.decimal-2.ensures) c.show-4.ensures) (line_parts _ _ _)
