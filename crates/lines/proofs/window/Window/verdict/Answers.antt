-- The parts of each kind of line, one after another, are the line.
use Rattle.lines.proofs.LineLaws.{accepted_line, refused_line}
use Rattle.lines.proofs.WindowLaws.{Showed-join, Showed-as}
use Rattle.lines.proofs.window.Window.verdict.Goals as goal

pub returns-in-Ok : goal.returns-in-Ok
returns-in-Ok c =
    Showed-as (Showed-join (Showed-join c.show.ensures c.decimal.ensures) c.show-in-Ok.ensures) (accepted_line c.in-Ok.is)

pub returns-in-Err : goal.returns-in-Err
returns-in-Err c =
    let number-shown = Showed-join c.show-in-Err.ensures c.decimal-in-Err.ensures in
    let place-shown = Showed-join (Showed-join number-shown c.show-in-Err-2.ensures) c.decimal-in-Err-2.ensures in
    Showed-as (Showed-join place-shown c.show-in-Err-3.ensures) (refused_line c.in-Err.is c.number_of.ensures)
