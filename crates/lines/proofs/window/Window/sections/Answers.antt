-- Eight lines, one after another, are those of the sections.
use Rattle.lines.proofs.LineLaws.{section_parts}
use Rattle.lines.proofs.WindowLaws.{Showed-join, Showed-as}
use Rattle.lines.specs.Text.{name_text}
use Rattle.lines.proofs.window.Window.sections.Goals as goal

pub returns : goal.returns
unfolding name_text
returns c =
    let first = Showed-join (Showed-join c.line.ensures c.line_if.ensures) c.line_if-2.ensures in
    let second = Showed-join (Showed-join first c.line_if-3.ensures) c.line_if-4.ensures in
    let third = Showed-join (Showed-join second c.line_if-5.ensures) c.line_if-6.ensures in
    Showed-as (Showed-join third c.line_if-7.ensures)
    (section_parts _ _ c.items_there.ensures c.info_there.ensures c.name_there.ensures c.relative_there.ensures c.workdir_there.ensures c.arguments_there.ensures c.icon_there.ensures)
