-- The fewest digits that hold the number are its decimal text.
use native.Mathlib.Omega.{arith}
use mathlib.Core.Path.{◌∙◌}
use Rattle.lines.proofs.DecimalLaws.{decimal_is}
use Rattle.lines.proofs.WindowLaws.{Showed-as}
use Rattle.lines.proofs.window.Window.decimal.Goals as goal

pub returns : goal.returns
returns c =
    let told = c.decimal-k.ensures in
    Showed-as c.show.ensures (told.digits ∙ decimal_is (omega (arith, c.ranges.n)) told.len)
