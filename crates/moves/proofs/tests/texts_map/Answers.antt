-- Each text that will be dropped is looked at beside its own Unicode text.
use mathlib.Core.Path.{ap₂}
use mathlib.Core.Bool.{◌&&◌}
use Rattle.format.proofs.RowLaws.{bytes_at_lem}
use Rattle.moves.proofs.tests.texts_map.Goals as goal

pub returns-else-not-r : goal.returns-else-not-r
returns-else-not-r c =
    let at = bytes_at_lem c.args.d.now c.args.r.places in
    rw (c.if-unicode.false, c.if-not-r.false, at 2, at 8, at 7, at 9) (ap₂ ◌&&◌ c.translated.ensures c.translated-else-not-r.ensures)
