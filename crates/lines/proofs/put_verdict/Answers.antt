-- A window on an empty buffer shows a piece of the text.
use Rattle.std.proofs.Common.{rules}
use Rattle.lines.proofs.WindowLaws.{piece_shown}
use Rattle.lines.proofs.put_verdict.Goals as goal

pub returns : goal.returns
returns c =
    let shown = piece_shown c.verdict.ensures c.new-w.ensures.out c.new-w.ensures.at c.new-w.ensures.skip in
    search rules
