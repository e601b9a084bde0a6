-- The row in the order of its slots, each with the length of its own text.
use Rattle.std.proofs.Common.{sym}
use Rattle.info.proofs.LengthLaws.{row_filled}
use Rattle.info.proofs.pieces_wrong.Goals as goal

pub returns-clause-lengths : goal.returns-clause-lengths
returns-clause-lengths c = sym (row_filled c.args.l.now c.args.texts.now (sym c.in_ok-a.ensures.is) (sym c.in_ok-d.ensures.is))
