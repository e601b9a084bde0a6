-- The row of that number.
use mathlib.Core.Path.{sym, ◌∙◌}
use native.Mathlib.Omega.{arith}
use Rattle.shelves.proofs.TableLaws.{shelf_Right, row_is}
use Rattle.shelves.proofs.table.shelf_row.Goals as goal

pub row-requires : goal.row-requires
row-requires c = omega (arith, c.requires.1, (shelf_Right c.args.s.now c.requires.0).room)

pub returns : goal.returns
returns c = c.row.ensures.is ∙ sym (row_is c.args.s.now c.args.k c.requires.1)
