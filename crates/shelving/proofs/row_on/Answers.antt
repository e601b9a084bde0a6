-- A table that is right has a count.
use mathlib.Core.Path.{sym, ◌∙◌}
use Rattle.shelves.proofs.TableLaws.{shelf_Right}
use Rattle.shelving.proofs.row_on.Goals as goal

pub u32_at-requires : goal.u32_at-requires
u32_at-requires c = (shelf_Right c.args.s.now (sym c.table_ok.ensures ∙ c.if-not-table_ok.false)).long
