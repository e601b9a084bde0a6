-- By whether a value is left.
use mathlib.Core.Path.{sym, ◌∙◌}
use Rattle.storing.proofs.rows.next_row.Goals as goal

pub next_storage-requires : goal.next_storage-requires
next_storage-requires c = let pre = c.requires in (pre.0, (sym c.values_over.ensures ∙ c.if-values_over.true, pre.1))

pub next_value-requires : goal.next_value-requires
next_value-requires c = let pre = c.requires in (pre.0, (sym c.values_over.ensures ∙ c.if-values_over.false, pre.1))
