-- Without a block there is no row; else the row of its store.
use mathlib.Core.Path.{refl}
use Rattle.storing.proofs.ListLaws.{row_none, row_refused, row_is}
use Rattle.storing.proofs.row_of.Goals as goal

pub returns-in-Ok-Some : goal.returns-in-Ok-Some
returns-in-Ok-Some c = row_is _ _ _ (rw c.in-Ok-Some.field-0-is at c.in-Ok-Some.ensures) (rw c.store_of.ensures at c.row_at.ensures)

pub returns-in-Ok-None : goal.returns-in-Ok-None
returns-in-Ok-None c = row_none _ _ _ (rw c.in-Ok-None.field-0-is at c.in-Ok-None.ensures) refl

pub returns-in-Err : goal.returns-in-Err
returns-in-Err c = row_refused _ _ _ c.in-Err.ensures refl
