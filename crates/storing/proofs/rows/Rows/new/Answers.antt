-- No storage is at hand yet, so all rows are left.
use Rattle.storing.proofs.RowLaws.{first_rows}
use Rattle.storing.proofs.rows.Rows.new.Goals as goal

pub returns : goal.returns
returns c = first_rows c.args.store.now c.args.base
