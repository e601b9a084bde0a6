-- The rows are those of the store.
use mathlib.Core.Path.{◌∙◌}
use Rattle.std.proofs.lemmas.Iterator.Consumers.{YieldsList-from_first, nth_from_yields_List}
use Rattle.format.specs.StoreList.{store_rows}
use Rattle.storing.proofs.RowLaws.{row_told}
use Rattle.storing.proofs.rows.row_at.Goals as goal

pub returns : goal.returns
returns c =
    let all = store_rows c.args.base c.args.l.now in
    let found = nth_from_yields_List c.nth.result c.nth.new.self c.args.k c.nth.ensures.ran (YieldsList-from_first (λ x. x) (λ rest. rest) all c.new.ensures) in
    c.unwrap_or.ensures ∙ row_told c.nth.result all c.args.k found
