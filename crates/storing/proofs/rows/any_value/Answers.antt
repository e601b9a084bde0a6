-- The rows are those of the store.
use mathlib.Core.Path.{sym, ◌∙◌}
use mathlib.Core.Bool.{not}
use lib.Dec.{eqb}
use borrow.Author.Tests.{tests}
use Rattle.std.proofs.Common.{rules}
use Rattle.std.proofs.lemmas.Iterator.Consumers.{YieldsList-from_first}
use Rattle.std.proofs.lemmas.Iterator.Search.{any_from_yields_List}
use Rattle.format.specs.declared.StoreRow.{StoreRow}
use Rattle.format.specs.StoreList.{store_rows}
use Rattle.storing.proofs.RowLaws.{values_any}
use Rattle.storing.proofs.rows.any_value.Goals as goal

pub returns : goal.returns
returns c =
    let all = store_rows c.args.base c.args.l.now in
    any_from_yields_List (λ (r : StoreRow). not (eqb r.kind 0)) _ _ c.any.result c.any.ensures.ran (YieldsList-from_first (λ x. x) (λ rest. rest) all c.new.ensures) (λ x b q k. search (rules, tests))
    ∙ sym (values_any all)
