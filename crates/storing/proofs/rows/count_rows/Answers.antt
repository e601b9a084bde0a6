-- A store has no more rows than bytes, so that their count is a number.
use mathlib.Core.Path.{ap}
use mathlib.Core.Logic.{inl}
use native.Mathlib.Omega.{arith}
use lib.ListN.{length}
use Rattle.std.proofs.lemmas.Iterator.Consumers.{YieldsList-from_first, count_from_yields_List}
use Rattle.format.specs.StoreList.{store_rows}
use Rattle.storing.proofs.FewLaws.{store_few}
use Rattle.storing.proofs.rows.count_rows.Goals as goal

pub count-requires-clause-fits : goal.count-requires-clause-fits
count-requires-clause-fits c = inl (omega (arith, ap length c.new.ensures, store_few c.args.base c.args.l.now))

pub returns : goal.returns
returns c =
    let all = store_rows c.args.base c.args.l.now in
    let told = count_from_yields_List c.new.result c.count.result c.count.ensures.ran (YieldsList-from_first (λ x. x) (λ rest. rest) all c.new.ensures) in
    (told, omega (arith, told, store_few c.args.base c.args.l.now))
