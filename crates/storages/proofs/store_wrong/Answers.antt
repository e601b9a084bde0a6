use Rattle.format.specs.Store.{store_tests}
use Rattle.format.proofs.StoreLaws.{store_wrong_inside}
use Rattle.storages.proofs.store_wrong.Goals as goal

pub returns-clause-is : goal.returns-clause-is
unfolding store_tests
returns-clause-is c = c.parts_wrong.ensures

pub returns-clause-inside : goal.returns-clause-inside
unfolding store_tests
returns-clause-inside c = rw c.parts_wrong.ensures (store_wrong_inside c.args.at c.args.l.now)
