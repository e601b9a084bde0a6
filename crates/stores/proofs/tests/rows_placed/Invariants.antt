-- What is true of the rows left is true of all.
use mathlib.Core.Path.{◌≡◌}
use Rattle.format.specs.StoreWriting.{rows_placed, rows_from}
use Rattle.stores.proofs.TestLaws.{rows_on}
use Rattle.stores.proofs.tests.rows_placed.Given as goal

abbrev pub invariant-loop-k : goal.invariant-loop-k
invariant-loop-k l = rows_placed l.n (rows_on l.rows l.k) ≡ rows_placed l.n (rows_from l.rows)
