-- The sizes counted so far and those of the rows left are all of them.
use mathlib.Core.Path.{◌≡◌}
use Prim.Native.Nat.{◌+◌}
use Rattle.format.specs.StoreWriting.{rows_from}
use Rattle.stores.specs.Steps.Making.{values_size}
use Rattle.stores.proofs.TestLaws.{rows_on}
use Rattle.stores.proofs.making.values_size.Given as goal

abbrev pub invariant-loop-k : goal.invariant-loop-k
invariant-loop-k l = l.n + values_size (rows_on l.rows l.k) ≡ 4 + values_size (rows_from l.rows)
