-- The length counted so far and that of the rows left are the whole length.
use mathlib.Core.Path.{◌≡◌}
use mathlib.Core.Bool.{true}
use Prim.Native.Nat.{◌≤◌}
use lib.ListN.{length}
use Rattle.format.specs.StoreWriting.{rows_placed, rows_from, entries}
use Rattle.stores.specs.Steps.Sizes.{values_kind, store_size}
use Rattle.stores.proofs.TestLaws.{rows_on, size_with}
use Rattle.stores.proofs.tests.store_size.Given as goal

abbrev pub invariant-loop-k : goal.invariant-loop-k
invariant-loop-k l = record {
  placed : rows_placed (length l.d) (rows_on l.rows l.k) ≡ true;
  capped : l.size ≤ 65449;
  size : size_with l.d (values_kind l.values) l.size (rows_on l.rows l.k) ≡ store_size (entries l.d (rows_from l.rows));
}
