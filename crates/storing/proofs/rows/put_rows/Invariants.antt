-- The numbers put and those of the rows left are all numbers.
use Rattle.std.specs.Iterator.Adapters.{enumerate_source, enumerate_count}
use Rattle.format.specs.StoreList.{store_rows}
use Rattle.storing.proofs.RowLaws.{Putting}
use Rattle.storing.proofs.rows.put_rows.Given as goal

abbrev pub invariant-loop-k : goal.invariant-loop-k
invariant-loop-k l = Putting (store_rows l.fn.base l.fn.l) l.initial.rows (enumerate_source l.k-iterator) (enumerate_count l.k-iterator) l.rows
