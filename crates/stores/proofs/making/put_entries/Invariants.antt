-- What is put and what the rows left make is all that was to be put.
use Rattle.format.specs.StoreWriting.{entries, rows_from}
use Rattle.stores.specs.Steps.Making.{open_bytes}
use Rattle.stores.proofs.TestLaws.{rows_on}
use Rattle.stores.proofs.MakingLaws.{Making}
use Rattle.stores.proofs.making.put_entries.Given as goal

abbrev pub invariant-loop-k : goal.invariant-loop-k
invariant-loop-k l = Making (open_bytes (entries l.d (rows_from l.rows))) l.d l.initial.w (rows_on l.rows l.k) l.w
