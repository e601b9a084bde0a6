-- The rows put and those left are all rows; the starts and the lengths left add up.
use mathlib.Core.Path.{◌≡◌}
use Prim.Native.Nat.{◌+◌}
use lib.ListN.{length, drop}
use Rattle.format.specs.Shortcut.{sum}
use Rattle.shelves.specs.Table.{bodies_start, table_bytes}
use Rattle.shelves.proofs.PutLaws.{Putting}
use Rattle.shelves.proofs.making.put_table.Given as goal

abbrev pub invariant-loop-n : goal.invariant-loop-n
invariant-loop-n l = record {
  starts : l.start + sum (drop l.n-index l.lengths) ≡ bodies_start (length l.lengths) + sum l.lengths;
  rows : Putting l.initial.w (table_bytes (bodies_start (length l.lengths)) l.lengths) (table_bytes l.start (drop l.n-index l.lengths)) l.w;
}
