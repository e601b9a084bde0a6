-- The bodies of the rows left follow if all do; a start is bounded by the rows passed, so that no sum wraps.
use mathlib.Core.Path.{◌≡◌}
use Prim.Native.Nat.{◌+◌, ◌*◌, ◌≤◌}
use lib.ListN.{length, drop}
use Rattle.shelves.specs.Table.{table_rows, bodies_start, rows_follow}
use Rattle.shelves.proofs.TableLaws.{rows_on}
use Rattle.shelves.proofs.table.rows_follow.Given as goal

abbrev pub invariant-loop-k : goal.invariant-loop-k
invariant-loop-k l = record {
  small : l.at ≤ bodies_start l.n + 4294967296 * l.k;
  follow : rows_follow (length l.s) l.at (rows_on l.s l.n l.k) ≡ rows_follow (length l.s) (bodies_start l.n) (table_rows l.n (drop 4 l.s));
}
