-- What fits of the entries left fits of all, and those passed are counted.
use mathlib.Core.Path.{◌≡◌}
use Prim.Native.Nat.{◌+◌, ◌-◌}
use lib.ListN.{length}
use Rattle.shelves.specs.OldFile.{old_fits, old_entries}
use Rattle.shelves.specs.Table.{most_entries}
use Rattle.shelves.proofs.old.old_count.Given as goal

abbrev pub invariant-loop-k : goal.invariant-loop-k
invariant-loop-k l = record {
  fits : old_fits (most_entries - l.k) l.rest ≡ old_fits most_entries l.s;
  count : l.k + length (old_entries (most_entries - l.k) l.rest) ≡ length (old_entries most_entries l.s);
}
