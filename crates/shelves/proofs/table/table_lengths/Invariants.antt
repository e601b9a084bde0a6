-- The lengths of the rows passed stand in front.
use mathlib.Core.Path.{◌≡◌}
use lib.ListN.{take}
use Rattle.octets.specs.Parts.{put}
use Rattle.shelves.specs.Steps.Apart.{table_lengths}
use Rattle.shelves.proofs.table.table_lengths.Given as goal

abbrev pub invariant-loop-k : goal.invariant-loop-k
invariant-loop-k l = l.lengths ≡ put l.initial.lengths 0 (take l.k (table_lengths l.s))
