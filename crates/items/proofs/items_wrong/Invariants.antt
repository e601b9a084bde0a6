-- At p the answer is that of the whole list, and p passes the end by one item at most, which starts its size before p.
use Prim.Native.Nat.{◌≤◌, ◌+◌, ◌-◌}
use lib.ListN.{length}
use Rattle.format.specs.declared.Fault.TheVariants.{Items as ITEMS}
use Rattle.format.specs.Items.{item_tests}
use Rattle.format.specs.Steps.Wrong.{wrong}
use Rattle.items.proofs.Laws.{Come}
use Rattle.items.proofs.items_wrong.Given as goal

abbrev pub invariant-loop-p : goal.invariant-loop-p
invariant-loop-p l = record {
  small : l.size ≤ 65535;
  item : l.size ≤ l.p;
  begun : l.p ≤ length l.l + l.size;
  come : Come l.l l.at (l.p - l.size) l.p (wrong (item_tests ITEMS l.at 0 l.l));
}

abbrev pub decreases-loop-p : goal.decreases-loop-p
decreases-loop-p l = length l.l + 65536 - l.p
