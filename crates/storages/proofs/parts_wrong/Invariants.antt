-- At p the answer is that of all parts.
use Prim.Native.Nat.{◌+◌}
use mathlib.Core.Path.{◌≡◌}
use lib.ListN.{length}
use Rattle.storages.proofs.Laws.{wrong_in}
use Rattle.storages.proofs.parts_wrong.Given as goal

abbrev pub invariant-loop-rest : goal.invariant-loop-rest
invariant-loop-rest g l = record {
  whole : l.p + length l.rest ≡ l.at + length l.l;
  same : wrong_in g.P.Part.LEAST (g.P.Part.tests l.kind) l.p l.rest ≡ wrong_in g.P.Part.LEAST (g.P.Part.tests l.kind) l.at l.l;
}

abbrev pub decreases-loop-rest : goal.decreases-loop-rest
decreases-loop-rest g l = length l.rest
