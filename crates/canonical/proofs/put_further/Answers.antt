-- Where there are none nothing is written.
use mathlib.Core.Path.{◌≡◌}
use mathlib.Core.List.{List, [], ◌∷◌}
use Prim.Native.Nat.{ℕ, ◌≤◌}
use native.Mathlib.Omega.{arith}
use lib.ListN.{length}
use Rattle.copies.specs.Steps.Writes.{Writes}
use Rattle.copies.specs.declared.output.Output.{Output}
use Rattle.copies.proofs.OutputLaws.{Writes-none}
use Rattle.canonical.proofs.put_further.Goals as goal

none_put : (o : Output) (x : List ℕ) → length x ≡ 0 → o.at ≤ length o.out.now → Writes o o x (length x)
none_put o [] e h = Writes-none o h
none_put o (b ∷ x) e h = cc

pub returns-then-x-gt0 : goal.returns-then-x-gt0
returns-then-x-gt0 c = c.put_bytes.ensures

pub returns-else-x-gt0 : goal.returns-else-x-gt0
returns-else-x-gt0 c = none_put _ c.args.x.now (omega arith) (omega arith)
