-- As many bytes as the body has, from where it starts.
use mathlib.Core.Path.{ap}
use Prim.Native.Nat.{ℕ}
use native.Mathlib.Omega.{arith}
use lib.ListN.{take, drop}
use Rattle.canonical.proofs.texts.body.Goals as goal

pub returns-clause-is : goal.returns-clause-is
returns-clause-is c = ap (λ (n : ℕ). take n (drop c.args.b.at c.args.d.now)) (omega arith)
