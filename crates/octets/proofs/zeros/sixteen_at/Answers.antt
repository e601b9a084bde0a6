use native.Mathlib.Omega.{arith}
use Prim.Native.Nat.{◌/◌}
use lib.ListN.{length}
use Rattle.octets.proofs.ZeroLaws.{sixteen_here, sixteen_more, sixteen_none}
use Rattle.octets.proofs.zeros.sixteen_at.Goals as goal

pub returns-then-not-passed : goal.returns-then-not-passed
returns-then-not-passed g c =
    sixteen_here g.C.Character.unicode c.args.t.now c.loop-j.j c.loop-j.invariant c.count-k.ensures (omega arith) c.sixteen_bytes-passed.ensures c.if-not-passed.true

pub loop-j-preserved : goal.loop-j-preserved
loop-j-preserved g c =
    sixteen_more g.C.Character.unicode c.args.t.now c.loop-j.j c.loop-j.invariant c.count-k.ensures (omega arith) c.sixteen_bytes-passed.ensures c.if-not-passed.false

pub returns : goal.returns
returns g c =
    sixteen_none g.C.Character.unicode c.args.t.now (length c.args.t.now / 16) (omega arith) (omega arith)
