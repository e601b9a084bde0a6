-- From one due place to the next, up to the end.
use native.Mathlib.Omega.{arith}
use Rattle.writable.proofs.WalkLaws.{items_begin, items_refuse, items_step, items_end}
use Rattle.writable.proofs.items_ok.Goals as goal

pub loop-p-init : goal.loop-p-init
loop-p-init c = items_begin c.args.x.now (omega arith)

pub returns-then-size-lt2 : goal.returns-then-size-lt2
returns-then-size-lt2 c = items_refuse c.args.x.now c.loop-p.p c.loop-p.invariant (omega arith) c.u16_at-size.ensures (omega arith)

pub loop-p-preserved : goal.loop-p-preserved
loop-p-preserved c = items_step c.args.x.now c.loop-p.p c.loop-p.invariant (omega arith) c.u16_at-size.ensures (omega arith) (omega arith)

pub returns : goal.returns
returns c = items_end c.args.x.now c.loop-p.p c.loop-p.invariant (omega arith)
