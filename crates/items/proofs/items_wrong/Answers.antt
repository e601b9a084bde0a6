-- A size that does not count itself ends the walk, every other leads on, and at the end the last item passes it or a size is lacking.
use mathlib.Core.Path.{◌≡◌, ◌∙◌, sym}
use Prim.Native.Nat.{◌+◌, ◌-◌}
use native.Mathlib.Omega.{arith}
use Rattle.items.proofs.Laws.{no_size, items_lack, items_stop, items_more}
use Rattle.items.proofs.items_wrong.Goals as goal

pub returns-in_default-clause-is : goal.returns-in_default-clause-is
returns-in_default-clause-is c = sym (no_size _ _ (omega (arith, c.in_default.ensures)))

pub returns-then-size-lt2-clause-is : goal.returns-then-size-lt2-clause-is
returns-then-size-lt2-clause-is c =
    c.then_some.ensures ∙ items_stop _ c.loop-p.invariant.come (omega (arith, c.in-Some.ensures)) c.u16_at-size.ensures c.if-size-lt2.true _ (omega (arith, c.in-Some.ensures))

pub loop-p-preserved : goal.loop-p-preserved
loop-p-preserved c =
    let n = c.u16_at-size.result in
    let p = c.loop-p.p in
    let e : p + n - n ≡ p = omega arith in
    record {
      small = omega arith;
      item = omega arith;
      begun = omega (arith, c.in-Some.ensures);
      come = rw e (items_more _ c.loop-p.invariant.come (omega (arith, c.in-Some.ensures)) c.u16_at-size.ensures c.if-size-lt2.false);
    }

pub returns-else-l-p-clause-is : goal.returns-else-l-p-clause-is
returns-else-l-p-clause-is c = items_lack _ c.loop-p.invariant.come (omega (arith, c.in-Some.ensures)) c.if-l-p.false
