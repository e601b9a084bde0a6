-- What a size says, way by way: each has its law.
use mathlib.Core.Path.{◌∙◌, sym}
use native.Mathlib.Omega.{arith}
use Rattle.storages.proofs.Laws.{no_size, size_ends, size_small, size_passes, part_bad, part_good}
use Rattle.storages.proofs.parts_wrong.Goals as goal

pub returns-then-size-eq0 : goal.returns-then-size-eq0
returns-then-size-eq0 g c = c.then_some.ensures ∙ size_ends _ _ _ _ c.loop-rest-test.true c.u32_at-size.ensures c.if-size-eq0.true ∙ c.loop-rest.invariant.same

pub returns-then-size-LEAST : goal.returns-then-size-LEAST
returns-then-size-LEAST g c =
    size_small _ _ _ _ c.loop-rest-test.true c.u32_at-size.ensures c.if-size-eq0.false (omega arith) ∙ c.loop-rest.invariant.same

pub returns-in_default : goal.returns-in_default
returns-in_default g c =
    size_passes _ _ _ _ c.loop-rest-test.true c.u32_at-size.ensures c.if-size-eq0.false (omega arith) c.in_default.ensures.cases ∙ c.loop-rest.invariant.same

pub returns-in-Some-part_wrong : goal.returns-in-Some-part_wrong
returns-in-Some-part_wrong g c =
    let k = c.in-Some.ensures.cases in
    part_bad _ _ _ _ c.loop-rest-test.true c.u32_at-size.ensures c.if-size-eq0.false (omega arith) (omega arith)
    (rw k.1 at (sym c.in-Some-part_wrong.is ∙ c.part_wrong.ensures)) ∙ c.loop-rest.invariant.same

pub loop-rest-preserved : goal.loop-rest-preserved
loop-rest-preserved g c =
    let k = c.in-Some.ensures.cases in
    record {
      whole = omega (arith, k);
      same =
          rw k.2
          (part_good _ _ _ _ c.loop-rest-test.true c.u32_at-size.ensures c.if-size-eq0.false (omega arith) (omega arith)
          (rw k.1 at (sym c.in_default-part_wrong.is ∙ c.part_wrong.ensures)) ∙ c.loop-rest.invariant.same);
    }

pub returns : goal.returns
returns g c = no_size _ _ _ _ (omega arith) ∙ c.loop-rest.invariant.same
