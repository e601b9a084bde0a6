use mathlib.Core.Path.{◌≡◌, sym, ap, ◌∙◌}
use native.Mathlib.Omega.{arith}
use Prim.Native.Nat.{◌+◌, ◌-◌}
use lib.ListN.{length}
use borrow.Author.Tests.{eqb-true, eqb-false}
use Rattle.shelves.specs.Table.{most_entries}
use Rattle.shelves.proofs.OldLaws.{old_on, count_end, count_past, count_last}
use Rattle.shelves.proofs.old.old_count.Goals as goal

pub returns-then-is_empty : goal.returns-then-is_empty
returns-then-is_empty c =
    let I = c.loop-k.invariant in
    count_end c.args.s.now c.loop-k.rest.now c.loop-k.k I.fits I.count (eqb-true (length c.loop-k.rest.now) 0 (sym c.is_empty.ensures ∙ c.if-is_empty.true))

pub returns-in_err-after : goal.returns-in_err-after
returns-in_err-after c =
    let I = c.loop-k.invariant in
    let more = eqb-false (length c.loop-k.rest.now) 0 (sym c.is_empty.ensures ∙ c.if-is_empty.false) in
    c.from_residual.ensures ∙ count_past c.args.s.now c.loop-k.rest.now c.loop-k.k I.fits I.count more c.in_err-after.ensures

pub loop-k-preserved : goal.loop-k-preserved
loop-k-preserved c =
    let I = c.loop-k.invariant in
    let t = c.loop-k.rest.now in
    let e = c.in_ok-after.ensures in
    let more = eqb-false (length t) 0 (sym c.is_empty.ensures ∙ c.if-is_empty.false) in
    let on = old_on t more (most_entries - c.loop-k.k) (omega (arith, c.loop-k-test.true)) e.0 in
    let fewer : most_entries - c.loop-k.k - 1 ≡ most_entries - (c.loop-k.k + 1) = omega arith in
    rw (e.2, ← fewer) (record { fits = sym on.0 ∙ I.fits; count = omega (arith, I.count, ap length on.1) })

pub returns : goal.returns
returns c =
    let I = c.loop-k.invariant in
    c.then_some.ensures ∙ count_last c.args.s.now c.loop-k.rest.now c.loop-k.k I.fits I.count (omega arith) c.is_empty-2.ensures
