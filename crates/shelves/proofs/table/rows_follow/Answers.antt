use mathlib.Core.Path.{◌∙◌}
use native.Mathlib.Omega.{arith}
use lib.ListN.{length}
use Rattle.shelves.proofs.TableLaws.{follow_stop, follow_on, follow_end}
use Rattle.shelves.proofs.table.rows_follow.Goals as goal

pub returns-then-b-at : goal.returns-then-b-at
returns-then-b-at c =
    let other = rw c.row-b.ensures.is at c.if-b-at.true in
    follow_stop c.args.s.now c.args.n c.loop-k.k c.loop-k.at (length c.args.s.now) c.loop-k-test.true other ∙ c.loop-k.invariant.follow

pub loop-k-preserved : goal.loop-k-preserved
loop-k-preserved c =
    let same = rw c.row-b.ensures.is at c.if-b-at.false in
    let on = follow_on c.args.s.now c.args.n c.loop-k.k c.loop-k.at (length c.args.s.now) c.loop-k-test.true same in
    record { small = omega (arith, c.loop-k.invariant.small, c.row-b.ensures.small); follow = rw c.row-b.ensures.is (on ∙ c.loop-k.invariant.follow) }

pub returns : goal.returns
returns c = follow_end c.args.s.now c.args.n c.loop-k.k c.loop-k.at (length c.args.s.now) c.loop-k-test.false ∙ c.loop-k.invariant.follow
