use native.Mathlib.Omega.{arith}
use mathlib.Core.Logic.{inl}
use Rattle.format.specs.StoreList.{store_rows}
use Rattle.storing.proofs.RowLaws.{numbers_long, Putting-none, Putting-more}
use Rattle.storing.proofs.rows.put_rows.Goals as goal

pub loop-k-init-derived : goal.loop-k-init-derived
loop-k-init-derived c =
    let e = c.enumerate-k-items.ensures in
    ((tt, tt, inl (rw (c.into_iter-k-iterator.ensures.into_iter_gives, e.source, e.count, c.new.ensures) (omega (arith, numbers_long (store_rows c.args.base c.args.l.now), c.requires.1.1, c.well_formed)))), tt)

pub loop-k-init : goal.loop-k-init
loop-k-init c =
    let e = c.enumerate-k-items.ensures in
    rw (c.into_iter-k-iterator.ensures.into_iter_gives, e.source, e.count, c.new.ensures) (Putting-none c.requires.1.1)

pub loop-k-preserved : goal.loop-k-preserved
loop-k-preserved c =
    let s = c.in-Some.ensures.steps in
    rw s.2 (Putting-more c.requires.1.1 c.loop-k.invariant s.0 (rw s.1 at c.put_row.ensures))
