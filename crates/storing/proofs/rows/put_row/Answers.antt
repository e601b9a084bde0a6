-- Six numbers, one after another.
use native.Mathlib.Omega.{arith}
use lib.ListN.{length-set}
use Rattle.storing.proofs.RowLaws.{six_put}
use Rattle.storing.proofs.rows.put_row.Goals as goal

pub bounds-rows-at-2 : goal.bounds-rows-at-2
bounds-rows-at-2 c = simp length-set (omega arith)

pub bounds-rows-at-3 : goal.bounds-rows-at-3
bounds-rows-at-3 c = simp length-set (omega arith)

pub bounds-rows-at-4 : goal.bounds-rows-at-4
bounds-rows-at-4 c = simp length-set (omega arith)

pub bounds-rows-at-5 : goal.bounds-rows-at-5
bounds-rows-at-5 c = simp length-set (omega arith)

pub bounds-rows-at-6 : goal.bounds-rows-at-6
bounds-rows-at-6 c = simp length-set (omega arith)

pub returns : goal.returns
returns c = six_put _ _ _ _ _ _ _ _ c.requires
