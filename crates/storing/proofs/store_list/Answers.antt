-- A refusal goes out as it came; without a block there are no rows; else all of them are put, or none.
use Rattle.std.proofs.lemmas.Result.{err_from_is_err_and}
use native.Mathlib.Omega.{arith}
use Rattle.storing.proofs.ListLaws.{store_ready, list_left, list_none, list_room, list_fits, list_put}
use Rattle.storing.proofs.store_list.Goals as goal

pub returns-in_err-b : goal.returns-in_err-b
returns-in_err-b c =
    let p = err_from_is_err_and c.from_residual.result c.from_residual.ensures.1 in
    let both = list_left _ _ _ c.in_err-b.ensures in
    rw (p.1, p.2) (record { answer = both.0; output = both.1.0; numbers = both.1.1 })

pub returns-in_default : goal.returns-in_default
returns-in_default c =
    let both = list_none _ _ _ (rw c.in_default.is at c.in_ok-b.ensures) in record { answer = both.0; output = both.1.0; numbers = both.1.1 }

pub returns-then-rows-n : goal.returns-then-rows-n
returns-then-rows-n c =
    let both = list_room _ _ _ (rw c.in-Some.is at c.in_ok-b.ensures) (rw c.store_of-l.ensures at c.count_rows-n.ensures.0) c.if-rows-n.true in rw c.at.ensures (record { answer = both.0; output = both.1.0; numbers = both.1.1 })

pub put_rows-requires : goal.put_rows-requires
put_rows-requires c =
    let q = c.store_of-l.ensures in
    let ready = store_ready _ _ (rw c.in-Some.is at c.in_ok-b.ensures).holds (omega (arith, c.well_formed)) q in
    (ready.0, (ready.1, rw q (list_fits _ c.args.s.now c.args.rows.now (rw c.in-Some.is at c.in_ok-b.ensures) (rw q at c.count_rows-n.ensures.0) c.if-rows-n.false)))

pub returns : goal.returns
returns c =
    let q = c.store_of-l.ensures in
    let both = list_put _ _ _ (rw c.in-Some.is at c.in_ok-b.ensures) (rw q at c.count_rows-n.ensures.0) c.if-rows-n.false (rw q at c.put_rows.ensures) in record { answer = both.0; output = both.1.0; numbers = both.1.1 }
