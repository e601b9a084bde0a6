-- One law for each way out; that each ends as it has to comes from the type of the body buffer.
use Rattle.storing.proofs.WriteLaws.{ended, write_outside, all_placed, write_uneven, write_none, write_long, write_room, write_fits, write_written}
use Rattle.octets.specs.Numbers.{Bytes}
use native.Mathlib.Omega.{arith}
use Rattle.storing.proofs.store_write.Goals as goal
use Rattle.storing.proofs.store_write.Goals.{After-shared_slice_known-2-1}

all-bytes : (c : After-shared_slice_known-2-1) → Bytes c.args.d.now
all-bytes c = record { at = λ i. omega (arith, c.shared_slice_known-2-1.given i) }

pub returns-then-not-rows_placed : goal.returns-then-not-rows_placed
returns-then-not-rows_placed c =
    let both = ended _ _ _ (all-bytes (goal.at.returns-then-not-rows_placed c).After-shared_slice_known-2-1) (write_outside _ _ _ c.rows_placed.ensures c.if-not-rows_placed.true-raw) in rw c.at.ensures (record { answer = both.0; output = both.1.0; numbers = both.1.1.0; only = both.1.1.1 })

pub returns-then-rows-ne0 : goal.returns-then-rows-ne0
returns-then-rows-ne0 c =
    let both = ended _ _ _ (all-bytes (goal.at.returns-then-rows-ne0 c).After-shared_slice_known-2-1) (write_uneven _ _ _ c.rows_placed.ensures c.if-not-rows_placed.false-raw c.if-rows-ne0.true) in rw c.at-then-rows-ne0.ensures (record { answer = both.0; output = both.1.0; numbers = both.1.1.0; only = both.1.1.1 })

pub store_size-requires : goal.store_size-requires
store_size-requires c =
    all_placed c.args.rows.now c.args.d.now c.args.out.now c.rows_placed.ensures c.if-not-rows_placed.false-raw

pub returns-in_default : goal.returns-in_default
returns-in_default c =
    let both = ended _ _ _ (all-bytes (goal.at.returns-in_default c).After-shared_slice_known-2-1) (write_none _ _ _ c.rows_placed.ensures c.if-not-rows_placed.false-raw c.if-rows-ne0.false c.in_default.ensures) in rw c.at-in_default.ensures (record { answer = both.0; output = both.1.0; numbers = both.1.1.0; only = both.1.1.1 })

pub returns-then-n-gt65448 : goal.returns-then-n-gt65448
returns-then-n-gt65448 c =
    let both = ended _ _ _ (all-bytes (goal.at.returns-then-n-gt65448 c).After-shared_slice_known-2-1) (write_long _ _ _ c.rows_placed.ensures c.if-not-rows_placed.false-raw c.if-rows-ne0.false c.in-Some.ensures (omega arith)) in rw c.at-then-n-gt65448.ensures (record { answer = both.0; output = both.1.0; numbers = both.1.1.0; only = both.1.1.1 })

pub returns-then-out-n : goal.returns-then-out-n
returns-then-out-n c =
    let both = ended _ _ _ (all-bytes (goal.at.returns-then-out-n c).After-shared_slice_known-2-1)
    (write_room _ _ _ c.rows_placed.ensures c.if-not-rows_placed.false-raw c.if-rows-ne0.false c.in-Some.ensures (omega arith) (omega arith)) in rw c.at-then-out-n.ensures (record { answer = both.0; output = both.1.0; numbers = both.1.1.0; only = both.1.1.1 })

pub put_store-requires : goal.put_store-requires
put_store-requires c =
    write_fits _ _ _ c.rows_placed.ensures c.if-not-rows_placed.false-raw c.if-rows-ne0.false c.in-Some.ensures (omega arith) (omega arith)

pub returns : goal.returns
returns c =
    let both = ended _ _ _ (all-bytes (goal.at.returns c).After-shared_slice_known-2-1)
    (write_written _ _ _ c.rows_placed.ensures c.if-not-rows_placed.false-raw c.if-rows-ne0.false c.in-Some.ensures (omega arith) (omega arith) c.put_store.ensures.written) in record { answer = both.0; output = both.1.0; numbers = both.1.1.0; only = both.1.1.1 }
