-- Reading tells what can be kept; then one law for each answer.
use Rattle.std.proofs.Common.{sym, ◌∙◌, arith}
use Rattle.salvaging.proofs.Laws.{within, few, call_nothing, call_too_long, call_no_room, call_saved}
use Rattle.salvaging.proofs.salvage.Goals as goal

pub returns-in_default : goal.returns-in_default
returns-in_default c =
    rw c.at.ensures (let both = call_nothing c.args.s.now c.args.out.now (sym c.in_default.is ∙ c.rescue.ensures) in record { answer = both.0; output = both.1.0; numbers = both.1.1.0; saved = both.1.1.1 })

pub length_of-n-requires : goal.length_of-n-requires
length_of-n-requires c = few c.args.s.now c.in-Some.ensures

pub put_saved-requires : goal.put_saved-requires
put_saved-requires c = record { kept_in_bounds = within c.args.s.now c.in-Some.ensures; mended_in_bounds = omega (arith, c.length_of-n.ensures) }

pub returns-then-n-gt65536 : goal.returns-then-n-gt65536
returns-then-n-gt65536 c =
    rw c.at-then-n-gt65536.ensures (let both = call_too_long c.args.s.now c.args.out.now c.in-Some.ensures c.length_of-n.ensures c.if-n-gt65536.true in record { answer = both.0; output = both.1.0; numbers = both.1.1.0; saved = both.1.1.1 })

pub returns-then-n-out : goal.returns-then-n-out
returns-then-n-out c =
    rw c.at-then-n-out.ensures (let both = call_no_room c.args.s.now c.args.out.now c.in-Some.ensures c.length_of-n.ensures c.if-n-gt65536.false c.if-n-out.true in record { answer = both.0; output = both.1.0; numbers = both.1.1.0; saved = both.1.1.1 })

pub returns : goal.returns
returns c =
    let both = call_saved c.args.s.now c.args.out.now c.in-Some.ensures c.length_of-n.ensures c.if-n-gt65536.false c.if-n-out.false c.put_saved.ensures in record { answer = both.0; output = both.1.0; numbers = both.1.1.0; saved = both.1.1.1 }

pub overflow_sub-result : goal.overflow_sub-result
overflow_sub-result c = within c.args.s.now c.in-Some.ensures
