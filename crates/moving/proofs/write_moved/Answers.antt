-- The count is the length of the form, and the length alone decides whether it can be written.
use Rattle.moving.proofs.CallLaws.{is_Inside, has_Lengths, moved_long, moved_short, moved_Going, moved_sized, moved_written}
use native.Mathlib.Omega.{arith}
use Rattle.moving.proofs.write_moved.Goals as goal

pub moved-q-requires : goal.moved-q-requires
moved-q-requires c =
    has_Lengths c.args.profile c.requires.read c.args.unicode c.requires.maps

pub returns-then-end-gt65536 : goal.returns-then-end-gt65536
returns-then-end-gt65536 c =
    rw c.at.ensures (let both = moved_long c.args.profile c.requires.read c.args.unicode c.requires.maps c.requires.head c.moved-q.ensures c.end_of-end.ensures c.args.out.now (omega arith) in record { answer = both.0; output = both.1 })

pub returns-then-out-end : goal.returns-then-out-end
returns-then-out-end c =
    rw c.at-then-out-end.ensures (let both = moved_short c.args.profile c.requires.read c.args.unicode c.requires.maps c.requires.head c.moved-q.ensures c.end_of-end.ensures (omega arith) c.args.out.now (omega arith) in record { answer = both.0; output = both.1 })

pub invariant_of-m : goal.invariant_of-m
invariant_of-m c = record { inside = is_Inside c.args.profile c.requires.read }

pub put_moved-requires : goal.put_moved-requires
put_moved-requires c =
    record { going = moved_Going c.args.profile c.requires.read c.args.unicode c.requires.maps c.requires.head c.moved-q.ensures c.end_of-end.ensures (omega arith) c.args.out.now (omega arith); lengths = c.moved-q.ensures; shape = c.shape_of-s.ensures; sized = moved_sized c.args.profile c.requires.read c.args.unicode c.requires.maps c.requires.head c.moved-q.ensures c.end_of-end.ensures (omega arith) c.sizes_of-sizes.ensures }

pub returns : goal.returns
returns c =
    let both = moved_written c.args.profile c.requires.read c.args.unicode c.requires.maps c.requires.head c.moved-q.ensures c.end_of-end.ensures (omega arith) c.args.out.now (omega arith) c.shape_of-s.ensures c.sizes_of-sizes.ensures c.put_moved.ensures.value c.put_moved.ensures.out_after in record { answer = both.0; output = both.1 }
