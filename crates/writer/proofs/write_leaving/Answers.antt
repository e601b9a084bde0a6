-- One law for each way out of what was measured.
use Rattle.writer.proofs.Laws.{measured_ends}
use Rattle.writer.proofs.write_leaving.Goals as goal

pub measure-requires : goal.measure-requires
measure-requires c = c.shape_of-s.ensures

pub put_canonical-requires-clause-fits : goal.put_canonical-requires-clause-fits
put_canonical-requires-clause-fits c =
    (measured_ends c.args.profile c.args.r c.args.d.now c.args.more c.args.out.now c.in-Ok.ensures).0

pub returns-in-Ok : goal.returns-in-Ok
returns-in-Ok c =
    let both = (measured_ends c.args.profile c.args.r c.args.d.now c.args.more c.args.out.now c.in-Ok.ensures).1 _ c.put_canonical.ensures.out_after in
    record { answer = both.0; output = both.1 }

pub returns-in-Err : goal.returns-in-Err
returns-in-Err c =
    let both = measured_ends c.args.profile c.args.r c.args.d.now c.args.more c.args.out.now c.in-Err.ensures in
    record { answer = rw c.at.ensures both.0; output = both.1 }
