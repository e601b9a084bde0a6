-- The sections have room where the moved form has.
use native.Mathlib.Omega.{arith}
use Rattle.moving.proofs.CallLaws.{info_fits, total_room, total_few}
use Rattle.moving.proofs.put_moved.Goals as goal

pub put_sections-requires-clause-fits : goal.put_sections-requires-clause-fits
put_sections-requires-clause-fits c t =
    info_fits c.args.m.now.bodies.now c.args.m.now.held c.args.unicode c.requires.lengths c.requires.shape c.requires.sized t

pub put_sections-requires-clause-room : goal.put_sections-requires-clause-room
put_sections-requires-clause-room c =
    let room = total_room c.args.m.now.bodies.now c.args.m.now.held c.args.unicode c.requires.lengths c.requires.shape c.requires.sized c.requires.going in
    rw c.new-w.ensures (record { room = omega (arith, room) })

pub put_sections-requires-clause-few : goal.put_sections-requires-clause-few
put_sections-requires-clause-few c =
    total_few c.args.m.now.bodies.now c.args.m.now.held c.args.unicode c.requires.lengths c.requires.shape c.requires.sized c.requires.going
