-- A record longer than the most is not writable; of any other the rules decide.
use Rattle.canonical.proofs.FitsLaws.{row_inside, blocks_inside}
use Rattle.writable.proofs.WholeLaws.{writable_long, writable_short}
use Rattle.writable.proofs.SectionLaws.{sections_are}
use native.Mathlib.Omega.{arith}
use Rattle.writable.proofs.writable.Goals as goal

pub returns-then-end-gt65536 : goal.returns-then-end-gt65536
returns-then-end-gt65536 c =
    writable_long c.args.profile c.args.d.now c.args.q c.requires.placed c.requires.counted (omega arith)

pub bodies_ok-requires : goal.bodies_ok-requires
bodies_ok-requires c =
    let row = row_inside c.args.q c.requires.shape c.args.d.now c.requires.placed in
    record { inside = row; blocks = blocks_inside c.args.q c.requires.shape row }

pub returns : goal.returns
returns c =
    let d = c.args.d.now in
    let q = c.args.q in
    writable_short c.args.profile d q c.requires.placed c.requires.counted (omega arith)
    (sections_are c.args.profile d q c.requires.shape c.header_ok.ensures c.link_ok.ensures c.bodies_ok.ensures)
