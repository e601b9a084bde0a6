-- One law for each way out; entries that are good are small, so that no sum wraps.
use native.Mathlib.Omega.{arith}
use Rattle.shelves.proofs.ApartLaws.{Small-sum}
use Rattle.shelving.proofs.FileLaws.{shelve_bad, shelve_Small, shelve_room, shelve_fits, shelve_made}
use Rattle.shelving.proofs.shelve.Goals as goal

pub returns-in-Some : goal.returns-in-Some
returns-in-Some c = rw c.at.ensures (shelve_bad _ _ _ _ c.requires _ c.in-Some.ensures)

pub overflow_add-lengths-2 : goal.overflow_add-lengths-2
overflow_add-lengths-2 c =
    let small = shelve_Small _ _ _ _ c.requires c.args.out.now c.in_default.ensures in
    omega (arith, Small-sum small, c.requires.total, c.requires.few)

pub returns-then-out-lengths : goal.returns-then-out-lengths
returns-then-out-lengths c = rw c.at-then-out-lengths.ensures (shelve_room _ _ _ _ c.requires _ c.in_default.ensures c.if-out-lengths.true)

pub put_shelf-requires : goal.put_shelf-requires
put_shelf-requires c = shelve_fits _ _ _ _ c.requires _ c.in_default.ensures c.if-out-lengths.false

pub returns : goal.returns
returns c = shelve_made _ _ _ _ c.requires _ c.in_default.ensures c.if-out-lengths.false c.put_shelf.ensures.written
