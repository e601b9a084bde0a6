use mathlib.Core.Path.{◌≡◌}
use native.Mathlib.Omega.{arith}
use Rattle.copies.proofs.OutputLaws.{Writes-none}
use Rattle.canonical.proofs.SlotLaws.{none_put, more_put, next_size, Room-next}
use Rattle.moves.proofs.StringLaws.{moved_size as size_moved}
use Rattle.moving.specs.Steps.Pieces.{moved_slot, moved_size, moved_row, moved_strings, strings_size}
use Rattle.moving.proofs.texts.put_strings.Goals as goal
use Rattle.moving.proofs.texts.put_strings.Goals.{else-m-k, then-m-k}

pub loop-k-init : goal.loop-k-init
unfolding strings_size
loop-k-init c =
    let u = c.args.unicode in
    none_put (moved_slot u c.args.m.now.bodies.now) (moved_size u) c.args.m.now.held.places (moved_row u c.args.m.now.shape) 10 c.args.w.now (omega (arith, c.requires.room.room))

pub put_string-requires-clause-room : goal.put_string-requires-clause-room
unfolding strings_size
put_string-requires-clause-room c =
    let u = c.args.unicode in
    let next = Room-next (moved_slot u c.args.m.now.bodies.now) (moved_size u) c.args.m.now.held.places (moved_row u c.args.m.now.shape) 10 c.loop-k.k (omega arith) c.loop-k.invariant 15 (omega arith) c.requires.room in
    rw (c.body.ensures.long) (rw (c.if-m-k.true, size_moved u _) at next)

pub put_string-requires-clause-few : goal.put_string-requires-clause-few
unfolding strings_size
put_string-requires-clause-few c =
    let u = c.args.unicode in
    let next = next_size (moved_slot u c.args.m.now.bodies.now) (moved_size u) c.args.m.now.held.places (moved_row u c.args.m.now.shape) 10 c.loop-k.k (omega arith) c.loop-k.invariant 15 (omega arith) in
    rw (c.body.ensures.long) (omega (arith, rw (c.if-m-k.true, size_moved u _) at next, c.requires.few))

pub loop-k-preserved : goal.loop-k-preserved
loop-k-preserved c =
    let u = c.args.unicode in
    let slot = moved_slot u c.args.m.now.bodies.now in
    let row = moved_row u c.args.m.now.shape in
    elim c.if-m-k.branch [
      | then-m-k v ↦ rw v.w-is (more_put slot (moved_size u) c.args.m.now.held.places row 10 c.loop-k.k (omega arith) c.loop-k.invariant (rw (v.if-m-k.true, size_moved u _) (rw (v.body.ensures.long, v.body.ensures.is) at v.put_string.ensures)))
      | else-m-k v ↦ rw v.w-is (more_put slot (moved_size u) c.args.m.now.held.places row 10 c.loop-k.k (omega arith) c.loop-k.invariant (rw (v.if-m-k.false) (Writes-none _ (omega (arith, c.loop-k.invariant.fits)))))
    ]

pub returns : goal.returns
unfolding moved_strings strings_size
returns c = let e : c.loop-k.k ≡ 15 = omega arith in rw e at c.loop-k.invariant
