use mathlib.Core.Path.{◌≡◌}
use native.Mathlib.Omega.{arith}
use Rattle.format.specs.Steps.Lengths.{written_body}
use Rattle.format.specs.Steps.Flat.{slot_bytes, slots_bytes}
use Rattle.copies.proofs.OutputLaws.{Writes-none}
use Rattle.canonical.specs.Steps.Puts.{characters_row, slots_size}
use Rattle.canonical.proofs.SlotLaws.{none_put, more_put, next_size, Room-next}
use Rattle.canonical.proofs.put_slots.Goals as goal
use Rattle.canonical.proofs.put_slots.Goals.{else-s-k, then-s-k}

pub loop-k-init : goal.loop-k-init
unfolding slots_size
loop-k-init c =
    none_put (slot_bytes c.args.d.now) written_body c.args.row (characters_row c.args.s) c.args.from c.args.w.now (omega (arith, c.requires.room.room))

pub put_slot-requires-clause-room : goal.put_slot-requires-clause-room
unfolding slots_size
put_slot-requires-clause-room c =
    let taken = c.if-s-k.true in
    let next = Room-next (slot_bytes c.args.d.now) written_body c.args.row (characters_row c.args.s) c.args.from c.loop-k.k (omega arith) c.loop-k.invariant c.args.to (omega arith) c.requires.room in
    rw (c.body.ensures.long) (rw taken at next)

pub put_slot-requires-clause-few : goal.put_slot-requires-clause-few
unfolding slots_size
put_slot-requires-clause-few c =
    let taken = c.if-s-k.true in
    let next = next_size (slot_bytes c.args.d.now) written_body c.args.row (characters_row c.args.s) c.args.from c.loop-k.k (omega arith) c.loop-k.invariant c.args.to (omega arith) in
    omega (arith, c.body.ensures.long, rw taken at next, c.requires.few)

pub loop-k-preserved : goal.loop-k-preserved
loop-k-preserved c =
    let d = c.args.d.now in
    elim c.if-s-k.branch [
      | then-s-k v ↦ rw v.w-is (more_put (slot_bytes d) written_body c.args.row (characters_row c.args.s) c.args.from c.loop-k.k (omega arith) c.loop-k.invariant (rw (v.if-s-k.true) (rw (v.body.ensures.long, v.body.ensures.is) at v.put_slot.ensures)))
      | else-s-k v ↦ rw v.w-is (more_put (slot_bytes d) written_body c.args.row (characters_row c.args.s) c.args.from c.loop-k.k (omega arith) c.loop-k.invariant (rw (v.if-s-k.false) (Writes-none _ (omega (arith, c.loop-k.invariant.fits)))))
    ]

pub returns : goal.returns
unfolding slots_bytes slots_size
returns c = let e : c.loop-k.k ≡ c.args.to = omega arith in rw e at c.loop-k.invariant
