-- The sections stand one after another.
use mathlib.Core.Path.{sym, ap, ◌∙◌}
use Prim.Native.Nat.{ℕ, ◌+◌}
use Rattle.format.specs.Writing.{blocks_bytes}
use Rattle.format.specs.Steps.Flat.{flat_bytes}
use Rattle.copies.proofs.OutputLaws.{join, reword}
use Rattle.canonical.proofs.FitsLaws.{row_inside, items_inside, blocks_inside}
use Rattle.canonical.proofs.put_record.Goals as goal

pub put_items_if-requires-clause-inside : goal.put_items_if-requires-clause-inside
put_items_if-requires-clause-inside c t =
    items_inside c.args.f.now.held c.args.f.now.shaped (row_inside c.args.f.now.held c.args.f.now.shaped c.args.f.now.bodies.now c.args.f.now.inside) (sym c.items_there.ensures ∙ t)

pub body-requires : goal.body-requires
body-requires c = blocks_inside c.args.f.now.held c.args.f.now.shaped (row_inside c.args.f.now.held c.args.f.now.shaped c.args.f.now.bodies.now c.args.f.now.inside)

pub put_slots-requires-clause-inside : goal.put_slots-requires-clause-inside
put_slots-requires-clause-inside c =
    row_inside c.args.f.now.held c.args.f.now.shaped c.args.f.now.bodies.now c.args.f.now.inside

pub returns : goal.returns
unfolding flat_bytes
returns c =
    let items = rw c.items_there.ensures at c.put_items_if.ensures in
    let info = rw c.info_there.ensures at c.put_info.ensures in
    let blocks = reword c.put_blocks.ensures (ap blocks_bytes c.body.ensures.is) (ap (λ (n : ℕ). n + 4) c.body.ensures.long) in
    join c.put_header.ensures (join items (join info (join c.put_slots.ensures blocks)))
