-- The lengths of the table stand in front of the array, and the entries follow by them.
use native.Mathlib.Omega.{arith}
use mathlib.Core.Path.{sym, ap, ◌∙◌}
use Prim.Native.Nat.{◌+◌, ◌*◌}
use lib.ListN.{length, length-drop}
use Rattle.std.proofs.lemmas.Slice.{between_to_end}
use Rattle.shelves.specs.Steps.Apart.{span, table_lengths}
use Rattle.shelves.proofs.ApartLaws.{span_none}
use Rattle.shelves.proofs.TableLaws.{shelf_Right, lengths_sum, lengths_count}
use Rattle.shelves.proofs.PutLaws.{front_put}
use Rattle.shelving.specs.Steps.Filing.{bad_entry}
use Rattle.shelving.proofs.CallLaws.{on_shelf_is}
use Rattle.shelving.proofs.first_on_shelf.Goals as goal

pub u32_at-n-requires : goal.u32_at-n-requires
u32_at-n-requires c =
    (shelf_Right c.args.s.now c.requires).long

pub table_lengths-requires : goal.table_lengths-requires
table_lengths-requires c =
    (c.requires, (shelf_Right c.args.s.now c.requires).few)

pub slice_bounds-first_bad-count : goal.slice_bounds-first_bad-count
slice_bounds-first_bad-count c = omega (arith, c.u32_at-n.ensures, (shelf_Right c.args.s.now c.requires).room)

pub slice_bounds-first_bad-start : goal.slice_bounds-first_bad-start
slice_bounds-first_bad-start c = omega (arith, c.u32_at-n.ensures, (shelf_Right c.args.s.now c.requires).room)

pub slice_bounds-lengths-end : goal.slice_bounds-lengths-end
slice_bounds-lengths-end c =
    omega (arith, c.u32_at-n.ensures, (shelf_Right c.args.s.now c.requires).few)

pub slice_bounds-first_bad-end-2 : goal.slice_bounds-first_bad-end-2
slice_bounds-first_bad-end-2 c =
    let s = c.args.s.now in
    let count = c.u32_at-n.ensures ∙ sym (lengths_count s) in
    count ∙ sym (ap length (front_put _ (table_lengths s) c.table_lengths.ensures count))

pub first_bad-requires : goal.first_bad-requires
first_bad-requires c =
    let s = c.args.s.now in
    let at = 4 + 8 * c.u32_at-n.result in
    let count = c.u32_at-n.ensures ∙ sym (lengths_count s) in
    let ns = front_put _ (table_lengths s) c.table_lengths.ensures count in
    rw (between_to_end s at (length s) (omega arith))
    (omega (arith, length-drop at s, ap (span 0) ns, span_none (table_lengths s), lengths_sum s (shelf_Right s c.requires), c.u32_at-n.ensures))

pub returns : goal.returns
returns c =
    let s = c.args.s.now in
    let at = 4 + 8 * c.u32_at-n.result in
    let count = c.u32_at-n.ensures ∙ sym (lengths_count s) in
    let ns = front_put _ (table_lengths s) c.table_lengths.ensures count in
    (rw (between_to_end s at (length s) (omega arith)) at c.first_bad.ensures) ∙ ap bad_entry (on_shelf_is s (shelf_Right s c.requires) c.u32_at-n.ensures ns)
