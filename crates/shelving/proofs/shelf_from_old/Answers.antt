-- One law for each way out; the lengths of the old form stand in front of the array.
use native.Mathlib.Omega.{arith}
use mathlib.Core.Path.{sym, ap, ◌∙◌}
use lib.ListN.{length}
use Rattle.shelves.specs.Steps.Apart.{old_lengths}
use Rattle.shelves.proofs.ApartLaws.{span_four}
use Rattle.shelving.proofs.FileLaws.{from_told, from_wrong, from_count, from_few, from_span, from_Entries, from_filed}
use Rattle.shelves.proofs.PutLaws.{front_put}
use Rattle.shelving.proofs.shelf_from_old.Goals as goal

pub returns-in_default : goal.returns-in_default
returns-in_default c =
    rw c.at.ensures (let both = from_told c.args.s.now c.args.out.now (from_wrong c.args.s.now c.args.out.now c.in_default.ensures) in record { answer = both.0; output = both.1.0; numbers = both.1.1 })

pub slice_bounds-lengths-end : goal.slice_bounds-lengths-end
slice_bounds-lengths-end c = omega (arith, from_few c.args.s.now c.args.out.now c.in-Some.ensures)

pub slice_bounds-shelve-end : goal.slice_bounds-shelve-end
slice_bounds-shelve-end c =
    let s = c.args.s.now in
    let count = from_count s c.args.out.now c.in-Some.ensures in
    count ∙ sym (ap length (front_put _ (old_lengths s) c.old_lengths.ensures count))

pub overflow_mul-n : goal.overflow_mul-n
overflow_mul-n c = omega (arith, from_few c.args.s.now c.args.out.now c.in-Some.ensures)

pub overflow_sub-s : goal.overflow_sub-s
overflow_sub-s c =
    let s = c.args.s.now in
    let count = from_count s c.args.out.now c.in-Some.ensures in
    omega (arith, count, span_four (old_lengths s), from_span s c.args.out.now c.in-Some.ensures)

pub shelve-requires : goal.shelve-requires
shelve-requires c =
    let s = c.args.s.now in
    let count = from_count s c.args.out.now c.in-Some.ensures in
    let ns = front_put _ (old_lengths s) c.old_lengths.ensures count in
    rw ns (from_Entries s c.args.out.now c.in-Some.ensures)

pub returns : goal.returns
returns c =
    let s = c.args.s.now in
    let count = from_count s c.args.out.now c.in-Some.ensures in
    let ns = front_put _ (old_lengths s) c.old_lengths.ensures count in
    let both = from_told s c.args.out.now (from_filed s c.args.out.now c.in-Some.ensures (rw ns at c.shelve.ensures)) in record { answer = both.0; output = both.1.0; numbers = both.1.1 }
