-- One law for each way out; the lengths of the table stand in front of the array.
use native.Mathlib.Omega.{arith}
use mathlib.Core.Path.{sym, ap, ◌∙◌}
use lib.ListN.{length}
use Rattle.shelves.specs.Steps.Apart.{table_lengths}
use Rattle.shelves.proofs.TableLaws.{shelf_Right, lengths_count}
use Rattle.shelving.proofs.FileLaws.{to_told, to_wrong, to_filed}
use Rattle.shelves.proofs.PutLaws.{front_put}
use Rattle.shelving.proofs.shelf_to_old.Goals as goal

pub returns-then-not-table_ok : goal.returns-then-not-table_ok
returns-then-not-table_ok c =
    rw c.at.ensures (let both = to_told c.args.s.now c.args.out.now (to_wrong c.args.s.now c.args.out.now (sym c.table_ok.ensures ∙ c.if-not-table_ok.true)) in record { answer = both.0; output = both.1.0; numbers = both.1.1 })

pub u32_at-n-requires : goal.u32_at-n-requires
u32_at-n-requires c =
    let s = c.args.s.now in
    (shelf_Right s (sym c.table_ok.ensures ∙ c.if-not-table_ok.false)).long

pub table_lengths-requires : goal.table_lengths-requires
table_lengths-requires c =
    let s = c.args.s.now in
    let ok = sym c.table_ok.ensures ∙ c.if-not-table_ok.false in
    (ok, (shelf_Right s ok).few)

pub slice_bounds-lengths-end : goal.slice_bounds-lengths-end
slice_bounds-lengths-end c =
    let s = c.args.s.now in
    let ok = sym c.table_ok.ensures ∙ c.if-not-table_ok.false in
    omega (arith, c.u32_at-n.ensures, (shelf_Right s ok).few)

pub slice_bounds-unshelve-end : goal.slice_bounds-unshelve-end
slice_bounds-unshelve-end c =
    let s = c.args.s.now in
    let count = c.u32_at-n.ensures ∙ sym (lengths_count s) in
    count ∙ sym (ap length (front_put _ (table_lengths s) c.table_lengths.ensures count))

pub unshelve-requires : goal.unshelve-requires
unshelve-requires c =
    let s = c.args.s.now in
    let count = c.u32_at-n.ensures ∙ sym (lengths_count s) in
    (sym c.table_ok.ensures ∙ c.if-not-table_ok.false, front_put _ (table_lengths s) c.table_lengths.ensures count)

pub returns : goal.returns
returns c =
    let s = c.args.s.now in
    let both = to_told s c.args.out.now (to_filed s c.args.out.now (sym c.table_ok.ensures ∙ c.if-not-table_ok.false) c.unshelve.ensures) in record { answer = both.0; output = both.1.0; numbers = both.1.1 }
