use mathlib.Core.Path.{◌≡◌, sym, ap, ◌∙◌}
use native.Mathlib.Omega.{arith}
use lib.ListN.{get_or}
use Rattle.octets.proofs.WroteLaws.{put-nil}
use Rattle.format.specs.declared.Place.{Place}
use Rattle.shelves.specs.Steps.Apart.{table_lengths}
use Rattle.shelves.proofs.TableLaws.{shelf_Right, length_is, lengths_count}
use Rattle.shelves.proofs.PutLaws.{front_next, front_all}
use Rattle.shelves.proofs.table.table_lengths.Goals as goal

pub u32_at-k-end-requires : goal.u32_at-k-end-requires
u32_at-k-end-requires c = (shelf_Right c.args.s.now c.requires.0).long

pub loop-k-init : goal.loop-k-init
loop-k-init c = put-nil c.args.lengths.now 0

pub row-requires : goal.row-requires
row-requires c = omega (arith, c.loop-k-test.true, c.u32_at-k-end.ensures, (shelf_Right c.args.s.now c.requires.0).room)

pub loop-k-preserved : goal.loop-k-preserved
loop-k-preserved c =
    let s = c.args.s.now in
    let k = c.loop-k.k in
    let n : get_or (table_lengths s) k 0 ≡ c.row.result.len = length_is s k (omega (arith, c.loop-k-test.true, c.u32_at-k-end.ensures)) ∙ sym (ap (λ (b : Place). b.len) c.row.ensures.is) in
    rw c.loop-k.invariant (front_next c.args.lengths.now (table_lengths s) k (sym n) (omega (arith, lengths_count s, c.loop-k-test.true, c.u32_at-k-end.ensures)) (omega (arith, lengths_count s, c.requires.1)))

pub returns : goal.returns
returns c =
    let s = c.args.s.now in
    c.loop-k.invariant ∙ front_all c.args.lengths.now (table_lengths s) c.loop-k.k (omega (arith, lengths_count s, c.u32_at-k-end.ensures))
