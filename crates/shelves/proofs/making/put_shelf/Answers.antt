use mathlib.Core.Path.{refl, sym, ap, ◌∙◌}
use native.Mathlib.Omega.{arith}
use lib.ListN.{length}
use Rattle.std.proofs.Common.{rules}
use Rattle.copies.specs.declared.output.Output.{Output}
use Rattle.copies.proofs.OutputLaws.{join, reword}
use Rattle.shelves.proofs.ApartLaws.{bodies_long, shelf_apart}
use Rattle.shelves.proofs.making.put_shelf.Goals as goal

pub put_bodies-requires : goal.put_bodies-requires
put_bodies-requires c =
    let n = c.new-w.ensures in
    let p = c.put_table.ensures in
    let l = bodies_long c.args.gap c.args.lengths.now c.args.d.now c.requires.inside in
    rw c.new.ensures (record { room = omega (arith, l, c.requires.room, p.next, p.kept, ap (λ (o : Output). o.at) n, ap (λ (o : Output). length o.out.now) n) })

pub returns : goal.returns
returns c = record {
  written = let l = bodies_long c.args.gap c.args.lengths.now c.args.d.now c.requires.inside in
      let w = reword (join c.put_table.ensures (rw c.new.ensures at c.put_bodies.ensures)) (sym (shelf_apart c.args.gap c.args.lengths.now c.args.d.now c.requires.inside)) refl in
      let e = w.same in
      let f = w.content in
      let g = w.next in
      let h = w.fits in
      let n = c.new-w.ensures in
      record { content = search rules; long = w.long ∙ omega (arith, l); next = omega (arith, g, l, c.at.ensures, ap (λ (o : Output). o.at) n); fits = omega (arith, h, w.kept, c.at.ensures, ap (λ (o : Output). length o.out.now) n) };
}
