use mathlib.Core.Path.{refl, ap, ◌∙◌}
use native.Mathlib.Omega.{arith}
use lib.ListN.{length}
use Rattle.std.proofs.Common.{rules}
use Rattle.std.proofs.lemmas.Slice.{between_to_end}
use Rattle.copies.specs.declared.output.Output.{Output}
use Rattle.copies.proofs.OutputLaws.{reword}
use Rattle.shelves.specs.Steps.Apart.{apart}
use Rattle.shelves.proofs.ApartLaws.{base_long, base_few}
use Rattle.shelves.proofs.making.put_old.Goals as goal

pub put_each-requires : goal.put_each-requires
put_each-requires c =
    let d = c.args.d.now in
    let es = c.new.ensures ∙ ap (apart 0 c.args.lengths.now) (between_to_end d c.args.base (length d) (omega arith)) in
    let n = c.new-w.ensures in
    rw es (record { room = omega (arith, base_long c.requires, c.requires.room, ap (λ (o : Output). o.at) n, ap (λ (o : Output). length o.out.now) n) }, base_few c.requires)

pub returns : goal.returns
returns c = record {
  written = let d = c.args.d.now in
      let es = c.new.ensures ∙ ap (apart 0 c.args.lengths.now) (between_to_end d c.args.base (length d) (omega arith)) in
      let w = reword (rw es at c.put_each.ensures) refl (base_long c.requires) in
      let e = w.same in
      let f = w.content in
      let g = w.next in
      let h = w.fits in
      let n = c.new-w.ensures in
      record { content = search rules; long = base_long c.requires; next = omega (arith, g, c.at.ensures, ap (λ (o : Output). o.at) n); fits = omega (arith, h, w.kept, c.at.ensures, ap (λ (o : Output). length o.out.now) n) };
}
