-- The items stand after the header and their size, and two bytes come after them.
use Rattle.std.proofs.Common.{arith, sym, ap, ◌∙◌}
use Rattle.format.specs.Presence.{items_there}
use Rattle.reader.proofs.WholeLaws.{laid, items_held}
use Rattle.reader.proofs.outline.Outline.items.Goals as goal

pub overflow_sub-result : goal.overflow_sub-result
overflow_sub-result c =
    let there = ap items_there (sym c.flags.ensures) ∙ sym c.items_there.ensures ∙ c.if-items_there.true in
    omega (arith, (laid c.args.self.now.whole).items there)

pub returns-then-items_there : goal.returns-then-items_there
returns-then-items_there c =
    let there = ap items_there (sym c.flags.ensures) ∙ sym c.items_there.ensures ∙ c.if-items_there.true in
    sym (items_held c.args.self.now.whole ∙ rw there)

pub returns : goal.returns
returns c =
    let lacking = ap items_there (sym c.flags.ensures) ∙ sym c.items_there.ensures ∙ c.if-items_there.false in
    sym (items_held c.args.self.now.whole ∙ rw lacking)
