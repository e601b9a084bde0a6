-- Where LinkInfo is there it has a head, and its flags stand in that; else the record has zeros for it.
use Rattle.std.proofs.Common.{arith, sym, ap, ◌∙◌}
use Rattle.format.specs.Presence.{info_there}
use Rattle.reader.proofs.WholeLaws.{laid, info_head_inside, link_flags_held, link_flags_lacking}
use Rattle.reader.proofs.outline.Outline.link_flags.Goals as goal

pub overflow_add-self : goal.overflow_add-self
overflow_add-self c =
    let there = ap info_there (sym c.flags.ensures) ∙ sym c.info_there.ensures ∙ c.if-info_there.true in
    record { fits = omega (arith, info_head_inside c.args.self.now.whole there, (laid c.args.self.now.whole).small) }

pub u32_at-requires : goal.u32_at-requires
u32_at-requires c =
    let there = ap info_there (sym c.flags.ensures) ∙ sym c.info_there.ensures ∙ c.if-info_there.true in
    omega (arith, info_head_inside c.args.self.now.whole there)

pub returns-then-info_there : goal.returns-then-info_there
returns-then-info_there c =
    let there = ap info_there (sym c.flags.ensures) ∙ sym c.info_there.ensures ∙ c.if-info_there.true in
    link_flags_held c.args.self.now.whole there c.u32_at.ensures

pub returns : goal.returns
returns c =
    link_flags_lacking c.args.self.now.whole (ap info_there (sym c.flags.ensures) ∙ sym c.info_there.ensures ∙ c.if-info_there.false)
