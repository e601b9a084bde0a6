-- By the two flags there is a target or none; where there is one, its texts are asked for.
use Rattle.std.proofs.Common.{sym, ◌∙◌}
use Rattle.target.proofs.Laws.{target_asked}
use Rattle.keying.proofs.target_part.Goals as goal

pub texts_in-requires : goal.texts_in-requires
texts_in-requires c = sym (target_asked _ _ c.flags.ensures c.link_flags.ensures c.targeted.ensures) ∙ c.if-targeted.true

pub returns-then-targeted : goal.returns-then-targeted
returns-then-targeted c =
    let asked = target_asked _ _ c.flags.ensures c.link_flags.ensures c.targeted.ensures in
    rw (sym asked ∙ c.if-targeted.true, c.texts_in.ensures)

pub returns : goal.returns
returns c =
    let asked = target_asked _ _ c.flags.ensures c.link_flags.ensures c.targeted.ensures in
    rw (sym asked ∙ c.if-targeted.false)
