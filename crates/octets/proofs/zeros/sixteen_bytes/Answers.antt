-- Sixteen bytes are eight characters or sixteen, four and four of them.
use mathlib.Core.Path.{sym, ◌∙◌}
use Rattle.octets.proofs.ZeroLaws.{others_more, sixteen_characters}
use Rattle.octets.proofs.zeros.sixteen_bytes.Goals as goal

pub returns-then-count-eq8 : goal.returns-then-count-eq8
returns-then-count-eq8 g c =
    rw (sym c.count.ensures ∙ c.if-count-eq8.true) (others_more _ _ 4 4 c.four.ensures c.four-2.ensures)

pub returns : goal.returns
returns g c =
    rw (sixteen_characters g.C.Character.unicode (λ e. c.if-count-eq8.false (c.count.ensures ∙ e)))
    (others_more _ _ 12 4 (others_more _ _ 8 4 (others_more _ _ 4 4 c.four.ensures c.four-2.ensures) c.four-3.ensures) c.four-4.ensures)
