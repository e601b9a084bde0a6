-- One law for each fault that leaves something to keep.
use mathlib.Core.Path.{◌≡◌}
use mathlib.Core.Bool.{true, ◌&&◌}
use Rattle.format.specs.Salvage.{at_block}
use Rattle.salvaging.proofs.Laws.{by_trail, by_mending}
use Rattle.salvaging.proofs.refused_by.Goals as goal
use Rattle.salvaging.proofs.refused_by.Goals.{in-Trail, in_default}

pub returns-then-matches : goal.returns-then-matches
returns-then-matches c =
    elim c.match-matches.branch [
      | in-Trail w ↦ rw (c.keep.ensures, c.number_of-number.ensures) (by_trail _ _ _ w.in-Trail.is)
      | in_default w ↦ cc
    ]

pub returns-then-can_mend-section : goal.returns-then-can_mend-section
returns-then-can_mend-section c =
    let block : (c.can_mend.result && at_block c.args.r.spot.section) ≡ true = c.if-can_mend-section.true in
    elim c.match-matches.branch [
      | in-Trail w ↦ cc
      | in_default w ↦ rw (c.keep-then-can_mend-section.ensures, c.number_of-number.ensures) (by_mending _ _ _ w.in_default.not-Trail c.can_mend.ensures block)
    ]
