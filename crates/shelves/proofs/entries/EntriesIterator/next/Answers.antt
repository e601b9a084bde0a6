-- The first of those left, after its gap, and the others after it.
use mathlib.Core.Path.{◌≡◌, sym, ◌∙◌}
use mathlib.Core.List.{◌∷◌}
use Rattle.shelves.proofs.ApartLaws.{apart_first}
use Rattle.shelves.proofs.entries.EntriesIterator.next.Goals as goal

pub returns-clause-steps : goal.returns-clause-steps
returns-clause-steps c =
    let more : c.self.inside.lengths.now ≡ c.in_ok-n.n.now ∷ c.in_ok-n.lengths.now = c.in_ok-n.ensures.cases.0 in
    sym c.self.view_is ∙ rw more (apart_first c.self.inside.gap c.in_ok-n.n.now c.in_ok-n.lengths.now c.self.inside.rest.now)
