use Rattle.fields.specs.Fields.{link_from}
use Rattle.fields.proofs.Laws.{info_fits}
use borrow.Author.Rules.{rules}
use Rattle.fields.proofs.link_from.Goals as goal

-- The tests of LinkInfo's numbers have each number fit its field.
pub overflow_cast-result : goal.overflow_cast-result
overflow_cast-result c = record { fits = (info_fits _ c.requires.numbers).flags }

pub overflow_cast-result-2 : goal.overflow_cast-result-2
overflow_cast-result-2 c = record { fits = (info_fits _ c.requires.numbers).drive }

pub overflow_cast-result-3 : goal.overflow_cast-result-3
overflow_cast-result-3 c = record { fits = (info_fits _ c.requires.numbers).serial }

pub overflow_cast-result-4 : goal.overflow_cast-result-4
overflow_cast-result-4 c =
    record { fits = (info_fits _ c.requires.numbers).network }

pub overflow_cast-result-5 : goal.overflow_cast-result-5
overflow_cast-result-5 c =
    record { fits = (info_fits _ c.requires.numbers).provider }

pub returns : goal.returns
unfolding link_from
returns c = search rules
