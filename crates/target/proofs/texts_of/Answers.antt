-- The texts, and whether a separator stands between them.
use Rattle.target.specs.Steps.Texts.{texts_of}
use Rattle.target.proofs.texts_of.Goals as goal

pub returns : goal.returns
unfolding texts_of
returns c = rw (c.separated.ensures, c.first_text-first.ensures)
