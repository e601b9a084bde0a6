-- The local path where it is there, else the net name.
use Rattle.target.specs.Steps.Texts.{first_text}
use mathlib.Core.Path.{sym, ◌∙◌}
use Rattle.target.proofs.first_text.Goals as goal

pub returns-then-local_there : goal.returns-then-local_there
unfolding first_text
returns-then-local_there c = rw (sym c.local_there.ensures ∙ c.if-local_there.true)

pub returns : goal.returns
unfolding first_text
returns c = rw (sym c.local_there.ensures ∙ c.if-local_there.false)
