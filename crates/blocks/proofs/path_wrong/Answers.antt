-- The first text is asked for its zero before the second.
use Rattle.blocks.proofs.path_wrong.Goals as goal

pub returns-then-not-has_zero-clause-is : goal.returns-then-not-has_zero-clause-is
returns-then-not-has_zero-clause-is c = rw (← c.has_zero.ensures, c.if-not-has_zero.true)
