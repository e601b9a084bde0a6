-- The profiles one by one.
use Rattle.header.proofs.high_clear.Goals as goal

pub returns-in-Strict : goal.returns-in-Strict
returns-in-Strict c = rw c.in-Strict.is

pub returns-in-NinetyFive : goal.returns-in-NinetyFive
returns-in-NinetyFive c = rw c.in-NinetyFive.is
