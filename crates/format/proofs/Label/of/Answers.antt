-- A Unicode label is of that kind.
use Rattle.format.proofs.Label.of.Goals as goal

pub returns-then-unicode : goal.returns-then-unicode
returns-then-unicode c = rw c.if-unicode.true
