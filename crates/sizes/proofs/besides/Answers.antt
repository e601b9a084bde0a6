-- The seventeen numbers are the row's, whichever characters the label has.
use Rattle.sizes.proofs.besides.Goals as goal

pub returns-then-unicode : goal.returns-then-unicode
returns-then-unicode c = rw c.if-unicode.true

pub returns-else-unicode : goal.returns-else-unicode
returns-else-unicode c = rw c.if-unicode.false
