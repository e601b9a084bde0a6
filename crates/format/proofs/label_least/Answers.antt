-- Behind one more offset, where the label is Unicode.
use Rattle.format.proofs.label_least.Goals as goal

pub returns-then-unicode : goal.returns-then-unicode
returns-then-unicode c = rw c.if-unicode.true
