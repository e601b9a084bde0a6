-- A Unicode character is two bytes, any other one.
use Rattle.canonical.proofs.characters_in.Goals as goal

pub returns-then-unicode : goal.returns-then-unicode
returns-then-unicode c = rw c.if-unicode.true

pub returns-else-unicode : goal.returns-else-unicode
returns-else-unicode c = rw c.if-unicode.false
