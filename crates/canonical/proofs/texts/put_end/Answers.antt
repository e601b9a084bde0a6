-- A number zero is as many zero bytes.
use Rattle.octets.specs.Numbers.{little}
use Rattle.canonical.proofs.texts.put_end.Goals as goal

pub returns-then-unicode : goal.returns-then-unicode
unfolding little
returns-then-unicode c = rw c.if-unicode.true c.put_u16.ensures

pub returns-else-unicode : goal.returns-else-unicode
unfolding little
returns-else-unicode c = rw c.if-unicode.false c.put_u8.ensures
