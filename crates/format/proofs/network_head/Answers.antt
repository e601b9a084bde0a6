-- Behind two more offsets, where names are Unicode.
use Rattle.format.proofs.network_head.Goals as goal

pub returns-then-unicode : goal.returns-then-unicode
returns-then-unicode c = rw c.if-unicode.true
