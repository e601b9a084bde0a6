-- The presence byte and the length adjoin.
use Rattle.keying.proofs.Laws.{head_put}
use Rattle.keying.proofs.put_head.Goals as goal

pub returns : goal.returns
returns c = head_put (rw c.one_or_0.ensures at c.put_u8.ensures) c.put_u32.ensures
