-- The blocks and the terminal block, a zero of four bytes, end to end.
use Rattle.copies.proofs.OutputLaws.{join}
use Rattle.canonical.proofs.put_blocks.Goals as goal

pub returns : goal.returns
returns c = join c.put_bytes.ensures c.put_u32.ensures
