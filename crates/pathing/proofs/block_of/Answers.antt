-- Four puts over zeros are the block.
use Rattle.pathing.proofs.BlockLaws.{block_made}
use Rattle.pathing.proofs.block_of.Goals as goal

pub returns : goal.returns
returns c =
    block_made c.args.signature c.args.text.now c.args.unicode.now c.requires.0 c.requires.1
    c.put_u32.ensures c.put_u32-2.ensures c.put_bytes.ensures c.put_bytes-2.ensures
