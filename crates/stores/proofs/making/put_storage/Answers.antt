-- Size, version and identifier adjoin.
use Rattle.stores.proofs.MakingLaws.{head_put}
use Rattle.stores.proofs.making.put_storage.Goals as goal

pub returns : goal.returns
returns c = head_put c.args.identifier.now c.args.n c.requires.1.0 c.put_u32.ensures c.put_u32-2.ensures c.put_bytes.ensures
