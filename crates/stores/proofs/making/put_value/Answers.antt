-- Size, number and zero byte adjoin.
use Rattle.octets.specs.Numbers.{little}
use Rattle.stores.proofs.MakingLaws.{value_put}
use Rattle.stores.proofs.making.put_value.Goals as goal

pub returns : goal.returns
unfolding little
returns c = value_put c.args.number c.args.n c.put_u32.ensures c.put_u32-2.ensures c.put_u8.ensures
