-- One of the two is there, and where it is the network link it stands inside LinkInfo.
use mathlib.Core.Path.{refl}
use native.Mathlib.Omega.{arith}
use Rattle.info.proofs.PutLaws.{first_local, net_Stands, first_net}
use Rattle.info.proofs.RightInfo.first_text.Goals as goal

pub returns-then-local_there : goal.returns-then-local_there
returns-then-local_there c =
    first_local _ _ _ c.args.self.right c.u32_at.ensures c.local_there.ensures c.if-local_there.true refl c.text.ensures

pub u32_at-requires-2 : goal.u32_at-requires-2
u32_at-requires-2 c =
    let s = net_Stands _ _ _ c.args.self.right c.u32_at.ensures c.local_there.ensures c.if-local_there.false c.requires c.u32_at-o.ensures in
    omega arith

pub returns : goal.returns
returns c =
    first_net _ _ _ c.args.self.right c.u32_at.ensures c.local_there.ensures c.if-local_there.false c.requires c.u32_at-o.ensures c.u32_at-2.ensures c.body_at.ensures
