-- The network link stands inside LinkInfo, whose tests hold, and its texts have the lengths that the row says.
use native.Mathlib.Omega.{arith}
use Rattle.info.proofs.PutLaws.{network_Stands, network_asked, network_said, network_put}
use Rattle.info.proofs.RightInfo.put_network.Goals as goal

pub u32_at-requires : goal.u32_at-requires
u32_at-requires c =
    (network_Stands _ _ _ c.args.self.right c.requires.0 c.u32_at-o.ensures).room

pub slice_bounds-network_of-end : goal.slice_bounds-network_of-end
slice_bounds-network_of-end c =
    omega (arith, (network_Stands _ _ _ c.args.self.right c.requires.0 c.u32_at-o.ensures).inside, c.u32_at.ensures)

pub network_of-n-requires : goal.network_of-n-requires
network_of-n-requires c =
    let both = network_asked _ _ _ c.args.self.right c.requires.0 c.u32_at-o.ensures c.u32_at.ensures in record { stands = both.0; lengths = both.1 }

pub returns : goal.returns
returns c =
    network_put _ _ _ c.args.self.right _ (network_said _ _ _ c.args.self.right c.requires.0 c.u32_at-o.ensures c.u32_at.ensures c.network_of-n.ensures) c.one_or_0.ensures c.put_place.ensures c.put_place-2.ensures c.put_place-3.ensures c.put_place-4.ensures
