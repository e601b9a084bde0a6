-- The fields stand one after another.
use native.Mathlib.Omega.{arith}
use Rattle.copies.proofs.OutputLaws.{join, last, reword}
use Rattle.canonical.proofs.LayoutLaws.{network_head_bytes_lem}
use Rattle.canonical.proofs.heads.put_network_fields.Goals as goal

pub returns : goal.returns
returns c =
    reword
    (join c.put_u32.ensures (join c.put_u32-2.ensures (join c.put_u32-3.ensures (join c.put_u32-4.ensures (join c.put_u32-5.ensures (last c.put_fields.ensures))))))
    (network_head_bytes_lem c.args.l c.args.sizes c.device_there-named.ensures c.provider_there.ensures c.network_head-head.ensures
    c.number_if-first.ensures c.number_if-provider.ensures c.number_if-second.ensures) (omega arith)
