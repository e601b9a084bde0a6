-- The fields stand one after another.
use native.Mathlib.Omega.{arith}
use Rattle.copies.proofs.OutputLaws.{join, last, reword}
use Rattle.canonical.proofs.LayoutLaws.{info_head_bytes_lem}
use Rattle.canonical.proofs.heads.put_info_head.Goals as goal

pub returns : goal.returns
returns c =
    reword
    (join c.put_u32.ensures (join c.put_u32-2.ensures (join c.put_u32-3.ensures (join c.put_u32-4.ensures (join c.put_u32-5.ensures (join c.put_u32-6.ensures (join c.put_u32-7.ensures (last c.put_fields.ensures))))))))
    (info_head_bytes_lem c.args.l c.args.sizes c.local_there-here.ensures c.network_there-away.ensures c.info_head.ensures
    c.volume_part.ensures c.network_part.ensures c.number_if-volume_field.ensures c.number_if-local_field.ensures c.number_if-network_field.ensures c.number_if-unicode_field.ensures) (omega arith)
