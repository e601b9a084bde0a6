-- The fields stand one after another.
use native.Mathlib.Omega.{arith}
use Rattle.copies.proofs.OutputLaws.{join, last, reword}
use Rattle.canonical.proofs.LayoutLaws.{volume_head_is}
use Rattle.canonical.proofs.heads.put_volume_fields.Goals as goal

pub returns : goal.returns
returns c =
    reword (join c.put_u32.ensures (join c.put_u32-2.ensures (join c.put_u32-3.ensures (last c.put_label_fields.ensures))))
    (volume_head_is c.args.l c.args.sizes (rw c.label_least.ensures)) (omega arith)
