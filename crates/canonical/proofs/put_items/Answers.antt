-- The size, the items and the zero of two bytes, end to end.
use native.Mathlib.Omega.{arith}
use Rattle.copies.proofs.OutputLaws.{join, reword}
use Rattle.canonical.proofs.LayoutLaws.{items_is}
use Rattle.canonical.proofs.put_items.Goals as goal

pub returns : goal.returns
returns c =
    reword (join c.put_u16.ensures (join c.put_bytes.ensures c.put_u16-2.ensures)) (items_is c.args.x.now) (omega arith)
