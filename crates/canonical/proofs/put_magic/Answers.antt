-- The header's size and the class identifier are five numbers of four bytes, end to end.
use mathlib.Core.Path.{refl}
use Rattle.copies.proofs.OutputLaws.{join, reword}
use Rattle.canonical.proofs.LayoutLaws.{magic_is}
use Rattle.canonical.proofs.put_magic.Goals as goal

pub returns : goal.returns
returns c =
    reword
    (join c.put_u32.ensures (join c.put_u32-2.ensures (join c.put_u32-3.ensures (join c.put_u32-4.ensures c.put_u32-5.ensures))))
    magic_is refl
