-- The marks are five numbers, put one after another.
use Rattle.canonical.specs.Steps.Layout.{mark_bytes}
use Rattle.copies.proofs.OutputLaws.{join, last}
use Rattle.canonical.proofs.put_marks.Goals as goal

pub returns : goal.returns
unfolding mark_bytes
returns c =
    join c.put_u32.ensures (join c.put_u32-2.ensures (join c.put_u64.ensures (join c.put_u64-2.ensures (last c.put_u64-3.ensures))))
