-- The count and the characters, end to end.
use native.Mathlib.Omega.{arith}
use Rattle.copies.proofs.OutputLaws.{join, reword}
use Rattle.canonical.proofs.LayoutLaws.{string_is}
use Rattle.canonical.proofs.put_string.Goals as goal

pub returns : goal.returns
returns c =
    reword (join c.put_u16.ensures c.put_bytes.ensures) (string_is c.args.unicode c.args.x.now c.characters_in-count.ensures) (omega arith)
