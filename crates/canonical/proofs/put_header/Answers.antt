-- The header's bytes are those of its beginning, its marks and its view, end to end.
use mathlib.Core.Path.{refl}
use Rattle.copies.proofs.OutputLaws.{join, reword}
use Rattle.canonical.proofs.LayoutLaws.{header_is}
use Rattle.canonical.proofs.put_header.Goals as goal

pub returns : goal.returns
returns c = reword (join c.put_magic.ensures (join c.put_marks.ensures c.put_view.ensures)) (header_is _) refl
