-- Two offsets where the label is Unicode.
use Rattle.copies.proofs.OutputLaws.{join}
use Rattle.canonical.proofs.heads.put_label_fields.Goals as goal

pub returns-then-unicode : goal.returns-then-unicode
returns-then-unicode c = rw c.if-unicode.true (join c.put_u32.ensures c.put_u32-then-unicode.ensures)
