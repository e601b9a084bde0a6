-- The text and its zero character, end to end.
use Rattle.copies.proofs.OutputLaws.{join}
use Rattle.canonical.proofs.texts.put_text.Goals as goal

pub returns : goal.returns
returns c = join c.put_bytes.ensures c.put_end.ensures
