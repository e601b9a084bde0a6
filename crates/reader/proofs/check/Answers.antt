-- The outline's verdict is that of reading.
use Rattle.reader.proofs.OutlineLaws.{verdict_held, read_Numbered}
use Rattle.reader.proofs.check.Goals as goal

pub returns : goal.returns
returns c =
    let e = verdict_held _ _ c.outline_of-o.ensures.answer c.verdict_of.ensures in
    record { answer = e; numbers = read_Numbered _ _ e }
