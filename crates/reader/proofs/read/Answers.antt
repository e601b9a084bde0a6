-- An accepted shortcut has its record beside the verdict; a refused one has zeros.
use Rattle.reader.proofs.OutlineLaws.{verdict_held, read_accepted, read_refused, read_Numbered}
use Rattle.reader.proofs.read.Goals as goal

pub returns-in-Ok : goal.returns-in-Ok
returns-in-Ok c =
    let answer = c.outline_of-o.ensures.answer in
    record { answer = read_accepted _ _ answer c.verdict_of-verdict.ensures c.record.ensures; numbers = read_Numbered _ _ (verdict_held _ _ answer c.verdict_of-verdict.ensures) }

pub returns-in-Err : goal.returns-in-Err
returns-in-Err c =
    let answer = c.outline_of-o.ensures.answer in
    record { answer = read_refused _ _ answer c.verdict_of-verdict.ensures c.in-Err.is; numbers = read_Numbered _ _ (verdict_held _ _ answer c.verdict_of-verdict.ensures) }
