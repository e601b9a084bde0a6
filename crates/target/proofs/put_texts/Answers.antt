-- The three pieces adjoin: together they are the texts.
use Rattle.copies.proofs.OutputLaws.{join}
use Rattle.target.proofs.Laws.{texts_put, texts_put-one}
use Rattle.target.proofs.put_texts.Goals as goal

pub returns-then-t-ne0 : goal.returns-then-t-ne0
returns-then-t-ne0 c = texts_put _ c.args.t (join c.put_body.ensures c.put_separator.ensures) c.put_body-then-t-ne0.ensures

pub returns-else-t-ne0 : goal.returns-else-t-ne0
returns-else-t-ne0 c = texts_put-one _ c.args.t (join c.put_body.ensures c.put_separator.ensures) c.if-t-ne0.false
