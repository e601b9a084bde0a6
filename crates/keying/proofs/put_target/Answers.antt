-- The length is that of the texts.
use Rattle.target.proofs.Laws.{texts_long}
use Rattle.keying.proofs.Laws.{some_put}
use Rattle.keying.proofs.put_target.Goals as goal

pub returns-in-Some : goal.returns-in-Some
returns-in-Some c =
    let stands = (rw c.in-Some.is at c.requires).0 in
    rw c.in-Some.is (some_put (texts_long _ _ stands.0) (rw c.texts_length.ensures at c.put_head.ensures) c.put_texts.ensures)
