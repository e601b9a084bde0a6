-- The length is that of the body.
use Rattle.format.proofs.BodyLaws.{body_length}
use Rattle.keying.proofs.Laws.{some_put}
use Rattle.keying.proofs.put_body.Goals as goal

pub returns-in-Some : goal.returns-in-Some
returns-in-Some c =
    let stands = (rw c.in-Some.is at c.requires).0 in
    rw c.in-Some.is (some_put (body_length _ _ stands.0) c.put_head.ensures c.put_body.ensures)
