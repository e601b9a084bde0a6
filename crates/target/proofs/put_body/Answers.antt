-- The body stands inside, so that what is cut out is all of it.
use Rattle.target.proofs.Laws.{body_cut}
use Rattle.copies.specs.Steps.Writes.{HasRoom}
use Rattle.copies.proofs.OutputLaws.{reword}
use Rattle.format.proofs.BodyLaws.{body_length}
use Rattle.std.proofs.Common.{ap, subst, sym, ◌∙◌, length}
use Rattle.target.proofs.put_body.Goals as goal

pub put_bytes-requires : goal.put_bytes-requires
put_bytes-requires c =
    let long = ap length (body_cut _ c.args.b c.requires.0) ∙ body_length _ c.args.b c.requires.0 in
    subst (HasRoom c.args.out.now) (sym long) c.requires.1

pub returns : goal.returns
returns c =
    let cut = body_cut _ c.args.b c.requires.0 in
    reword c.put_bytes.ensures cut (ap length cut ∙ body_length _ c.args.b c.requires.0)
