-- Where it is absent nothing is written and no room is asked for.
use mathlib.Core.Path.{sym, ◌∙◌}
use native.Mathlib.Omega.{arith}
use Rattle.copies.proofs.OutputLaws.{Writes-none}
use Rattle.canonical.proofs.FitsLaws.{info_put}
use Rattle.canonical.proofs.put_info.Goals as goal

pub put_info_parts-requires-clause-fits : goal.put_info_parts-requires-clause-fits
put_info_parts-requires-clause-fits c =
    info_put c.args.f.now.held c.args.f.now.shaped (sym c.requires.present ∙ c.if-there.true) c.args.f.now.sized

pub returns-else-there : goal.returns-else-there
returns-else-there c = rw c.if-there.false (Writes-none _ (omega arith))
