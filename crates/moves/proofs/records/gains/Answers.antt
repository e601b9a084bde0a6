-- Both of its tests.
use mathlib.Core.Path.{ap}
use mathlib.Core.Bool.{Bool, not, ◌&&◌}
use Rattle.moves.proofs.records.gains.Goals as goal

pub returns : goal.returns
returns c = ap (λ (b : Bool). b && not c.args.r.link.long) c.info_there.ensures
