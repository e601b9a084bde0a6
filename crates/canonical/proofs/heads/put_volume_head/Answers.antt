-- Where it is absent nothing is written and no room is asked for.
use mathlib.Core.Bool.{false}
use mathlib.Core.Path.{◌≡◌, sym, ◌∙◌}
use native.Mathlib.Omega.{arith}
use Rattle.format.specs.Presence.{local_there}
use Rattle.copies.proofs.OutputLaws.{Writes-none}
use Rattle.canonical.proofs.heads.put_volume_head.Goals as goal

pub returns-else-local_there : goal.returns-else-local_there
returns-else-local_there c =
    let e : local_there c.args.l.flags ≡ false = sym c.local_there.ensures ∙ c.if-local_there.false in
    rw e (Writes-none _ (omega arith))
