-- Where it is absent nothing is written and no room is asked for.
use mathlib.Core.Bool.{false}
use mathlib.Core.Path.{◌≡◌, sym, ◌∙◌}
use native.Mathlib.Omega.{arith}
use Rattle.format.specs.Presence.{network_there}
use Rattle.copies.proofs.OutputLaws.{Writes-none}
use Rattle.canonical.proofs.heads.put_network_head.Goals as goal

pub returns-else-network_there : goal.returns-else-network_there
returns-else-network_there c =
    let e : network_there c.args.l.flags ≡ false = sym c.network_there.ensures ∙ c.if-network_there.false in
    rw e (Writes-none _ (omega arith))
