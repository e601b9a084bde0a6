-- Where no device name is there, its offset is 0.
use mathlib.Core.Path.{◌≡◌, sym, ◌∙◌}
use mathlib.Core.Bool.{true}
use native.Mathlib.Omega.{arith}
use Rattle.std.proofs.lemmas.Grind.{common_steps}
use Rattle.octets.specs.Numbers.{u32_at}
use Rattle.format.specs.Pieces.{absent_zero}
use Rattle.format.specs.Network.{has_device}
use Rattle.pieces.proofs.TestLaws.{demand_held}
use Rattle.pieces.proofs.TextLaws.{zero_field}
use Rattle.pieces.proofs.network_head_wrong.Goals as goal

pub returns : goal.returns
returns c =
    let v = c.args.v.now in
    let device : absent_zero (has_device v) (u32_at v 12) ≡ true
    = rw (← c.u32_at-flags.ensures, ← c.device_there-there.ensures, ← c.u32_at.ensures) (sym c.absent_zero.ensures ∙ demand_held _ _ c.in_ok-demand-5.ensures) in
    grind (arith, common_steps, zero_field)
