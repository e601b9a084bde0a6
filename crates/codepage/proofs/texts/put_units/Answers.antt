use mathlib.Core.Path.{refl}
use native.Mathlib.Omega.{arith}
use Rattle.format.specs.Codepage.{windows1252}
use Rattle.codepage.proofs.PutLaws.{no_units, more_units, all_units}
use Rattle.codepage.proofs.texts.put_units.Goals as goal

pub loop-k-init : goal.loop-k-init
loop-k-init c = no_units _ c.args.at c.args.x.now

pub unit_of-requires : goal.unit_of-requires
unfolding windows1252
unit_of-requires c = refl

pub loop-k-preserved : goal.loop-k-preserved
loop-k-preserved c =
    more_units _ _ _ _ c.loop-k.invariant (omega arith) c.requires c.unit_of.ensures c.put_u16.ensures

pub returns : goal.returns
returns c = record { written = all_units _ _ _ _ c.loop-k.invariant (omega arith) c.requires }
