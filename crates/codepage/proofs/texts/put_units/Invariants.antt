-- The first k bytes are put, each as its unit.
use mathlib.Core.Path.{◌≡◌}
use lib.ListN.{take}
use Rattle.octets.specs.Parts.{put}
use Rattle.format.specs.Codepage.{to_units}
use Rattle.codepage.proofs.texts.put_units.Given as goal

abbrev pub invariant-loop-k : goal.invariant-loop-k
invariant-loop-k l = l.out ≡ put l.initial.out l.at (to_units (take l.k l.x))
