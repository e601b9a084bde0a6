-- The first k units are put, each as its candidate, which is its byte since all are in the table.
use mathlib.Core.Path.{◌≡◌}
use mathlib.Core.List.{map}
use lib.ListN.{take}
use Rattle.octets.specs.Characters.{units}
use Rattle.octets.specs.Parts.{put}
use Rattle.format.specs.Codepage.{byte_of}
use Rattle.codepage.proofs.texts.put_bytes.Given as goal

abbrev pub invariant-loop-k : goal.invariant-loop-k
invariant-loop-k l = l.out ≡ put l.initial.out l.at (map byte_of (take l.k (units l.x)))
