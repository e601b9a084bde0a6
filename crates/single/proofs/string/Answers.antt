-- The body has so many characters of its kind.
use mathlib.Core.Path.{◌≡◌}
use native.Mathlib.Omega.{arith}
use Rattle.std.proofs.lemmas.Grind.{common_steps}
use Rattle.octets.specs.Characters.{bytes_of}
use Rattle.single.proofs.Laws.{first_left}
use Rattle.single.proofs.string.Goals as goal

pub returns : goal.returns
returns c =
    let len : c.bytes_of-len.result ≡ bytes_of c.args.unicode c.in_ok-count.count = c.bytes_of-len.ensures in
    grind (arith, common_steps, first_left)
