-- The string that has no translation decides.
use Rattle.std.proofs.Common.{arith, rules}
use Rattle.moves.proofs.TestLaws.{strings_one}
use Rattle.moves.proofs.tests.strings_map.Goals as goal

pub returns-then-not-translatable : goal.returns-then-not-translatable
returns-then-not-translatable c =
    strings_one c.args.unicode c.args.d.now c.args.r c.loop-k.k (omega arith) (omega arith) (search rules)
