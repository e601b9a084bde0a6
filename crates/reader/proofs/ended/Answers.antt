-- Where the shortcut is accepted, the cursor stands at its end.
use native.Mathlib.Omega.{arith}
use mathlib.Core.Path.{◌≡◌}
use lib.ListN.{length}
use borrow.Author.Tests.{eq-eqb}
use Rattle.reader.proofs.ended.Goals as goal

pub returns : goal.returns
returns c =
    let whole : c.args.c.at ≡ length c.args.s.now = omega arith in
    rw (eq-eqb _ _ whole)
