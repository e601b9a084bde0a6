-- The body ends where the first zero stands, and its span one character later.
use Prim.Native.Nat.{◌-◌}
use mathlib.Core.Path.{◌≡◌}
use native.Mathlib.Omega.{arith}
use lib.ListN.{drop}
use borrow.Author.Tests.{le-leb}
use Rattle.format.specs.Pieces.{text_length}
use Rattle.pieces.specs.Steps.Found.{text_found}
use Rattle.pieces.proofs.text_at.Goals as goal

pub returns-clause-is : goal.returns-clause-is
unfolding text_found
returns-clause-is c =
    let F = c.in_ok-p.ensures.found in
    let len : c.in_ok-p.p - c.args.o ≡ text_length c.args.unicode (drop c.args.o c.args.l.now) = omega (arith, F.text) in
    rw (c.if-not-present.false, le-leb _ _ c.if-o-head.false, F.ends, len, c.bytes_of-end.ensures)
