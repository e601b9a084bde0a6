-- Two commands are kept as they are; every other is shown as 1.
use native.Mathlib.Omega.{arith}
use borrow.Author.Tests.{ne_eqb}
use Rattle.header.proofs.window.Goals as goal

pub returns-in_default : goal.returns-in_default
returns-in_default c = rw (ne_eqb c.args.command 3 (omega arith), ne_eqb c.args.command 7 (omega arith))
