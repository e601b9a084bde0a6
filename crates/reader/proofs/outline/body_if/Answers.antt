-- What is required says that there are two bytes for the count.
use Rattle.std.proofs.Common.{arith}
use Rattle.reader.proofs.outline.body_if.Goals as goal

pub overflow_add-result : goal.overflow_add-result
overflow_add-result c = record { fits = omega (arith, c.requires.0 c.if-there.true, c.requires.1) }

pub overflow_sub-result : goal.overflow_sub-result
overflow_sub-result c = omega (arith, c.requires.0 c.if-there.true)

pub overflow_sub-result-then-there : goal.overflow_sub-result-then-there
overflow_sub-result-then-there c = omega (arith, c.requires.0 c.if-there.true)
