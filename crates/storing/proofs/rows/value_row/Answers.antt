-- Under the named format the number is the name's length.
use native.Mathlib.Omega.{arith}
use Rattle.storing.proofs.rows.value_row.Goals as goal

pub overflow_add-result-then-named-2 : goal.overflow_add-result-then-named-2
overflow_add-result-then-named-2 c = let h = rw (c.if-named.true, ← c.u32_at-second.ensures) at c.requires.0 in omega arith

pub overflow_sub-result : goal.overflow_sub-result
overflow_sub-result c = let h = rw (c.if-named.true, ← c.u32_at-second.ensures) at c.requires.0 in omega arith

pub returns-then-named : goal.returns-then-named
returns-then-named c = rw (c.if-named.true, c.u32_at-second.ensures)

pub returns : goal.returns
returns c = rw (c.if-named.false, c.u32_at-second.ensures)
