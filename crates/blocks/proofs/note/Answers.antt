-- A slot that is not refused holds 0, and so is free.
use mathlib.Core.Path.{◌≡◌}
use native.Mathlib.Omega.{arith}
use lib.ListN.{get_or}
use borrow.Author.Tests.{lt-ltb}
use Rattle.blocks.specs.Steps.Walk.{is_free}
use Rattle.blocks.proofs.note.Goals as goal

pub returns-clause-free : goal.returns-clause-free
unfolding is_free
returns-clause-free c =
    let z : get_or c.args.firsts.now c.args.slot 0 ≡ 0 = omega arith in
    rw (lt-ltb _ 11 c.if-slot-ge11.false, z)
