-- A block is answered only where its signature has room before it.
use Prim.Native.Nat.{◌≤◌}
use native.Mathlib.Omega.{arith}
use Rattle.std.proofs.Common.{rules}
use Rattle.blocks.specs.Steps.Walk.{block_from}
use Rattle.blocks.proofs.block_from.Goals as goal

pub returns : goal.returns
unfolding block_from
returns c = let room : 4 ≤ c.args.field = omega arith in search rules
