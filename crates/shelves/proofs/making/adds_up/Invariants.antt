-- What was counted and what is left of the lengths are their sum.
use mathlib.Core.Path.{◌≡◌}
use Prim.Native.Nat.{◌+◌}
use lib.ListN.{drop}
use Rattle.format.specs.Shortcut.{sum}
use Rattle.shelves.proofs.making.adds_up.Given as goal

abbrev pub invariant-loop-m : goal.invariant-loop-m
invariant-loop-m l = sum l.lengths + l.left ≡ l.n + sum (drop l.m-index l.lengths)
