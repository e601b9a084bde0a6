-- The characters that were looked at are not zero.
use Prim.Native.Nat.{◌+◌, ◌*◌, ◌≤◌}
use Rattle.octets.specs.Characters.{characters, before_zero}
use Rattle.octets.proofs.zeros.zero_among.Given as goal

abbrev pub invariant-loop-turn : goal.invariant-loop-turn
invariant-loop-turn g l = l.start + 4 * l.turn ≤ before_zero (characters g.C.Character.unicode l.t)

abbrev pub invariant-loop-j : goal.invariant-loop-j
invariant-loop-j g l = l.start + 4 * l.turn + l.j ≤ before_zero (characters g.C.Character.unicode l.t)

abbrev pub invariant-loop-i : goal.invariant-loop-i
invariant-loop-i g l = l.last + l.i ≤ before_zero (characters g.C.Character.unicode l.t)
