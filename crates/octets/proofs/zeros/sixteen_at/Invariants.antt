-- The characters of whole sixteens that were looked at are not zero.
use Prim.Native.Nat.{◌*◌, ◌≤◌}
use Rattle.octets.specs.Characters.{bytes_of, characters, before_zero}
use Rattle.octets.proofs.zeros.sixteen_at.Given as goal

abbrev pub invariant-loop-j : goal.invariant-loop-j
invariant-loop-j g l = 16 * l.j ≤ bytes_of g.C.Character.unicode (before_zero (characters g.C.Character.unicode l.t))
