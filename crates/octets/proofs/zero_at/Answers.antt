-- Behind the end there is no character; else where the search over the characters ends, the first zero one stands.
use mathlib.Core.Bool.{true}
use native.Mathlib.Omega.{arith}
use Rattle.octets.proofs.ZeroLaws.{rest_whole, zero_at_past, no_zero_past, zero_placed}
use Rattle.octets.proofs.zero_at.Goals as goal

pub returns-then-s-from-clause-is : goal.returns-then-s-from-clause-is
returns-then-s-from-clause-is c = zero_at_past c.args.unicode c.args.s.now c.args.from c.if-s-from.true

pub returns-then-s-from-clause-found : goal.returns-then-s-from-clause-found
returns-then-s-from-clause-found c = no_zero_past c.args.unicode c.args.s.now c.args.from c.if-s-from.true

pub overflow_mul-result : goal.overflow_mul-result
overflow_mul-result c =
    omega (arith, (zero_placed true c.args.s.now c.args.from (rest_whole c.args.s.now c.args.from) c.first_zero.ensures c.in_ok-first_zero.was).inside)

pub overflow_add-result : goal.overflow_add-result
overflow_add-result c =
    omega (arith, (zero_placed true c.args.s.now c.args.from (rest_whole c.args.s.now c.args.from) c.first_zero.ensures c.in_ok-first_zero.was).inside)

pub returns-then-unicode-clause-found : goal.returns-then-unicode-clause-found
returns-then-unicode-clause-found c =
    rw c.if-unicode.true (zero_placed true c.args.s.now c.args.from (rest_whole c.args.s.now c.args.from) c.first_zero.ensures c.in_ok-first_zero.was)
