-- With the list there, its tests decide: its body is the list without the two zero bytes at its end.
use Prim.Native.Nat.{◌+◌, ◌-◌, ◌≤◌}
use mathlib.Core.Path.{◌≡◌, sym, ◌∙◌}
use native.Mathlib.Omega.{arith}
use lib.ListN.{length}
use Rattle.std.proofs.lemmas.Grind.{common_steps}
use Rattle.octets.specs.Numbers.{u16_at}
use Rattle.single.proofs.Laws.{items_bad, items_good}
use Rattle.single.proofs.items.Goals as goal

pub returns-in-Some : goal.returns-in-Some
returns-in-Some c =
    let s = c.args.s.now in
    let p = c.args.c.at in
    let n = c.in_ok-size.size in
    let e : n ≡ u16_at s p = grind (arith, common_steps) in
    let h : p + 2 + n ≤ length s = grind (arith, common_steps) in
    let b : c.in_ok-size.body.at ≡ p + 2 = grind (arith, common_steps) in
    let k : c.in_ok-next.next.at - c.in_ok-size.body.at ≡ n = grind (arith, common_steps) in
    rw c.at.ensures (items_bad s p e h (rw (k, b) at (sym c.items_wrong.ensures.is ∙ c.in-Some.is)))

pub returns : goal.returns
returns c =
    let s = c.args.s.now in
    let p = c.args.c.at in
    let n = c.in_ok-size.size in
    let e : n ≡ u16_at s p = grind (arith, common_steps) in
    let h : p + 2 + n ≤ length s = grind (arith, common_steps) in
    let b : c.in_ok-size.body.at ≡ p + 2 = grind (arith, common_steps) in
    let q : c.in_ok-next.next.at ≡ p + 2 + n = grind (arith, common_steps) in
    let k : c.in_ok-next.next.at - c.in_ok-size.body.at ≡ n = omega arith in
    let two : 2 ≤ n = grind (arith, common_steps) in
    rw (q, b) (items_good s p e h (rw (k, b) at (sym c.items_wrong.ensures.is ∙ c.in_default.is)) two)
