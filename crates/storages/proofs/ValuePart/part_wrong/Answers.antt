-- The name ends inside the value, so the zero byte decides.
use Prim.Native.Nat.{ℕ, ◌+◌, ◌≤◌}
use mathlib.Core.Path.{◌≡◌, refl}
use mathlib.Core.Bool.{Bool, true, false, not, cond}
use native.Mathlib.Omega.{arith}
use lib.ListN.{length}
use borrow.Author.Tests.{le-leb}
use Rattle.std.specs.Prelude.{Some, None}
use Rattle.std.specs.Bool.{then_some}
use Rattle.format.specs.Store.{name_length}
use Rattle.storages.proofs.ValuePart.part_wrong.Goals as goal

some_unless : (b : Bool) (i : ℕ) → then_some (not b) i ≡ cond b None (Some i)
some_unless true i = refl
some_unless false i = refl

pub returns : goal.returns
returns c =
    let v = c.args.v.now in
    let fits : 9 + name_length c.args.self.now.named v ≤ length v = omega arith in
    rw (c.then_some.ensures, le-leb _ _ fits) (some_unless _ _)
