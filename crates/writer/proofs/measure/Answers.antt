-- The last test is that of the room.
use mathlib.Core.Path.{sym, ◌∙◌}
use Prim.Native.Nat.{◌+◌}
use native.Mathlib.Omega.{arith}
use borrow.Author.Tests.{le-leb}
use Rattle.format.specs.Shortcut.{most}
use Rattle.writable.proofs.WholeLaws.{writable_few}
use Rattle.writer.proofs.measure.Goals as goal

pub returns : goal.returns
returns c =
    let inside = sym c.if-not-placed.ensures in
    let can = sym c.writable.ensures ∙ c.if-not-writable.false in
    let few = writable_few c.args.profile c.args.d.now c.args.r inside c.end_of-end.ensures can in
    let n = c.end_of-end.result + c.args.more in
    rw (inside, can, ← c.end_of-end.ensures, ← c.sizes_of-sizes.ensures, le-leb n most (omega arith), le-leb n c.args.room (omega arith))
