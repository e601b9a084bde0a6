-- One law for each way out.
use native.Mathlib.Omega.{arith}
use Prim.Native.Nat.{◌+◌, ◌*◌}
use lib.ListN.{length, length-drop}
use Rattle.std.proofs.lemmas.Slice.{between_to_end}
use Rattle.shelving.proofs.FileLaws.{unshelve_inside, on-apart, unshelve_bad, unshelve_room, unshelve_fits, unshelve_made}
use Rattle.shelving.proofs.unshelve.Goals as goal

pub slice_bounds-first_bad-count : goal.slice_bounds-first_bad-count
slice_bounds-first_bad-count c = omega (arith, unshelve_inside c.args.s.now c.args.lengths.now c.requires.0 c.requires.1 c.args.out.now)

pub slice_bounds-first_bad-start : goal.slice_bounds-first_bad-start
slice_bounds-first_bad-start c = omega (arith, unshelve_inside c.args.s.now c.args.lengths.now c.requires.0 c.requires.1 c.args.out.now)

pub first_bad-requires : goal.first_bad-requires
first_bad-requires c =
    let s = c.args.s.now in
    let at = 4 + 8 * length c.args.lengths.now in
    rw (between_to_end s at (length s) (omega arith)) (omega (arith, length-drop at s, unshelve_inside s c.args.lengths.now c.requires.0 c.requires.1 c.args.out.now))

pub returns-in-Some : goal.returns-in-Some
returns-in-Some c =
    let s = c.args.s.now in
    let ns = c.args.lengths.now in
    let some = rw (between_to_end s (4 + 8 * length ns) (length s) (omega arith), ← on-apart s ns c.requires.0 c.requires.1 c.args.out.now) at c.in-Some.ensures in
    rw c.at.ensures (unshelve_bad s ns c.requires.0 c.requires.1 c.args.out.now some)

pub overflow_sub-s : goal.overflow_sub-s
overflow_sub-s c =
    omega (arith, unshelve_inside c.args.s.now c.args.lengths.now c.requires.0 c.requires.1 c.args.out.now)

pub returns-then-out-s : goal.returns-then-out-s
returns-then-out-s c =
    let s = c.args.s.now in
    let ns = c.args.lengths.now in
    let none = rw (between_to_end s (4 + 8 * length ns) (length s) (omega arith), ← on-apart s ns c.requires.0 c.requires.1 c.args.out.now) at c.in_default.ensures in
    rw c.at-then-out-s.ensures (unshelve_room s ns c.requires.0 c.requires.1 c.args.out.now none c.if-out-s.true)

pub put_old-requires : goal.put_old-requires
put_old-requires c =
    let s = c.args.s.now in
    let ns = c.args.lengths.now in
    let none = rw (between_to_end s (4 + 8 * length ns) (length s) (omega arith), ← on-apart s ns c.requires.0 c.requires.1 c.args.out.now) at c.in_default.ensures in
    unshelve_fits s ns c.requires.0 c.requires.1 c.args.out.now none c.if-out-s.false

pub returns : goal.returns
returns c =
    let s = c.args.s.now in
    let ns = c.args.lengths.now in
    let none = rw (between_to_end s (4 + 8 * length ns) (length s) (omega arith), ← on-apart s ns c.requires.0 c.requires.1 c.args.out.now) at c.in_default.ensures in
    unshelve_made s ns c.requires.0 c.requires.1 c.args.out.now none c.if-out-s.false c.put_old.ensures.written
