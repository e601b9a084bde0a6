use mathlib.Core.Path.{◌∙◌}
use native.Mathlib.Omega.{arith}
use lib.Seq.{set-get_or}
use Rattle.shelves.proofs.OldLaws.{Passed-none, Passed-more, passed_all, passed_full}
use Rattle.shelves.proofs.old.old_lengths.Goals as goal

pub loop-slot-init : goal.loop-slot-init
loop-slot-init c = Passed-none c.args.s.now c.args.lengths.now c.requires.0

pub returns-in_default : goal.returns-in_default
returns-in_default c = set-get_or c.loop-slot.lengths c.loop-slot.slot-index 0 ∙ passed_all c.loop-slot.invariant c.in_default.ensures

pub loop-slot-preserved : goal.loop-slot-preserved
loop-slot-preserved c =
    let e = c.in-Some.ensures in
    rw e.2 (Passed-more c.loop-slot.invariant e.0 c.requires.1 e.1)

pub returns : goal.returns
returns c = passed_full c.loop-slot.invariant (omega (arith, c.requires.1))
