use Rattle.blocks.proofs.WalkLaws.{none_twice, none_here}
use Rattle.blocks.proofs.run.Goals as goal

pub returns-in-loop-b-clause-ended : goal.returns-in-loop-b-clause-ended
returns-in-loop-b-clause-ended c =
    none_here c.args.s.now c.loop-b.rest.now c.loop-b.p c.loop-b.firsts c.loop-b.invariant.here c.judged.result c.judged.ensures (λ b e. cc)

pub returns-in-loop-b-2-clause-ended : goal.returns-in-loop-b-2-clause-ended
returns-in-loop-b-2-clause-ended c =
    none_here c.args.s.now c.loop-b.rest.now c.loop-b.p c.loop-b.firsts c.loop-b.invariant.here c.judged.result c.judged.ensures (λ b e. cc)

pub returns-else-note-clause-ended : goal.returns-else-note-clause-ended
returns-else-note-clause-ended c =
    none_twice c.args.s.now c.loop-b.rest.now c.loop-b.p c.loop-b.firsts c.loop-b.invariant.here c.in-Ok-Some.b c.note.new.firsts (rw c.in-Ok-Some.field-0-is at c.in-Ok-Some.ensures) (cc) c.note.ensures.row
