-- What was put up to slot k.
use Rattle.copies.specs.Steps.Writes.{Writes}
use Rattle.canonical.proofs.SlotLaws.{bytes_to, size_to}
use Rattle.moving.specs.Steps.Pieces.{moved_slot, moved_size, moved_row}
use Rattle.moving.proofs.texts.put_strings.Given as goal

abbrev pub invariant-loop-k : goal.invariant-loop-k
invariant-loop-k l =
    Writes l.initial.w l.w
    (bytes_to (moved_slot l.unicode l.m.bodies.now) (moved_size l.unicode) l.row (moved_row l.unicode l.m.shape) 10 l.k)
    (size_to (moved_slot l.unicode l.m.bodies.now) (moved_size l.unicode) l.row (moved_row l.unicode l.m.shape) 10 l.k)
