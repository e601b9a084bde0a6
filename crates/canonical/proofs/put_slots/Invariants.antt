-- What was put up to slot k.
use Rattle.canonical.proofs.SlotLaws.{bytes_to, size_to}
use Rattle.format.specs.Steps.Lengths.{written_body}
use Rattle.format.specs.Steps.Flat.{slot_bytes}
use Rattle.canonical.specs.Steps.Puts.{characters_row}
use Rattle.copies.specs.Steps.Writes.{Writes}
use Rattle.canonical.proofs.put_slots.Given as goal

abbrev pub invariant-loop-k : goal.invariant-loop-k
invariant-loop-k l =
    Writes l.initial.w l.w
    (bytes_to (slot_bytes l.d) written_body l.row (characters_row l.s) l.from l.k)
    (size_to (slot_bytes l.d) written_body l.row (characters_row l.s) l.from l.k)
