-- Of the slots before k each body that is there can be written.
use Rattle.std.proofs.Common.{◌≡◌, ℕ, ◌≤◌, ◌<◌, true, get_or}
use Rattle.format.specs.Steps.Shape.{no_slot}
use Rattle.writable.proofs.SlotLaws.{ok_at}
use Rattle.writable.proofs.slots_ok.Given as goal

abbrev pub invariant-loop-k : goal.invariant-loop-k
invariant-loop-k l = (j : ℕ) → l.from ≤ j → j < l.k → (get_or l.s j no_slot).there ≡ true → ok_at l.d l.row l.s j ≡ true
