-- Of the slots before k each body that is there lies in n bytes.
use Rattle.std.proofs.Common.{◌≡◌, ℕ, ◌<◌, true, get_or}
use Rattle.format.specs.Steps.Shape.{no_slot}
use Rattle.writable.proofs.SlotLaws.{inside_at}
use Rattle.writable.proofs.placed.Given as goal

abbrev pub invariant-loop-k : goal.invariant-loop-k
invariant-loop-k l = (j : ℕ) → j < l.k → (get_or l.s j no_slot).there ≡ true → inside_at l.n l.row j ≡ true
