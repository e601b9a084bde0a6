-- The units so far are those of the bytes.
use Rattle.std.proofs.Common.{◌≡◌, ℕ, ◌*◌, ◌<◌, Some, get_or}
use Rattle.octets.specs.Numbers.{u16_at}
use Rattle.codepage.specs.Steps.Candidates.{unit_if}
use Rattle.codepage.proofs.texts.is_translation.Given as goal

abbrev pub invariant-loop-k : goal.invariant-loop-k
invariant-loop-k l = (j : ℕ) → j < l.k → unit_if (get_or l.x j 0) ≡ Some (u16_at l.y (2 * j))
