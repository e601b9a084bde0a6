-- The bytes so far are assigned.
use Rattle.std.proofs.Common.{◌≡◌, ℕ, ◌<◌, true, get_or}
use Rattle.format.specs.Codepage.{assigned}
use Rattle.codepage.proofs.texts.all_assigned.Given as goal

abbrev pub invariant-loop-b : goal.invariant-loop-b
invariant-loop-b l = (j : ℕ) → j < l.b-index → assigned (get_or l.x j 0) ≡ true
