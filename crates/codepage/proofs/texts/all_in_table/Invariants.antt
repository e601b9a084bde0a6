-- The units so far are in the table.
use Rattle.std.proofs.Common.{◌≡◌, ℕ, ◌*◌, ◌<◌, true}
use Rattle.octets.specs.Numbers.{u16_at}
use Rattle.format.specs.Codepage.{in_table}
use Rattle.codepage.proofs.texts.all_in_table.Given as goal

abbrev pub invariant-loop-k : goal.invariant-loop-k
invariant-loop-k l = (j : ℕ) → j < l.k → in_table (u16_at l.x (2 * j)) ≡ true
