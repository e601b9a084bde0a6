-- Number and value in one number.
use mathlib.Core.Path.{◌≡◌}
use Prim.Native.Nat.{ℕ, ◌+◌, ◌*◌, ◌≤◌}
use native.Mathlib.Omega.{arith}
use Rattle.format.specs.declared.Refused.{Refused}
use Rattle.format.specs.Numbers.{number_of, answer_number, answer_value}
use Rattle.scheduler.specs.Code.{code_of}
use Rattle.format.specs.Verdicts.{Verdict}
use Rattle.std.specs.Prelude.{Ok, Err}

module _ {v : Verdict} {n : ℕ} (e : v ≡ Ok n) where
  pub accepted_small : answer_value v ≤ 4194820 → n ≤ 4194820
  unfolding answer_value
  accepted_small h = rw e at h

  pub accepted_code : 256 * n ≡ code_of v
  unfolding code_of answer_number answer_value
  accepted_code = rw e (omega arith)

module _ {v : Verdict} {r : Refused} (e : v ≡ Err r) where
  pub refused_small : answer_value v ≤ 4194820 → r.position ≤ 4194820
  unfolding answer_value
  refused_small h = rw e at h

  pub refused_code : {k : ℕ} → k ≡ number_of r.fault → k + 256 * r.position ≡ code_of v
  unfolding code_of answer_number answer_value
  refused_code h = rw (e, h)

-- what the code of a verdict rests on
pub ruleset coding = (accepted_small, accepted_code, refused_small, refused_code)
