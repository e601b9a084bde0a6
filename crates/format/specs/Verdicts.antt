-- What a call answers: accepted with a length, or refused with a fault and a position.
use Rattle.std.specs.Prelude.{ℕ, Result, Err}
use Rattle.format.specs.declared.Fault.{Fault}
use Rattle.format.specs.declared.Refused.{Refused}

abbrev pub Verdict : Type 0
Verdict = Result ℕ Refused

abbrev pub refused_at : Fault → ℕ → Verdict
refused_at f p = Err (record { fault = f; position = p })
