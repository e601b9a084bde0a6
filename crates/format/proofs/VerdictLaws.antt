-- Two verdicts that are the same refusal have one fault and one position.
use mathlib.Core.Path.{◌≡◌, ap}
use Prim.Native.Nat.{ℕ}
use Rattle.format.specs.declared.Fault.{Fault}
use Rattle.format.specs.declared.Refused.{Refused}
use Rattle.format.specs.Verdicts.{refused_at}

same_refused : {f g : Fault} {p q : ℕ} → refused_at f p ≡ refused_at g q → ◌≡◌ {A = Refused} (record { fault = f; position = p }) (record { fault = g; position = q })
same_refused e = cc

pub same_fault : {f g : Fault} {p q : ℕ} → refused_at f p ≡ refused_at g q → f ≡ g
same_fault e = ap (λ (r : Refused). r.fault) (same_refused e)

pub same_position : {f g : Fault} {p q : ℕ} → refused_at f p ≡ refused_at g q → p ≡ q
same_position e = ap (λ (r : Refused). r.position) (same_refused e)
