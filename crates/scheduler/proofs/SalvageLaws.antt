-- What salvage answers fits into one number: the bytes kept and dropped are those of a shortcut.
use mathlib.Core.Path.{◌≡◌, refl, ap, ◌∙◌}
use mathlib.Core.List.{List}
use Prim.Native.Nat.{ℕ, ◌+◌, ◌*◌, ◌≤◌, ◌<◌}
use native.Mathlib.Omega.{arith}
use lib.ListN.{length}
use borrow.Author.Tests.{lt-leb}
use Rattle.format.specs.declared.Profile.TheVariants.{Strict}
use Rattle.format.specs.declared.Refused.{Refused}
use Rattle.format.specs.declared.Salvaged.{Salvaged}
use Rattle.format.specs.declared.Fault.TheVariants.{Long as LONG, Room as ROOM, Lost as LOST}
use Rattle.format.specs.Numbers.{number_of, answer_number, answer_value, Numbered}
use Rattle.format.specs.Tests.{no_section, spot_at}
use Rattle.format.specs.Shortcut.{most, shortcut, reading}
use Rattle.format.specs.Salvage.{salvaging, salvage_verdict, salvage_answer, salvage_output, Lost, elsewhere, SalvageEnds, lost, no_room, saved}
use Rattle.format.proofs.Bools.{by_order}
use Rattle.format.proofs.SalvageDemands.{salvage_ends, Lost-exactly}
use Rattle.scheduler.specs.Code.{code_of, salvage_code}
use Rattle.scheduler.specs.Salvages.{SalvageCodeEnds}
use Rattle.format.specs.Verdicts.{refused_at}
use Rattle.std.specs.Prelude.{Result, Ok, Err}

-- a refusal has position 0
pub refusal_small : (s out : List ℕ) {r : Refused} → Err r ≡ salvage_answer s out → answer_value (Err r) ≤ 4194820
unfolding answer_value
refusal_small s out {r} e = go (rw (← e) at (salvage_ends s out)) refl
  where
    go : {v : Result Salvaged Refused} {x : List ℕ} → SalvageEnds s out v x → v ≡ Err r → answer_value (Err r) ≤ 4194820
    go (lost y) q = let z : r ≡ record { fault = LOST; position = 0 } = cc in rw z (omega arith)
    go (no_room k w y h) q = let z : r ≡ record { fault = ROOM; position = 0 } = cc in rw z (omega arith)
    go (saved k d w y h a) q = absurd (let z : ◌≡◌ {A = ℕ} 0 1 = cc in omega arith)

-- nothing is saved of what is too long
long_Lost : (s : List ℕ) → most < length s → Lost s
unfolding shortcut number_of
long_Lost s h = elsewhere LONG (spot_at no_section most) (rw (lt-leb (length s) most h)) refl refl

pub record Fits (g : Salvaged) : Type 0 where
  pub kept : g.kept ≤ 65536
  pub dropped : g.dropped ≤ 65536

-- of a success: both are part of a shortcut that is not too long
pub salvage_Fits : (s out : List ℕ) {g : Salvaged} → Ok g ≡ salvage_answer s out → Fits g
salvage_Fits s out {g} e = go (rw (← e) at (salvage_ends s out)) refl (by_order (length s) most (λ h. h) (λ h. other h))
  where
    other : most < length s → length s ≤ most
    other h =
        let v : Ok g.len ≡ refused_at LOST 0 = ap salvage_verdict e ∙ (Lost-exactly s out).1 (long_Lost s h) in
        absurd (let z : ◌≡◌ {A = ℕ} 0 1 = cc in omega arith)

    go : {v : Result Salvaged Refused} {x : List ℕ} → SalvageEnds s out v x → v ≡ Ok g → length s ≤ most → Fits g
    go (lost y) q l = absurd (let z : ◌≡◌ {A = ℕ} 0 1 = cc in omega arith)
    go (no_room k w y h) q l = absurd (let z : ◌≡◌ {A = ℕ} 0 1 = cc in omega arith)
    go (saved k d w y h a) q l =
        let z : g ≡ record { len = length w; number = answer_number (reading Strict s).verdict; kept = k; dropped = d } = cc in
        rw z (record { kept = omega arith; dropped = omega arith })

pub refused_code : (r : Refused) → code_of (Err r) ≡ salvage_code (Err r)
unfolding salvage_code
refused_code r = refl

pub saved_code : (g : Salvaged) → 256 * (g.number + 256 * (g.kept + 131072 * g.dropped)) ≡ salvage_code (Ok g)
unfolding salvage_code
saved_code g = refl

-- what the call for C says, of a report and its code
pub salvage_call : {s out x : List ℕ} (g : Result Salvaged Refused) {c : ℕ} → (g ≡ salvage_answer s out) × ((x ≡ salvage_output s out) × (Numbered (salvage_verdict g) (salvaging s (length out)) × SalvageEnds s out g x)) → c ≡ salvage_code g
    → (c ≡ salvage_code (salvage_answer s out)) × ((x ≡ salvage_output s out) × SalvageCodeEnds s out c x)
salvage_call g (a, (o, (n, e))) h = (h ∙ ap salvage_code a, (o, record { report = g; code = h; ends = e }))
