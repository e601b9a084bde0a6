-- A refusal but LONG stands in the section at fault, and every refusal no later than the longest shortcut ends.
use mathlib.Core.Path.{◌≡◌, refl}
use mathlib.Core.List.{List, [], ◌∷◌}
use mathlib.Core.Bool.{Bool, true, false, cond}
use Prim.Native.Nat.{ℕ, ◌-◌, ◌≤◌}
use native.Mathlib.Omega.{arith}
use lib.ListN.{length, take}
use lib.Dec.{leb, eqb}
use borrow.Author.Tests.{leb-true}
use Rattle.format.specs.declared.Profile.{Profile}
use Rattle.format.specs.declared.Fault.{Fault}
use Rattle.format.specs.declared.Fault.TheVariants.{Long as LONG, Cut as CUT, Trail as TRAIL}
use Rattle.format.specs.declared.Spot.{Spot}
use Rattle.format.specs.Tests.{◌else◌at◌, section, no_section, spot_at, tests, Outcome, got, refused, and_then}
use Rattle.format.specs.Header.{header_rules, header_fields, header}
use Rattle.format.specs.Shortcut.{most, Sections, found, tail, sections, shortcut}
use Rattle.format.specs.Positions.{after_terminal, InSection}
use Rattle.format.proofs.Chains.{tests_elim, chain_elim}
use Rattle.format.proofs.PlaceLaws.{found_elim}
use Rattle.format.proofs.PositionLaws.{Near, Near-sections}

data Refusal (s : List ℕ) : Fault → Spot → Type 0 where
  too_long : Refusal s LONG (spot_at no_section most)
  inside : {f : Fault} {w : Spot} → length s ≤ most → InSection s f w → Refusal s f w

abbrev Told : List ℕ → Outcome Sections → Type 0
Told s (got c n) = Unit {0}
Told s (refused f w) = Refusal s f w

-- the header alone has as much
pub four_read : (profile : Profile) (s : List ℕ) (c : Sections) (n : ℕ) → sections profile 0 s ≡ got c n → 4 ≤ n
unfolding sections
four_read profile s c n e =
    chain_elim (found (header profile)) (λ h. tail profile h.read.flags) 0 s (λ c n. 4 ≤ n)
    (λ a n b m i j.
    let h : 76 ≤ n = found_elim (header profile) 0 s (λ a n. 76 ≤ n) (λ a n i.
    tests_elim (λ a n. 76 ≤ n) (section 0 0) (leb 76 (length s) else CUT at 0 ∷ header_rules profile (take 76 s)) (header_fields (take 76 s)) 76 (λ c. omega arith) a n i) a n i in
    omega arith)
    c n e

told : (profile : Profile) (s : List ℕ) → Told s (shortcut profile s)
unfolding shortcut
told profile s = go (leb (length s) most) refl
  where
    trail : length s ≤ most → (c : Sections) (n : ℕ) → n ≤ length s → 4 ≤ n → (b : Bool) → Told s (cond b (got c n) (refused TRAIL (spot_at (section 9 (n - 4)) 4)))
    trail l c n h k true = tt
    trail l c n h k false = inside {w = spot_at (section 9 (n - 4)) 4} l (record { early = omega arith; late = omega arith; end = λ e. after_terminal })

    ends : length s ≤ most → (r : Outcome Sections) → sections profile 0 s ≡ r → Near profile s 0 r
        → Told s (and_then r (λ c n. tests (section 9 (n - 4)) (eqb n (length s) else TRAIL at 4 ∷ []) (got c n)))
    ends l (got c n) i h = trail l c n (omega arith) (four_read profile s c n i) (eqb n (length s))
    ends l (refused f w) i h = inside l h

    go : (b : Bool) → leb (length s) most ≡ b
        → Told s (cond b (and_then (sections profile 0 s) (λ c n. tests (section 9 (n - 4)) (eqb n (length s) else TRAIL at 4 ∷ []) (got c n))) (refused LONG (spot_at no_section most)))
    go true e = ends (leb-true (length s) most e) (sections profile 0 s) refl (Near-sections profile s)
    go false e = too_long

pub positions_inside : (profile : Profile) (s : List ℕ) (f : Fault) (w : Spot) → shortcut profile s ≡ refused f w → (f ≡ LONG → ⊥) → InSection s f w
positions_inside profile s f w i h = go (rw i at (told profile s)) h
  where
    go : {f : Fault} {w : Spot} → Refusal s f w → (f ≡ LONG → ⊥) → InSection s f w
    go too_long h = absurd (h refl)
    go (inside l k) h = k

pub positions_small : (profile : Profile) (s : List ℕ) (f : Fault) (w : Spot) → shortcut profile s ≡ refused f w → w.position ≤ most
positions_small profile s f w i = go (rw i at (told profile s))
  where
    go : {f : Fault} {w : Spot} → Refusal s f w → w.position ≤ most
    go too_long = omega arith
    go (inside l k) = omega (arith, k.late)

pub starts_before : (profile : Profile) (s : List ℕ) (f : Fault) (w : Spot) → shortcut profile s ≡ refused f w → w.start ≤ w.position
starts_before profile s f w i = go (rw i at (told profile s))
  where
    go : {f : Fault} {w : Spot} → Refusal s f w → w.start ≤ w.position
    go too_long = omega arith
    go (inside l k) = k.early
