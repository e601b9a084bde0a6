-- From a refusal to the first test that fails, and back.
use mathlib.Core.Path.{◌≡◌, refl, sym}
use mathlib.Core.List.{List, [], ◌∷◌, ◌++◌}
use mathlib.Core.Bool.{Bool, true, false, cond}
use Prim.Native.Nat.{ℕ}
use Rattle.format.specs.declared.Fault.{Fault}
use Rattle.format.specs.declared.Spot.{Spot}
use Rattle.format.specs.Tests.{Site, spot_at, Test, tests, Outcome, refused}
use Rattle.format.proofs.Bools.{clash}
use Rattle.format.proofs.Chains.{Pass}
use Rattle.format.proofs.EachLaws.{Each}
use Rattle.refusals.specs.Wrong.{FirstFails}

-- one of the tests fails, or all hold and what follows refuses
pub tests_first {ℓ} : {A : Type 0} {X : Type ℓ} (w : Site) (ts : List Test) (r : Outcome A) {f : Fault} {q : Spot} → tests w ts r ≡ refused f q
    → ((i : ℕ) → FirstFails ts f i → q ≡ spot_at w i → X) → (Pass ts → r ≡ refused f q → X) → X
tests_first w [] r e here after = after tt e
tests_first {A = A} {X = X} w (t ∷ ts) r {f} {q} e here after =
    go t.holds refl (λ j z. tests_first w ts r z (λ i y x. here i ((λ h. y), λ h. clash j h) x) (λ c y. after (j, c) y)) e
  where
    go : (b : Bool) → t.holds ≡ b → (t.holds ≡ true → tests w ts r ≡ refused f q → X)
        → ◌≡◌ {A = Outcome A} (cond b (tests w ts r) (refused t.fault (spot_at w t.field))) (refused f q) → X
    go true h rest z = rest h z
    go false h rest z =
        let a : t.fault ≡ f = cc in
        let b : spot_at w t.field ≡ q = cc in
        here t.field ((λ k. clash k h), λ k. (a, refl)) (sym b)

-- the first that fails decides
pub first_tests : {A : Type 0} (w : Site) (ts : List Test) (r : Outcome A) (f : Fault) (i : ℕ) → FirstFails ts f i → tests w ts r ≡ refused f (spot_at w i)
first_tests w [] r f i h = absurd h
first_tests {A = A} w (t ∷ ts) r f i h = go t.holds refl (λ j. first_tests w ts r f i (h.0 j))
  where
    go : (b : Bool) → t.holds ≡ b → (t.holds ≡ true → tests w ts r ≡ refused f (spot_at w i))
        → ◌≡◌ {A = Outcome A} (cond b (tests w ts r) (refused t.fault (spot_at w t.field))) (refused f (spot_at w i))
    go true j rest = rest j
    go false j rest = let (a, b) = h.1 j in rw (a, b)

-- what each test allows holds of the first that fails
pub first_Each : (X : Fault → ℕ → Type 0) (ts : List Test) (f : Fault) (i : ℕ) → Each X ts → FirstFails ts f i → X f i
first_Each X [] f i h x = absurd x
first_Each X (t ∷ ts) f i h x = go t.holds refl (λ e. first_Each X ts f i (h.1 e) (x.0 e))
  where
    go : (b : Bool) → t.holds ≡ b → (t.holds ≡ true → X f i) → X f i
    go true e rest = rest e
    go false e rest = let (a, b) = x.1 e in rw (a, b) at (h.0 e)

-- ---- lists of tests in two parts

pub first_split {ℓ} : {X : Type ℓ} (ts us : List Test) (f : Fault) (i : ℕ) → FirstFails (ts ++ us) f i → (FirstFails ts f i → X) → (Pass ts → FirstFails us f i → X) → X
first_split [] us f i x g h = h tt x
first_split {X = X} (t ∷ ts) us f i x g h =
    go t.holds refl (λ e. first_split ts us f i (x.0 e) (λ y. g ((λ k. y), λ k. clash e k)) (λ c y. h (e, c) y))
  where
    go : (b : Bool) → t.holds ≡ b → (t.holds ≡ true → X) → X
    go true e rest = rest e
    go false e rest = g ((λ k. clash k e), x.1)

pub first_left : (ts us : List Test) (f : Fault) (i : ℕ) → FirstFails ts f i → FirstFails (ts ++ us) f i
first_left [] us f i x = absurd x
first_left (t ∷ ts) us f i x = ((λ e. first_left ts us f i (x.0 e)), x.1)

pub first_right : (ts us : List Test) (f : Fault) (i : ℕ) → Pass ts → FirstFails us f i → FirstFails (ts ++ us) f i
first_right [] us f i c x = x
first_right (t ∷ ts) us f i c x = ((λ e. first_right ts us f i c.1 x), λ e. clash c.0 e)
