-- Tests of one fault as the field of the first that fails.
use mathlib.Core.Path.{◌≡◌, refl, sym, ◌∙◌}
use mathlib.Core.List.{List, [], ◌∷◌, ◌++◌}
use mathlib.Core.Bool.{Bool, true, false, cond}
use Prim.Native.Nat.{ℕ, ◌<◌}
use Rattle.std.specs.Prelude.{Option, Some, None, Result, Ok, Err}
use Rattle.format.specs.declared.Fault.{Fault}
use Rattle.format.specs.Tests.{Site, spot_at, Outcome, refused, Test, tests}
use Rattle.format.specs.Steps.Wrong.{wrong, given, first}
use Rattle.format.proofs.Chains.{Pass}

-- all of these tests give the fault f
abbrev pub OfFault : Fault → List Test → Type 0
OfFault f [] = Unit {0}
OfFault f (t ∷ ts) = (t.fault ≡ f) × OfFault f ts

pub OfFault-join : (f : Fault) (ts us : List Test) → OfFault f ts → OfFault f us → OfFault f (ts ++ us)
OfFault-join f [] us h k = k
OfFault-join f (t ∷ ts) us h k = (h.0, OfFault-join f ts us h.1 k)

-- all of these tests give the fault f, and none is of the field 0
abbrev pub Faults : Fault → List Test → Type 0
Faults f [] = Unit {0}
Faults f (t ∷ ts) = (t.fault ≡ f) × ((0 < t.field) × Faults f ts)

pub Faults-join : (f : Fault) (ts us : List Test) → Faults f ts → Faults f us → Faults f (ts ++ us)
Faults-join f [] us h k = k
Faults-join f (t ∷ ts) us h k = (h.0, (h.1.0, Faults-join f ts us h.1.1 k))

pub Faults-OfFault : (f : Fault) (ts : List Test) → Faults f ts → OfFault f ts
Faults-OfFault f [] h = tt
Faults-OfFault f (t ∷ ts) h = (h.0, Faults-OfFault f ts h.1.1)

-- what the field found wrong says of reading on
abbrev pub at_fault : {A : Type 0} → Fault → Site → Option ℕ → Outcome A → Outcome A
at_fault f w None r = r
at_fault f w (Some i) r = refused f (spot_at w i)

-- tests of one fault are one test
pub one_fault : {A : Type 0} (f : Fault) (w : Site) (ts : List Test) (r : Outcome A) → OfFault f ts → tests w ts r ≡ at_fault f w (wrong ts) r
one_fault f w [] r h = refl
one_fault {A = A} f w (t ∷ ts) r h = go t.holds (one_fault f w ts r h.1)
  where
    go : (b : Bool) → tests w ts r ≡ at_fault f w (wrong ts) r
        → cond b (tests w ts r) (refused t.fault (spot_at w t.field)) ≡ at_fault f w (cond b (wrong ts) (Some t.field)) r
    go true e = e
    go false e = rw h.0

pub wrong-append : (ts us : List Test) → wrong (ts ++ us) ≡ first (wrong ts) (wrong us)
wrong-append [] us = refl
wrong-append (t ∷ ts) us = go t.holds (wrong-append ts us)
  where
    go : (b : Bool) → wrong (ts ++ us) ≡ first (wrong ts) (wrong us) → cond b (wrong (ts ++ us)) (Some t.field) ≡ first (cond b (wrong ts) (Some t.field)) (wrong us)
    go true e = e
    go false e = refl

-- none is wrong: all hold
pub none_wrong : (ts : List Test) → wrong ts ≡ None → Pass ts
none_wrong [] e = tt
none_wrong (t ∷ ts) e = go t.holds refl (none_wrong ts) e
  where
    go : (b : Bool) → t.holds ≡ b → (wrong ts ≡ None → Pass ts) → cond b (wrong ts) (Some t.field) ≡ None → Pass (t ∷ ts)
    go true i k e = (i, k e)
    go false i k e = cc

pub Pass-none : (ts : List Test) → Pass ts → wrong ts ≡ None
Pass-none [] h = refl
Pass-none (t ∷ ts) h = rw h.0 (Pass-none ts h.1)

-- both forms say the same
abbrev given_of : {A : Type 0} → Option ℕ → A → Result A ℕ
given_of None a = Ok a
given_of (Some i) a = Err i

given_is : {A : Type 0} (ts : List Test) (a : A) → given ts a ≡ given_of (wrong ts) a
given_is [] a = refl
given_is (t ∷ ts) a = go t.holds (given_is ts a)
  where
    go : (b : Bool) → given ts a ≡ given_of (wrong ts) a → cond b (given ts a) (Err t.field) ≡ given_of (cond b (wrong ts) (Some t.field)) a
    go true e = e
    go false e = refl

pub given_none : {A : Type 0} (ts : List Test) (a : A) {x : A} → given ts a ≡ Ok x → (wrong ts ≡ None) × (a ≡ x)
given_none {A} ts a {x} e = go (wrong ts) (sym (given_is ts a) ∙ e)
  where
    go : (o : Option ℕ) → given_of o a ≡ Ok x → (o ≡ None) × (a ≡ x)
    go None e = (refl, cc)
    go (Some i) e = cc

pub given_some : {A : Type 0} (ts : List Test) (a : A) {i : ℕ} → given ts a ≡ Err i → wrong ts ≡ Some i
given_some {A} ts a {i} e = go (wrong ts) (sym (given_is ts a) ∙ e)
  where
    go : (o : Option ℕ) → given_of o a ≡ Err i → o ≡ Some i
    go None e = cc
    go (Some j) e = cc
