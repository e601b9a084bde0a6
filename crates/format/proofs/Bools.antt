-- Case tools for tests: from a conjunction or a disjunction of tests to its parts and back.
use mathlib.Core.Path.{◌≡◌, refl, sym}
use mathlib.Core.List.{List, [], ◌∷◌}
use mathlib.Core.Bool.{Bool, true, false, ◌&&◌, ◌||◌, cond}
use Prim.Native.Nat.{ℕ, zero, suc, ◌≤◌, ◌<◌}
use native.Mathlib.Omega.{arith}
use lib.ListN.{get_or}
use lib.Dec.{leb}
use borrow.Author.Tests.{leb-true, leb-false}
pub use Rattle.octets.proofs.AndLaws.{and-true, and_assoc, and_yes, and_no}
use Rattle.format.specs.Writing.{every}

pub and_both : (a b : Bool) → a ≡ true → b ≡ true → (a && b) ≡ true
and_both a b e f = rw (e, f)

pub or-true {ℓ} : {X : Type ℓ} (a b : Bool) → (a || b) ≡ true → (a ≡ true → X) → (b ≡ true → X) → X
or-true true b e f g = f refl
or-true false b e f g = g e

pub or_left : (a b : Bool) → a ≡ true → (a || b) ≡ true
or_left a b e = rw e

pub or_right : (a b : Bool) → b ≡ true → (a || b) ≡ true
or_right true b e = refl
or_right false b e = e

-- two tests that hold together are the same
pub same_truth : (x y : Bool) → (x ≡ true → y ≡ true) → (y ≡ true → x ≡ true) → x ≡ y
same_truth true y f g = sym (f refl)
same_truth false true f g = g refl
same_truth false false f g = refl

-- one order or the other
pub by_order {ℓ} : {X : Type ℓ} (a b : ℕ) → (a ≤ b → X) → (b < a → X) → X
by_order {X = X} a b f g = go (leb a b) refl
  where
    go : (t : Bool) → leb a b ≡ t → X
    go true e = f (leb-true a b e)
    go false e = g (leb-false a b e)

-- true and false are not the same
pub clash {ℓ} : {X : Type ℓ} {b : Bool} → b ≡ true → b ≡ false → X
clash e f = absurd (let z : ◌≡◌ {A = ℕ} 0 1 = cc in omega arith)

pub choose_twice : {A : Type 0} (b : Bool) (x d : A) → cond b (cond b x d) d ≡ cond b x d
choose_twice true x d = refl
choose_twice false x d = refl

-- ---- many tests at once

abbrev pub Every : List Bool → Type 0
Every [] = Unit {0}
Every (b ∷ bs) = (b ≡ true) × Every bs

pub every_out : (bs : List Bool) → every bs ≡ true → Every bs
every_out [] e = tt
every_out (b ∷ bs) e = let i = and-true b (every bs) e in (i.0, every_out bs i.1)

pub every_in : (bs : List Bool) → Every bs → every bs ≡ true
every_in [] h = refl
every_in (b ∷ bs) h = and_both b (every bs) h.0 (every_in bs h.1)

pub every_at : (bs : List Bool) → every bs ≡ true → (k : ℕ) → get_or bs k true ≡ true
every_at [] e k = refl
every_at (b ∷ bs) e zero = (and-true b (every bs) e).0
every_at (b ∷ bs) e (suc k) = every_at bs (and-true b (every bs) e).1 k

-- tests as the code joins them, one after another
abbrev pub joined : Bool → List Bool → Bool
joined b [] = b
joined b (x ∷ xs) = joined (b && x) xs

pub joined-every : (b : Bool) (xs : List Bool) → joined b xs ≡ every (b ∷ xs)
joined-every true [] = refl
joined-every false [] = refl
joined-every true (x ∷ xs) = joined-every x xs
joined-every false (x ∷ xs) = joined-every false xs
