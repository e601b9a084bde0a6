-- What a choice by a test says of the test, once one of its two values is ruled out.
use mathlib.Core.Path.{◌≡◌, refl}
use mathlib.Core.Bool.{Bool, true, false, cond}

module _ {A : Type 0} {t x y : A} where
  pub cond_first : (b : Bool) → t ≡ cond b x y → (t ≡ y → ⊥) → (b ≡ true) × (t ≡ x)
  cond_first true e h = (refl, e)
  cond_first false e h = absurd (h e)

  pub cond_second : (b : Bool) → t ≡ cond b x y → (t ≡ x → ⊥) → (b ≡ false) × (t ≡ y)
  cond_second true e h = absurd (h e)
  cond_second false e h = (refl, e)
