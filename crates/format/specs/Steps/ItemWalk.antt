-- The walk over items as one truth value: what the tests of a list come to.
use Rattle.std.specs.Prelude.{ℕ, zero, suc, ◌+◌, ◌-◌, ◌*◌, List, [], ◌∷◌, Bool, false, ◌&&◌, cond, length, leb, eqb}

-- k bytes of the item at hand are still to come; at 0 a size stands next
unfoldable pub walk : ℕ → List ℕ → Bool
walk zero [] = false
walk zero (a ∷ []) = false
walk zero (a ∷ b ∷ l) =
    let n = a + 256 * b in
    let rest = walk (n - 2) l in
    cond (eqb n 0) (eqb (length l) 0) (leb 2 n && rest)
walk (suc k) [] = false
walk (suc k) (a ∷ l) = walk k l
