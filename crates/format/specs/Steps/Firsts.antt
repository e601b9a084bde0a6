-- Where each known signature first stands, as the walk over the blocks notes it.
use Rattle.std.specs.Prelude.{ℕ, ◌+◌, List, [], ◌∷◌, cond, eqb}
use Rattle.octets.specs.Numbers.{u32_at}
use Rattle.format.specs.Blocks.{SizeRule, signatures}

-- where this signature first stands, of blocks of these lengths from p on; 0 where it does not
abbrev pub first_field : List ℕ → ℕ → ℕ → List ℕ → ℕ
first_field s signature p [] = 0
first_field s signature p (n ∷ ns) = cond (eqb (u32_at s (p + 4)) signature) (p + 4) (first_field s signature (p + n) ns)

abbrev pub firsts_in : List (ℕ × SizeRule) → List ℕ → ℕ → List ℕ → List ℕ
firsts_in [] s p lengths = []
firsts_in (r ∷ rs) s p lengths = first_field s r.0 p lengths ∷ firsts_in rs s p lengths

-- where each signature of the table first stands, by its slot
unfoldable pub firsts : List ℕ → ℕ → List ℕ → List ℕ
firsts s p lengths = firsts_in signatures s p lengths
