-- What a block holds: its tests as the first field found wrong.
use mathlib.Core.Path.{◌≡◌, refl}
use mathlib.Core.List.{List, [], ◌∷◌}
use mathlib.Core.Bool.{Bool, true, false, cond}
use Prim.Native.Nat.{ℕ, zero, suc, ◌+◌, ◌-◌, ◌*◌}
use lib.ListN.{length}
use lib.Dec.{leb, eqb}
use Rattle.std.proofs.lemmas.Grind.{common_steps}
use Rattle.format.specs.declared.Fault.{Fault}
use Rattle.format.specs.declared.Fault.TheVariants.{Items as ITEMS, Block as BLOCK}
use Rattle.format.specs.Tests.{◌else◌at◌}
use Rattle.format.specs.Items.{item_tests}
use Rattle.format.specs.Steps.Wrong.{wrong}
use Rattle.blocks.proofs.StepLaws.{tail_part}

-- the first wrong place of a list does not depend on the fault
pub any_fault : (f g : Fault) (i k : ℕ) (l : List ℕ) → wrong (item_tests f i k l) ≡ wrong (item_tests g i k l)
unfolding item_tests
any_fault f g i zero [] = refl
any_fault f g i zero (a ∷ []) = refl
any_fault f g i zero (a ∷ b ∷ l) = go (eqb n 0) (any_fault f g (i + n) (n - 2) l)
  where
    n : ℕ
    n = a + 256 * b

    go : (t : Bool) → wrong (item_tests f (i + n) (n - 2) l) ≡ wrong (item_tests g (i + n) (n - 2) l)
        → wrong (cond t (eqb (length l) 0 else f at i ∷ []) (leb 2 n else f at i ∷ leb (n - 2) (length l) else f at i ∷ item_tests f (i + n) (n - 2) l))
        ≡ wrong (cond t (eqb (length l) 0 else g at i ∷ []) (leb 2 n else g at i ∷ leb (n - 2) (length l) else g at i ∷ item_tests g (i + n) (n - 2) l))
    go true e = refl
    go false e = rw e
any_fault f g i (suc k) [] = refl
any_fault f g i (suc k) (a ∷ l) = any_fault f g i k l

-- a block's items are asked for as a list's
pub as_items : (l : List ℕ) → wrong (item_tests ITEMS 8 0 l) ≡ wrong (item_tests BLOCK 8 0 l)
as_items l = any_fault ITEMS BLOCK 8 0 l

pub ruleset holding = (common_steps, tail_part, as_items)
