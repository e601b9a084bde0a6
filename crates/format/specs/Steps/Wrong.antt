-- The field of the first test that fails; and the fault of what a block holds.
use Rattle.std.specs.Prelude.{ℕ, List, [], ◌∷◌, cond, eqb, Option, Some, None, Result, Ok, Err}
use Rattle.std.specs.Option.{option_or}
use Rattle.format.specs.declared.Fault.{Fault}
use Rattle.format.specs.declared.Fault.TheVariants.{Block as BLOCK, Store as STORE}
use Rattle.format.specs.Tests.{Test}
use Rattle.format.specs.Blocks.{slot_of}

-- None: all hold
abbrev pub wrong : List Test → Option ℕ
wrong [] = None
wrong (t ∷ ts) = cond t.holds (wrong ts) (Some t.field)

-- the same as a step that goes on with a where all hold
abbrev pub given : {A : Type 0} → List Test → A → Result A ℕ
given [] a = Ok a
given (t ∷ ts) a = cond t.holds (given ts a) (Err t.field)

-- of two fields found wrong the first
abbrev pub first : Option ℕ → Option ℕ → Option ℕ
first a b = option_or a b

-- of the block with this slot
unfoldable pub held_fault : ℕ → Fault
unfolding slot_of
held_fault slot = cond (eqb slot (slot_of 0xA0000009)) STORE BLOCK
