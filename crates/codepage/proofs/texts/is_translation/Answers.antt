-- A character that is passed has the unit of its byte.
use mathlib.Core.Path.{◌≡◌, sym, ap, ◌∙◌}
use mathlib.Core.Bool.{false, not}
use Prim.Native.Nat.{ℕ}
use lib.Dec.{eqb}
use borrow.Author.Count.{below_more}
use borrow.Author.Tests.{eqb-true, not-false}
use Rattle.std.specs.Prelude.{Option, Some, None}
use Rattle.std.specs.Option.{option_eq}
use Rattle.codepage.proofs.texts.is_translation.Goals as goal

same_unit : (o : Option ℕ) (v : ℕ) → not (option_eq eqb o (Some v)) ≡ false → o ≡ Some v
same_unit None v e = cc
same_unit (Some u) v e = ap Some (eqb-true u v (not-false (eqb u v) e))

pub loop-k-preserved : goal.loop-k-preserved
loop-k-preserved c =
    below_more _ _ c.loop-k.invariant (sym c.assigned.ensures ∙ same_unit _ _ (sym c.ne.ensures ∙ c.if-ne.false) ∙ ap Some c.u16_at.ensures)
