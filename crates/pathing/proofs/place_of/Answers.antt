-- What is no block of that signature is passed over.
use mathlib.Core.Path.{◌∙◌}
use native.Mathlib.Omega.{arith}
use Rattle.std.proofs.lemmas.List.{length-take, length-drop}
use Rattle.pathing.proofs.WalkLaws.{goes_on}
use Rattle.pathing.proofs.place_of.Goals as goal

pub loop-rest-preserved : goal.loop-rest-preserved
loop-rest-preserved c = record {
  inside = simp (length-take, length-drop) (omega arith);
  going = goes_on _ _ _ c.loop-rest.invariant.going c.loop-rest-test.true (λ e. c.if-u32_at-signature.false (c.u32_at.ensures ∙ e)) _ c.u32_at-size.ensures c.if-rest-size.false;
}
