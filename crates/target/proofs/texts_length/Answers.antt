-- The separator counts as one byte where it is there.
use mathlib.Core.Path.{◌≡◌, refl}
use mathlib.Core.Bool.{Bool, true, false}
use native.Mathlib.Omega.{arith}
use mir.Val.{bool_byte}
use Rattle.format.specs.Tests.{one_or_0}
use Rattle.target.proofs.texts_length.Goals as goal

one_byte : (b : Bool) → bool_byte b ≡ one_or_0 b
one_byte true = refl
one_byte false = refl

pub returns : goal.returns
returns c = omega (arith, one_byte c.args.t.separated)
