-- The position is that of the field, counted from the first byte of the shortcut.
use mathlib.Core.Path.{refl}
use Rattle.format.proofs.Refusal.at.Goals as goal

pub returns : goal.returns
returns c = refl
