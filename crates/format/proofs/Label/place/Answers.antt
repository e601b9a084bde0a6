-- The place is that of the label itself, with either kind.
use mathlib.Core.Path.{◌≡◌, sym, ap}
use mathlib.Core.Logic.{◌⊎◌, inl, inr}
use Rattle.format.specs.declared.Label.{Label}
use Rattle.format.specs.declared.Label.TheVariants.{Byte, Unicode}
use Rattle.format.specs.declared.Place.{Place}
use Rattle.format.specs.Volume.{label_place}
use Rattle.format.proofs.Label.place.Goals as goal

place_is : {l : Label} {p : Place} → (l ≡ Byte p) ⊎ (l ≡ Unicode p) → p ≡ label_place l
place_is (inl e) = ap label_place (sym e)
place_is (inr e) = ap label_place (sym e)

pub returns-in-Byte : goal.returns-in-Byte
returns-in-Byte c = place_is c.in-Byte.is
