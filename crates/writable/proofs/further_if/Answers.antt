-- Absent bytes are writable; of bytes that are there the length decides, where the head is short.
use mathlib.Core.Path.{◌≡◌, refl, sym, ap}
use mathlib.Core.List.{List}
use mathlib.Core.Bool.{Bool, true, false, not, ◌||◌}
use Prim.Native.Nat.{ℕ}
use lib.Dec.{eqb}
use Rattle.format.specs.declared.Place.{Place}
use Rattle.format.specs.Contents.{bytes_at}
use Rattle.format.specs.Writing.{writable_if, writable_further}
use Rattle.format.proofs.BodyLaws.{body_length}
use Rattle.canonical.specs.Steps.Puts.{InBuffer}
use Rattle.writable.proofs.further_if.Goals as goal

further-is : (there long : Bool) (d : List ℕ) (b : Place) → (there ≡ true → InBuffer d b) → (not there || long || eqb b.len 0) ≡ writable_if there (writable_further long) (bytes_at d b)
further-is true long d b inside = ap (λ (n : ℕ). long || eqb n 0) (sym (body_length d b (inside refl).within))
further-is false long d b inside = refl

pub returns : goal.returns
returns c = further-is c.args.there c.args.long c.args.d.now c.args.b c.requires
