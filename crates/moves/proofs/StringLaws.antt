-- A string that was translated as it was put, in the words of the definitions.
use mathlib.Core.Path.{◌≡◌, refl, ap, ◌∙◌}
use mathlib.Core.List.{List}
use mathlib.Core.Bool.{Bool, true, false, not}
use Prim.Native.Nat.{ℕ, ◌+◌, ◌/◌}
use native.Mathlib.Omega.{arith}
use lib.ListN.{length, length-map}
use Rattle.octets.specs.Numbers.{little}
use Rattle.octets.specs.Characters.{characters}
use Rattle.copies.specs.declared.output.Output.{Output}
use Rattle.copies.specs.Steps.Writes.{Writes}
use Rattle.copies.proofs.OutputLaws.{join, reword}
use Rattle.format.specs.declared.Place.{Place}
use Rattle.format.specs.Writing.{bytes_of_string}
use Rattle.format.specs.Codepage.{unit_of, to_bytes}
use Rattle.format.proofs.CodepageLaws.{units_are, bytes_long}
use Rattle.codepage.proofs.TextLaws.{units_count}
use Rattle.canonical.specs.Steps.Puts.{characters_in}
use Rattle.moves.specs.Steps.Moves.{translate, translated_size, moved_place}

-- the length at the moved place
pub moved_size : (u : Bool) (b : Place) → (moved_place u b).len ≡ translated_size u b.len
moved_size true b = refl
moved_size false b = refl

as_bytes_long : (x : List ℕ) → length (to_bytes x) ≡ length x / 2
as_bytes_long x = bytes_long x ∙ units_count x

-- the count stays
count_stays : (u : Bool) (x : List ℕ) → length (characters u (translate u x)) ≡ characters_in (not u) (length x)
count_stays true x = ap length (units_are x) ∙ length-map x unit_of
count_stays false x = as_bytes_long x

pub put_counted : (u : Bool) (x : List ℕ) {n : ℕ} → n ≡ characters_in (not u) (length x) → {o p q : Output} {k : ℕ}
    → Writes o p (little 2 n) 2 → Writes p q (translate u x) k → Writes o q (bytes_of_string u (translate u x)) (k + 2)
unfolding bytes_of_string
put_counted u x {n} e v w = reword (join v w) (rw (count_stays u x, e)) (omega arith)
