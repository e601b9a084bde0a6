-- The moved record: LinkInfo's head, and the row from its slots.
use mathlib.Core.Path.{◌≡◌, refl, sym, ◌∙◌}
use mathlib.Core.List.{List}
use mathlib.Core.Bool.{Bool, true, false, ◌&&◌, ◌||◌}
use Prim.Native.Nat.{ℕ, ◌≤◌, ◌<◌}
use native.Mathlib.Omega.{arith}
use lib.ListN.{length}
use Rattle.format.specs.declared.Place.{Place}
use Rattle.format.specs.declared.Record.{Record}
use Rattle.format.specs.Tests.{no_place}
use Rattle.format.specs.Bodies.{local_slot, suffix_slot, local_unicode_slot, suffix_unicode_slot}
use Rattle.format.proofs.RowLaws.{slots_are}
use Rattle.moves.specs.Steps.Moves.{moved_place, gained, unicode_place, moved_long, in_row, moved_places}

pub long_is : (u : Bool) (r : Record) → (u && (gained r || r.link.long)) ≡ moved_long u r
long_is true r = refl
long_is false r = refl

module _ (u gain : Bool) (ps m : List Place) (l : length m ≡ 17) where
  pub places_are : ((j : ℕ) → j < 8 → in_row m j ≡ in_row ps j)
      → in_row m 8 ≡ unicode_place u gain (in_row ps local_slot) (in_row ps local_unicode_slot)
      → in_row m 9 ≡ unicode_place u gain (in_row ps suffix_slot) (in_row ps suffix_unicode_slot)
      → ((j : ℕ) → 10 ≤ j → j < 15 → in_row m j ≡ moved_place u (in_row ps j))
      → ((j : ℕ) → 15 ≤ j → in_row m j ≡ in_row ps j)
      → m ≡ moved_places u gain ps
  unfolding moved_places
  places_are b x y d a =
      sym (slots_are no_place 17 0 m l)
      ∙ rw (
        b 0 (omega arith),
        b 1 (omega arith),
        b 2 (omega arith),
        b 3 (omega arith),
        b 4 (omega arith),
        b 5 (omega arith),
        b 6 (omega arith),
        b 7 (omega arith),
        x,
        y,
        d 10 (omega arith) (omega arith),
        d 11 (omega arith) (omega arith),
        d 12 (omega arith) (omega arith),
        d 13 (omega arith) (omega arith),
        d 14 (omega arith) (omega arith),
        a 15 (omega arith),
        a 16 (omega arith),
      )
