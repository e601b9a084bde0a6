-- FORMAT: Item list.
use Rattle.std.specs.Prelude.{ℕ, zero, suc, ◌+◌, ◌-◌, ◌*◌, List, [], ◌∷◌, Bool, false, cond, length, take, drop, leb, eqb}
use Rattle.octets.specs.Numbers.{u16_at}
use Rattle.format.specs.declared.Place.{Place}
use Rattle.format.specs.declared.Fault.{Fault}
use Rattle.format.specs.declared.Fault.TheVariants.{Cut as CUT, Items as ITEMS}
use Rattle.format.specs.Tests.{Test, ◌else◌at◌, all, section, tests, got, Reader, place}

-- item after item by their sizes, each of two bytes and counted in, up to the two zero bytes that end the list and are its last.
-- A size stands at i, or k bytes of the item before it are still to come; f is the fault of what holds the list
unfoldable pub item_tests : Fault → ℕ → ℕ → List ℕ → List Test
item_tests f i zero [] = false else f at i ∷ []
item_tests f i zero (a ∷ []) = false else f at i ∷ []
item_tests f i zero (a ∷ b ∷ l) =
    let n = a + 256 * b in
    let rest = item_tests f (i + n) (n - 2) l in
    cond (eqb n 0) (eqb (length l) 0 else f at i ∷ []) (leb 2 n else f at i ∷ leb (n - 2) (length l) else f at i ∷ rest)
-- never met: an item's size was tested against what is left
item_tests f i (suc k) [] = false else f at i ∷ []
item_tests f i (suc k) (a ∷ l) = item_tests f i k l

-- an item list without its size field
abbrev pub item_list : List ℕ → Bool
item_list l = all (item_tests ITEMS 0 0 l)

-- the size field, and as many bytes as it says
abbrev pub items_length : List ℕ → ℕ
items_length s = 2 + u16_at s 0

abbrev pub items_rules : List ℕ → List Test
items_rules l = item_tests ITEMS 2 0 (drop 2 l)

-- the two zero bytes at the end are no part of the body
abbrev pub items : Reader Place
items p s =
    tests (section 1 p) (leb 2 (length s) else CUT at 0 ∷ leb (items_length s) (length s) else CUT at 0 ∷ items_rules (take (items_length s) s))
    (got (place (p + 2) (items_length s - 4)) (items_length s))
