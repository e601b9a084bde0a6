-- Small files that are refused at the very end of the section at fault, one for each way of doing so, by computation.
use mathlib.Core.Path.{◌≡◌, refl}
use mathlib.Core.List.{List, [], ◌∷◌, ◌++◌}
use Prim.Native.Nat.{ℕ, ◌+◌, ◌-◌}
use Rattle.octets.specs.Numbers.{number, number_at, little}
use Rattle.octets.specs.Characters.{units, before_zero}
use Rattle.format.specs.declared.Profile.TheVariants.{Strict}
use Rattle.format.specs.declared.Fault.TheVariants.{Cut as CUT, Items as ITEMS, Piece as PIECE, Block as BLOCK, Trail as TRAIL}
use Rattle.format.specs.Tests.{refused, section, spot_at}
use Rattle.format.specs.Header.{identifier_ok, signed}
use Rattle.format.specs.Items.{item_tests}
use Rattle.format.specs.Blocks.{slot_of, size_fits, inside_tests, blocks_from}
use Rattle.format.specs.Shortcut.{sections, shortcut}
use Rattle.format.specs.Positions.{section_end}
use Rattle.format.specs.Probes.{zeros, header_of, Z}

-- an item list without items and without its end
abbrev no_items : List ℕ
no_items = header_of 1 0 ++ little 2 0

-- a block A000000C of one empty item
abbrev one_item : List ℕ
one_item = header_of 0 0 ++ little 4 10 ++ little 4 0xA000000C ++ little 2 2

-- a LinkInfo that ends with its network link, of n bytes, whose NetNameOffset is 0x15
abbrev short_link : ℕ → List ℕ
short_link n =
    header_of 2 0
    ++ (little 4 (0x1C + n) ++ little 4 0x1C ++ little 4 2 ++ zeros 8 ++ little 4 0x1C ++ zeros 4)
    ++ (little 4 n ++ zeros 4 ++ little 4 0x15 ++ zeros (n - 12))

-- a byte after the terminal; no terminal; the three above, the last without either and without the second of its Unicode offset fields
pub refused_at_ends : shortcut Strict (Z ++ zeros 1) ∷ shortcut Strict (header_of 0 0) ∷ shortcut Strict no_items ∷ shortcut Strict one_item ∷ shortcut Strict (short_link 0x14) ∷ shortcut Strict (short_link 0x18) ∷ []
    ≡ refused TRAIL (spot_at (section 9 76) 4)
    ∷ refused CUT (spot_at (section 9 76) 0)
    ∷ refused ITEMS (spot_at (section 1 76) 2)
    ∷ refused BLOCK (spot_at (section 8 76) 10)
    ∷ refused PIECE (spot_at (section 2 76) 0x30)
    ∷ refused PIECE (spot_at (section 2 76) 0x34)
    ∷ []
unfolding number number_at little units before_zero identifier_ok signed item_tests slot_of size_fits inside_tests blocks_from sections shortcut
refused_at_ends = refl

pub those_ends : section_end (Z ++ zeros 1) 9 76
    ∷ section_end (header_of 0 0) 9 76
    ∷ section_end no_items 1 76
    ∷ section_end one_item 8 76
    ∷ section_end (short_link 0x14) 2 76
    ∷ section_end (short_link 0x18) 2 76
    ∷ []
    ≡ 80 ∷ 76 ∷ 78 ∷ 86 ∷ 124 ∷ 128 ∷ []
unfolding number number_at little
those_ends = refl
