-- Keys of small shortcuts, by computation.
use mathlib.Core.Path.{◌≡◌, refl}
use mathlib.Core.List.{List, [], ◌∷◌, ◌++◌}
use Prim.Native.Nat.{ℕ, ◌-◌}
use lib.ListN.{length}
use Rattle.octets.specs.Numbers.{number, number_at, little}
use Rattle.octets.specs.Characters.{units, before_zero}
use Rattle.format.specs.declared.Profile.TheVariants.{Strict}
use Rattle.format.specs.declared.Fault.TheVariants.{Cut as CUT, Room as ROOM, Twice as TWICE}
use Rattle.format.specs.Tests.{got, refused, section, spot_at}
use Rattle.format.proofs.AnswerLaws.{nowhere}
use Rattle.format.specs.Header.{identifier_ok, signed}
use Rattle.format.specs.Items.{item_tests}
use Rattle.format.specs.Blocks.{slot_of, size_fits, inside_tests, blocks_from}
use Rattle.format.specs.Shortcut.{sections, shortcut}
use Rattle.format.specs.Key.{key_of, key_bytes, key}
use Rattle.format.specs.Probes.{zeros, with_section, Z, dash_g1}

-- a block A0000001 with this byte text
abbrev pub environment_block : List ℕ → List ℕ
environment_block text = little 4 788 ++ little 4 0xA0000001 ++ text ++ zeros (780 - length text)

-- Z; P9's arguments, and into a room one too small; arguments that are there and empty; an environment block, and two of them; a shortcut cut short
pub key_rows : key Strict Z 21
    ∷ key Strict (with_section 0xA0 dash_g1) 27
    ∷ key Strict (with_section 0xA0 dash_g1) 26
    ∷ key Strict (with_section 0x20 (zeros 2)) 21
    ∷ key Strict (with_section 0 (environment_block (0x61 ∷ []))) 22
    ∷ key Strict (with_section 0 (environment_block (0x61 ∷ []) ++ environment_block (0x62 ∷ []))) 22
    ∷ key Strict (with_section 0xA0 (0x03 ∷ 0x00 ∷ 0x2D ∷ [])) 100
    ∷ []
    ≡ got (zeros 21) 21
    ∷ got (1 ∷ zeros 5 ++ 1 ∷ 6 ∷ zeros 3 ++ 0x2D ∷ 0x00 ∷ 0x67 ∷ 0x00 ∷ 0x31 ∷ 0x00 ∷ zeros 10) 27
    ∷ refused ROOM nowhere
    ∷ got (zeros 6 ++ 1 ∷ zeros 14) 21
    ∷ got (zeros 16 ++ 1 ∷ 1 ∷ zeros 3 ++ 0x61 ∷ []) 22
    ∷ refused TWICE (spot_at (section 8 864) 4)
    ∷ refused CUT (spot_at (section 6 76) 0)
    ∷ []
unfolding number number_at little units before_zero identifier_ok signed item_tests slot_of size_fits inside_tests blocks_from sections shortcut key_of key_bytes key
key_rows = refl
