-- Small damaged shortcuts salvaged, by computation.
use mathlib.Core.Path.{◌≡◌, refl}
use mathlib.Core.List.{List, [], ◌∷◌, ◌++◌}
use mathlib.Core.Bool.{Bool, true, ◌&&◌}
use Prim.Native.Nat.{ℕ, ◌+◌}
use lib.ListN.{length, take}
use lib.Dec.{eqb}
use Rattle.octets.specs.Numbers.{number, number_at, little, same_numbers}
use Rattle.octets.specs.Characters.{units, before_zero}
use Rattle.octets.specs.Parts.{put}
use Rattle.format.specs.declared.Refused.{Refused}
use Rattle.format.specs.declared.Salvaged.{Salvaged}
use Rattle.std.specs.Prelude.{Result, Ok, Err}
use Rattle.format.specs.Numbers.{number_of, answer_number, answer_value}
use Rattle.format.specs.Header.{identifier_ok, signed}
use Rattle.format.specs.Items.{item_tests}
use Rattle.format.specs.Store.{part_tests, is_named, store_tests}
use Rattle.format.specs.Blocks.{slot_of, size_fits, inside_tests, blocks_from}
use Rattle.format.specs.Shortcut.{sections, shortcut, faulted}
use Rattle.format.specs.Writing.{output_of}
use Rattle.format.specs.Salvage.{refused_by, rescue_of, rescue, salvaging, salvage_answer, salvage_output}
use Rattle.format.proofs.KeyRows.{environment_block}
use Rattle.format.specs.Probes.{answers, header_of, with_section, Z, dash_g1, lent, zeros}

-- a file and a room; number and value of the answer, the number that the file was refused with, its bytes kept and dropped, all three 0 beside a refusal, and the buffer afterwards
pub record SalvageRow : Type 0 where
  pub file : List ℕ
  pub room : ℕ
  pub number : ℕ
  pub value : ℕ
  pub was : ℕ
  pub kept : ℕ
  pub dropped : ℕ
  pub after : List ℕ

abbrev reports : Result Salvaged Refused → SalvageRow → Bool
reports (Ok a) x = answers (Ok a.len) x.number x.value && eqb a.number x.was && eqb a.kept x.kept && eqb a.dropped x.dropped
reports (Err r) x = answers (Err r) x.number x.value && eqb 0 x.was && eqb 0 x.kept && eqb 0 x.dropped

abbrev row_holds : SalvageRow → Bool
row_holds x = reports (salvage_answer x.file (lent x.room)) x && same_numbers (salvage_output x.file (lent x.room)) x.after

abbrev rows_hold : List SalvageRow → Bool
rows_hold [] = true
rows_hold (x ∷ xs) = row_holds x && rows_hold xs

-- ---- kinds of rows

-- the room is a byte more than what is written
abbrev saved : List ℕ → ℕ → ℕ → ℕ → List ℕ → SalvageRow
saved file was kept dropped after = record {
  file = file;
  room = length after + 1;
  number = 0;
  value = length after;
  was = was;
  kept = kept;
  dropped = dropped;
  after = after ++ lent 1;
}

abbrev refused_with : ℕ → ℕ → List ℕ → SalvageRow
refused_with number room file = record { file = file; room = room; number = number; value = 0; was = 0; kept = 0; dropped = 0; after = lent room }

abbrev lost : List ℕ → SalvageRow
lost = refused_with 19 90

-- ---- blocks

abbrev foreign : List ℕ
foreign = little 4 8 ++ little 4 0xA000000A

abbrev console : List ℕ
console = little 4 12 ++ (little 4 0xA0000004 ++ little 4 0)

-- a store that lacks its last zero size
abbrev store : List ℕ
store = little 4 12 ++ (little 4 0xA0000009 ++ little 4 5)

unfoldable pub rows : List SalvageRow
unfolding little
rows =
    -- accepted: copied, the terminal's value too; a room of its length does, one byte less is ROOM
    saved Z 0 80 0 Z
    ∷ saved (header_of 0 0 ++ little 4 3) 0 80 0 (header_of 0 0 ++ little 4 3)
    ∷ record { file = Z; room = 80; number = 0; value = 80; was = 0; kept = 80; dropped = 0; after = Z }
    ∷ refused_with 12 79 Z
    -- TRAIL: up to the end of the terminal block, whatever its value
    ∷ saved (Z ++ zeros 5) 9 80 5 Z
    ∷ saved (header_of 0 0 ++ little 4 3 ++ zeros 1) 9 80 1 (header_of 0 0 ++ little 4 3)
    ∷ refused_with 12 79 (Z ++ zeros 1)
    -- CUT at the missing terminal, with none and with three of its bytes; and inside a block
    ∷ saved (header_of 0 0) 2 76 0 Z
    ∷ saved (header_of 0 0 ++ 1 ∷ 1 ∷ 1 ∷ []) 2 76 3 Z
    ∷ saved (header_of 0 0 ++ console) 2 88 0 (with_section 0 console)
    ∷ saved (header_of 0 0 ++ foreign ++ take 11 console) 2 84 11 (with_section 0 foreign)
    ∷ refused_with 12 79 (header_of 0 0)
    -- BLOCK by its size alone and by its signature's rule, STORE, TWICE: the block and all that follows it go
    ∷ saved (header_of 0 0 ++ little 4 4) 8 76 4 Z
    ∷ saved (with_section 0 (foreign ++ little 4 8 ++ little 4 0xA0000004 ++ foreign)) 8 84 20 (with_section 0 foreign)
    ∷ saved (with_section 0 (foreign ++ store)) 15 84 16 (with_section 0 foreign)
    ∷ saved (with_section 0 (console ++ foreign ++ console ++ foreign)) 14 96 24 (with_section 0 (console ++ foreign))
    -- the sections before the blocks stay
    ∷ saved (header_of 0xA0 0 ++ dash_g1) 2 84 0 (with_section 0xA0 dash_g1)
    -- P9's arguments without bit 7: what follows three bytes of text is taken for a block
    ∷ saved (with_section 0x20 dash_g1) 2 81 7 (with_section 0x20 (take 5 dash_g1))
    -- cut inside its environment block: the environment is gone
    ∷ saved (take 400 (with_section 0 (environment_block (0x61 ∷ [])))) 2 76 324 Z
    -- all other refusals: nothing, a cut header, another header, an item list, the CUT of one, of LinkInfo and of a string
    ∷ lost []
    ∷ lost (take 75 (header_of 0 0))
    ∷ lost (zeros 80)
    ∷ lost (with_section 0x08000000 [])
    ∷ lost (with_section 1 (0x03 ∷ 0x00 ∷ 0x01 ∷ 0x00 ∷ 0x00 ∷ []))
    ∷ lost (header_of 1 0)
    ∷ lost (header_of 2 0 ++ little 4 0x1C)
    ∷ lost (header_of 0x20 0 ++ 0x05 ∷ [])
    -- before ROOM
    ∷ refused_with 19 0 []
    ∷ []

pub rows_hold_lem : rows_hold rows ≡ true
unfolding number number_at little units before_zero put number_of answer_number answer_value identifier_ok signed item_tests part_tests is_named store_tests slot_of size_fits inside_tests blocks_from sections shortcut faulted output_of refused_by rescue_of rescue salvaging salvage_answer salvage_output rows
rows_hold_lem = refl
