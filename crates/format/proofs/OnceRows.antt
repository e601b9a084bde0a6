-- Small shortcuts with two blocks, by computation.
use mathlib.Core.Path.{◌≡◌, refl}
use mathlib.Core.List.{List, [], ◌∷◌, ◌++◌}
use mathlib.Core.Bool.{true}
use Prim.Native.Nat.{ℕ}
use lib.ListN.{length, replicate, set}
use Rattle.octets.specs.Numbers.{number, number_at, little}
use Rattle.octets.specs.Characters.{units, before_zero}
use Rattle.octets.specs.Parts.{put}
use Rattle.format.specs.declared.Profile.TheVariants.{Strict}
use Rattle.format.specs.Numbers.{number_of, answer_number, answer_value}
use Rattle.format.specs.Tests.{place, no_place}
use Rattle.format.specs.declared.Record.{Record}
use Rattle.format.specs.Header.{identifier_ok, signed}
use Rattle.format.specs.Items.{item_tests}
use Rattle.format.specs.Blocks.{slot_of, size_fits, inside_tests, blocks_from}
use Rattle.format.specs.Shortcut.{sections, shortcut, reading, no_header, no_link}
use Rattle.format.specs.Bodies.{blocks_slot, placed}
use Rattle.format.specs.Contents.{present, contents}
use Rattle.format.specs.Writing.{bits, header_bytes, items_bytes, volume_bytes, network_bytes, info_bytes, bytes_of_string, canonical, writable, writing, output_of, write_answer, write_output}
use Rattle.format.specs.Listing.{listing}
use Rattle.format.specs.Probes.{Probe, reads, writes, holds, all_hold, with_section, lent}

-- a block of this size and signature; after its eight bytes come these
abbrev block_of : ℕ → ℕ → List ℕ → List ℕ
block_of size signature held = little 4 size ++ little 4 signature ++ held

-- A0000004, A0000005 and one that is not known
abbrev console : List ℕ
console = block_of 12 0xA0000004 (little 4 0)

abbrev folder : List ℕ
folder = block_of 16 0xA0000005 (little 8 0)

abbrev foreign : List ℕ
foreign = block_of 8 0xA000000A []

-- A000000C without items, and with one whose size is 1
abbrev list : List ℕ
list = block_of 10 0xA000000C (little 2 0)

abbrev wrong_list : List ℕ
wrong_list = block_of 10 0xA000000C (little 2 1)

-- a record whose blocks are all of the body buffer
abbrev with_blocks : List ℕ → Record
with_blocks x = record { header = no_header; link = no_link; places = set (replicate 17 no_place) blocks_slot (place 0 (length x)) }

abbrev unwritable : List ℕ → Probe
unwritable x = writes (with_blocks x) x (lent 200) 11 0 (lent 200)

unfoldable pub rows : List Probe
unfolding little
rows =
    -- two of one known signature, side by side and with others between them: the later one's signature field
    reads (with_section 0 (console ++ console)) 14 92
    ∷ reads (with_section 0 (console ++ foreign ++ folder ++ console)) 14 116
    -- two known ones that differ, and unknown ones
    ∷ reads (with_section 0 (console ++ folder)) 0 108
    ∷ reads (with_section 0 (foreign ++ foreign ++ foreign)) 0 104
    -- the later block's own tests come first: its size and what it holds; and so do those of the blocks between
    ∷ reads (with_section 0 (console ++ block_of 13 0xA0000004 (little 5 0))) 8 88
    ∷ reads (with_section 0 (list ++ wrong_list)) 8 94
    ∷ reads (with_section 0 (console ++ wrong_list ++ console)) 8 96
    -- a pair before anything else that is wrong
    ∷ reads (with_section 0 (console ++ console ++ wrong_list)) 14 92
    -- and no record with a pair is written
    ∷ unwritable (console ++ console)
    ∷ writes (with_blocks (foreign ++ foreign)) (foreign ++ foreign) (lent 96) 0 96 (with_section 0 (foreign ++ foreign))
    ∷ []

pub rows_hold : all_hold Strict rows ≡ true
unfolding all_hold holds number number_at little units before_zero put number_of answer_number answer_value identifier_ok signed item_tests slot_of size_fits inside_tests blocks_from sections shortcut reading present placed contents bits header_bytes items_bytes volume_bytes network_bytes info_bytes bytes_of_string canonical writable writing output_of write_answer write_output listing rows
rows_hold = refl
