-- Path blocks put into small records, by computation.
use mathlib.Core.Path.{◌≡◌, refl}
use mathlib.Core.List.{List, [], ◌∷◌, ◌++◌}
use mathlib.Core.Bool.{Bool, true, ◌&&◌}
use Prim.Native.Nat.{ℕ, ◌+◌}
use lib.ListN.{length, replicate, set}
use Rattle.octets.specs.Numbers.{number, number_at, little, same_numbers}
use Rattle.octets.specs.Characters.{units, before_zero}
use Rattle.octets.specs.Parts.{put}
use Rattle.format.specs.Numbers.{number_of, answer_number, answer_value}
use Rattle.format.specs.Tests.{place, no_place}
use Rattle.format.specs.declared.Profile.TheVariants.{Strict}
use Rattle.format.specs.declared.Record.{Record}
use Rattle.format.specs.Items.{item_tests}
use Rattle.format.specs.Store.{part_tests, is_named, store_tests}
use Rattle.format.specs.Blocks.{slot_of, size_fits, inside_tests, blocks_from}
use Rattle.format.specs.Shortcut.{no_header, no_link}
use Rattle.format.specs.Bodies.{blocks_slot, placed}
use Rattle.format.specs.Contents.{present, contents}
use Rattle.format.specs.Writing.{bits, header_bytes, items_bytes, volume_bytes, network_bytes, info_bytes, bytes_of_string, canonical, writable, output_of}
use Rattle.format.specs.PathWriting.{path_block, blocks_in, with_block, with_path, path_writing, path_answer, path_output}
use Rattle.format.specs.Probes.{answers, with_section, lent, zeros}

-- a record whose blocks are all of the body buffer, and a call over it: signature, texts, room, then number and value of the answer, and the blocks of what is written
pub record PathRow : Type 0 where
  pub body : List ℕ
  pub signature : ℕ
  pub text : List ℕ
  pub unicode : List ℕ
  pub room : ℕ
  pub number : ℕ
  pub value : ℕ
  pub after : List ℕ

abbrev path_row : List ℕ → ℕ → List ℕ → List ℕ → ℕ → ℕ → ℕ → List ℕ → PathRow
path_row body signature text unicode room number value after = record {
  body = body;
  signature = signature;
  text = text;
  unicode = unicode;
  room = room;
  number = number;
  value = value;
  after = after;
}

abbrev with_blocks : List ℕ → Record
with_blocks x = record { header = no_header; link = no_link; places = set (replicate 17 no_place) blocks_slot (place 0 (length x)) }

-- the body buffer lacks the last byte of the blocks
abbrev misplaced : PathRow → Bool
misplaced x = answers (path_answer Strict (with_blocks (0 ∷ x.body)) x.body x.signature x.text x.unicode (lent x.room)) 10 0

abbrev row_holds : PathRow → Bool
row_holds x =
    answers (path_answer Strict (with_blocks x.body) x.body x.signature x.text x.unicode (lent x.room)) x.number x.value
    && same_numbers (path_output Strict (with_blocks x.body) x.body x.signature x.text x.unicode (lent x.room)) x.after
    && misplaced x

abbrev rows_hold : List PathRow → Bool
rows_hold [] = true
rows_hold (x ∷ xs) = row_holds x && rows_hold xs

-- ---- blocks, written out

-- a block of a path from its two texts with what follows them
abbrev path_of : ℕ → List ℕ → List ℕ → List ℕ
path_of signature bytes wide = little 4 0x314 ++ (little 4 signature ++ (bytes ++ wide))

-- %C% in bytes and in Unicode, alone and with zeros after them
abbrev c : List ℕ
c = 0x25 ∷ 0x43 ∷ 0x25 ∷ []

abbrev c_wide : List ℕ
c_wide = 0x25 ∷ 0 ∷ 0x43 ∷ 0 ∷ 0x25 ∷ 0 ∷ []

abbrev new : ℕ → List ℕ
new signature = path_of signature (c ++ zeros 257) (c_wide ++ zeros 514)

-- one with leftovers behind its texts, and one without a zero
abbrev old : ℕ → List ℕ
old signature = path_of signature (0x41 ∷ 0 ∷ replicate 258 0x42) (0x41 ∷ 0 ∷ 0 ∷ 0 ∷ replicate 516 0x43)

abbrev endless : ℕ → List ℕ
endless signature = path_of signature (replicate 260 0x42) (zeros 520)

abbrev console : List ℕ
console = little 4 12 ++ (little 4 0xA0000004 ++ little 4 0)

abbrev foreign : List ℕ
foreign = little 4 8 ++ little 4 0xA000000A

-- refused with 11, whatever the room
abbrev unwritable : List ℕ → ℕ → List ℕ → List ℕ → PathRow
unwritable body signature text unicode = path_row body signature text unicode 9 11 0 (lent 9)

abbrev done : List ℕ → List ℕ → ℕ → PathRow
done body after signature = path_row body signature c c_wide (80 + length after) 0 (80 + length after) (with_section 0 after)

unfoldable pub rows : List PathRow
unfolding little
rows =
    -- none there: it goes to the end, of each signature
    done [] (new 0xA0000001) 0xA0000001
    ∷ done (console ++ foreign) (console ++ foreign ++ new 0xA0000006) 0xA0000006
    ∷ done (old 0xA0000001) (old 0xA0000001 ++ new 0xA0000007) 0xA0000007
    -- one is there: first, in the middle, last; leftovers go
    ∷ done (old 0xA0000001 ++ console) (new 0xA0000001 ++ console) 0xA0000001
    ∷ done (foreign ++ old 0xA0000006 ++ foreign) (foreign ++ new 0xA0000006 ++ foreign) 0xA0000006
    ∷ done (console ++ old 0xA0000007) (console ++ new 0xA0000007) 0xA0000007
    -- a byte of room less, and one more, which stays
    ∷ path_row [] 0xA0000001 c c_wide 867 12 0 (lent 867)
    ∷ path_row [] 0xA0000001 c c_wide 869 0 868 (with_section 0 (new 0xA0000001) ++ lent 1)
    -- empty texts, the longest, and one character more
    ∷ path_row [] 0xA0000001 [] [] 868 0 868 (with_section 0 (path_of 0xA0000001 (zeros 260) (zeros 520)))
    ∷ path_row [] 0xA0000001 (replicate 259 0x42) (replicate 518 0x43) 868 0 868 (with_section 0 (path_of 0xA0000001 (replicate 259 0x42 ++ zeros 1) (replicate 518 0x43 ++ zeros 2)))
    ∷ unwritable [] 0xA0000001 (replicate 260 0x42) []
    ∷ unwritable [] 0xA0000001 [] (replicate 520 0x43)
    -- a zero, half a unit, another signature
    ∷ unwritable [] 0xA0000001 (0x42 ∷ 0 ∷ 0x42 ∷ []) []
    ∷ unwritable [] 0xA0000001 [] (0x42 ∷ 0 ∷ 0 ∷ 0 ∷ 0x42 ∷ 0 ∷ [])
    ∷ unwritable [] 0xA0000001 [] (0x42 ∷ [])
    ∷ unwritable [] 0xA0000008 c c_wide
    -- a unit with one zero byte is none
    ∷ path_row [] 0xA0000001 [] (0 ∷ 1 ∷ 1 ∷ 0 ∷ []) 868 0 868 (with_section 0 (path_of 0xA0000001 (zeros 260) (0 ∷ 1 ∷ 1 ∷ 0 ∷ zeros 516)))
    -- unwritable before, if only by the block that would be replaced
    ∷ unwritable (endless 0xA0000001) 0xA0000001 c c_wide
    ∷ unwritable (console ++ console) 0xA0000001 c c_wide
    ∷ []

pub rows_hold_lem : rows_hold rows ≡ true
unfolding number number_at little units before_zero put number_of answer_number answer_value item_tests part_tests is_named store_tests slot_of size_fits inside_tests blocks_from present placed contents bits header_bytes items_bytes volume_bytes network_bytes info_bytes bytes_of_string canonical writable output_of path_block blocks_in with_block with_path path_writing path_answer path_output rows
rows_hold_lem = refl
