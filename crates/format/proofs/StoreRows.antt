-- Small stores by computation: right and wrong in each way, with the first wrong field, counted from the start of the block; listed and written.
use mathlib.Core.Path.{◌≡◌, refl}
use mathlib.Core.List.{List, [], ◌∷◌, ◌++◌, map}
use Prim.Native.Nat.{ℕ, ◌+◌}
use lib.ListN.{length}
use Rattle.std.specs.Prelude.{Some, None}
use Rattle.octets.specs.Numbers.{number, number_at, little}
use Rattle.format.specs.declared.Profile.TheVariants.{Strict}
use Rattle.format.specs.declared.Fault.TheVariants.{Store as STORE, Block as BLOCK, Place as PLACE, Unwritable as UNWRITABLE, Room as ROOM}
use Rattle.format.specs.Tests.{got, refused, section, spot_at}
use Rattle.format.specs.Store.{part_tests, is_named, named_format, store_tests}
use Rattle.format.specs.Blocks.{slot_of, size_fits, inside_tests, blocks_from}
use Rattle.format.specs.Header.{identifier_ok, signed}
use Rattle.format.specs.Items.{item_tests}
use Rattle.format.specs.Shortcut.{sections, shortcut}
use Rattle.format.specs.StoreList.{per_part, store_rows, rows_of, store_list, store_row, store_name, store_raw}
use Rattle.format.specs.StoreWriting.{entries, values_bytes, store_bytes, entries_fit, writable_store, rows_from, store_writing}
use Rattle.format.specs.Probes.{zeros, with_section, Z}
use Rattle.format.specs.Steps.Wrong.{wrong}
use Rattle.format.proofs.AnswerLaws.{nowhere}

-- ---- the bytes, by sizes that may be wrong

abbrev other_format : List ℕ
other_format = zeros 16

abbrev storage : ℕ → List ℕ → List ℕ → List ℕ
storage size identifier values = little 4 size ++ little 4 0x53505331 ++ identifier ++ values

abbrev value : ℕ → ℕ → ℕ → List ℕ → List ℕ
value size number byte rest = little 4 size ++ little 4 number ++ byte ∷ rest

abbrev end : List ℕ
end = zeros 4

-- one storage with these values and the sizes as they should be
abbrev one : List ℕ → List ℕ → List ℕ
one identifier values = storage (28 + length values) identifier (values ++ end) ++ end

-- ---- the rows

-- an empty store; no size at all; three bytes of one; a byte after the zero size
pub store_ends : map (λ l. wrong (store_tests 8 l)) (end ∷ [] ∷ zeros 3 ∷ zeros 5 ∷ []) ≡ None ∷ Some 8 ∷ Some 8 ∷ Some 8 ∷ []
unfolding number number_at little is_named part_tests store_tests
store_ends = refl

-- a storage without values; of 27 bytes; past the end; of another version; with no size, two bytes of one or a byte too many after it
pub storages : map (λ l. wrong (store_tests 8 l))
    (one other_format []
    ∷ (storage 27 other_format (zeros 3) ++ end)
    ∷ (storage 33 other_format end ++ end)
    ∷ ((little 4 28 ++ little 4 0x53505330 ++ other_format ++ end) ++ end)
    ∷ storage 28 other_format end
    ∷ (storage 28 other_format end ++ zeros 2)
    ∷ (one other_format [] ++ zeros 1)
    ∷ [])
    ≡ None ∷ Some 8 ∷ Some 8 ∷ Some 12 ∷ Some 36 ∷ Some 36 ∷ Some 36 ∷ []
unfolding number number_at little is_named part_tests store_tests
storages = refl

-- a value by number: without raw bytes, and with the greatest number; of 8 bytes; past its storage's end; a 1 for the zero byte;
-- no size after it though the storage ends; one byte of a size; a byte after the values' zero size; a wrong value in the second storage
pub values : map (λ l. wrong (store_tests 8 l))
    (one other_format (value 9 7 0 [])
    ∷ one other_format (value 10 0xFFFFFFFF 0 (5 ∷ []))
    ∷ one other_format (value 8 7 0 [])
    ∷ one other_format (value 14 7 0 [])
    ∷ one other_format (value 9 7 1 [])
    ∷ (storage 33 other_format (value 9 7 0 []) ++ end)
    ∷ (storage 34 other_format (value 9 7 0 [] ++ zeros 1) ++ end)
    ∷ (one other_format (end ++ zeros 1))
    ∷ (storage 28 named_format end ++ one other_format (value 9 7 0 [] ++ value 9 8 1 []))
    ∷ [])
    ≡ None ∷ None ∷ Some 32 ∷ Some 32 ∷ Some 40 ∷ Some 41 ∷ Some 41 ∷ Some 32 ∷ Some 77 ∷ []
unfolding number number_at little is_named part_tests store_tests
values = refl

-- a value by string: a name of three bytes; an empty name; a name past its value's end; the same with a 1 for the zero byte; that alone
pub names : map (λ l. wrong (store_tests 8 l))
    (one named_format (value 13 3 0 (zeros 4))
    ∷ one named_format (value 10 0 0 (zeros 1))
    ∷ one named_format (value 11 3 0 (zeros 2))
    ∷ one named_format (value 11 3 1 (zeros 2))
    ∷ one named_format (value 12 3 1 (zeros 3))
    ∷ [])
    ≡ None ∷ None ∷ Some 36 ∷ Some 36 ∷ Some 40 ∷ []
unfolding number number_at little is_named part_tests store_tests
names = refl

-- a block of n bytes by its size, and the terminal after it
abbrev block_of : ℕ → List ℕ → List ℕ
block_of n l = little 4 n ++ little 4 0xA0000009 ++ l ++ end

-- in the block: its size first, then the store, up to the block's end and no further
pub in_block : map (λ s. blocks_from [] 76 0 s) (block_of 12 end ∷ block_of 11 (zeros 3) ∷ block_of 13 (zeros 5) ∷ block_of 36 (storage 28 other_format end) ∷ [])
    ≡ got (12 ∷ []) 16
    ∷ refused BLOCK (spot_at (section 8 76) 0)
    ∷ refused STORE (spot_at (section 8 76) 8)
    ∷ refused STORE (spot_at (section 8 76) 36)
    ∷ []
unfolding number number_at little is_named part_tests store_tests slot_of size_fits inside_tests blocks_from
in_block = refl

-- an empty storage, then one with a value named "core" and a value with an empty name
abbrev stored : List ℕ
stored = storage 28 other_format end ++ one named_format (value 14 4 0 (0x63 ∷ 0x6F ∷ 0x72 ∷ 0x65 ∷ 5 ∷ []) ++ value 10 0 0 (6 ∷ []))

-- in a shortcut the store starts at 84
abbrev holder : List ℕ
holder = with_section 0 (little 4 (8 + length stored) ++ little 4 0xA0000009 ++ stored)

abbrev its_rows : List ℕ
its_rows =
    0 ∷ 0 ∷ 0 ∷ 0 ∷ 92 ∷ 16
    ∷ 0 ∷ 0 ∷ 0 ∷ 0 ∷ 120 ∷ 16
    ∷ 2 ∷ 0 ∷ 145 ∷ 4 ∷ 149 ∷ 1
    ∷ 2 ∷ 0 ∷ 159 ∷ 0 ∷ 159 ∷ 1
    ∷ []

-- listed, and into a room one too small; a shortcut without the block
pub lists : store_list Strict holder 24 ∷ store_list Strict holder 23 ∷ store_list Strict Z 0 ∷ [] ≡ got its_rows 4 ∷ refused ROOM nowhere ∷ got [] 0 ∷ []
unfolding number number_at little is_named part_tests store_tests identifier_ok signed item_tests slot_of size_fits inside_tests blocks_from sections shortcut per_part store_rows rows_of store_list
lists = refl

-- of the second storage, the two values, and a row that is not there
pub parts : map (store_name Strict holder) (1 ∷ 2 ∷ 3 ∷ 4 ∷ []) ++ map (store_raw Strict holder) (1 ∷ 2 ∷ 3 ∷ 4 ∷ [])
    ≡ [] ∷ (0x63 ∷ 0x6F ∷ 0x72 ∷ 0x65 ∷ []) ∷ [] ∷ [] ∷ named_format ∷ (5 ∷ []) ∷ (6 ∷ []) ∷ [] ∷ []
unfolding number number_at little is_named part_tests store_tests identifier_ok signed item_tests slot_of size_fits inside_tests blocks_from sections shortcut per_part store_rows rows_of store_row store_name store_raw
parts = refl

-- written back from the shortcut's bytes; into a room one too small; the last row alone; a number left over; a place outside
pub writes : store_writing its_rows holder 84
    ∷ store_writing its_rows holder 83
    ∷ store_writing (2 ∷ 0 ∷ 159 ∷ 0 ∷ 159 ∷ 1 ∷ []) holder 84
    ∷ store_writing (its_rows ++ 0 ∷ []) holder 84
    ∷ store_writing its_rows (zeros 159) 84
    ∷ []
    ≡ got stored 84 ∷ refused ROOM nowhere ∷ refused UNWRITABLE nowhere ∷ refused UNWRITABLE nowhere ∷ refused PLACE nowhere ∷ []
unfolding number number_at little is_named entries values_bytes store_bytes entries_fit writable_store rows_from store_writing
writes = refl
