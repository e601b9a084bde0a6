-- Blind spots of small shortcuts, by computation.
use mathlib.Core.Path.{◌≡◌, refl}
use mathlib.Core.List.{List, [], ◌∷◌, ◌++◌, map}
use Prim.Native.Nat.{ℕ, ◌+◌, ◌*◌}
use lib.ListN.{length}
use Rattle.octets.specs.Numbers.{number, number_at, little}
use Rattle.octets.specs.Characters.{units, before_zero}
use Rattle.format.specs.declared.Profile.TheVariants.{Strict}
use Rattle.format.specs.declared.Fault.TheVariants.{Cut as CUT}
use Rattle.format.specs.Tests.{got, refused, section, spot_at}
use Rattle.format.specs.Header.{identifier_ok, signed}
use Rattle.format.specs.Items.{item_tests}
use Rattle.format.specs.Store.{part_tests, is_named, store_tests}
use Rattle.format.specs.Blocks.{slot_of, size_fits, inside_tests, blocks_from}
use Rattle.format.specs.Shortcut.{sections, shortcut}
use Rattle.format.specs.Writing.{end_to_end}
use Rattle.format.specs.Key.{key_of}
use Rattle.format.specs.StoreList.{per_part, store_rows, rows_of}
use Rattle.format.specs.Codepage.{windows1252, unit_of, to_units}
use Rattle.format.specs.PathWriting.{path_block}
use Rattle.format.specs.Blind.{blind_bits, key_blind}
use Rattle.format.specs.Probes.{zeros, with_section, Z, small_info}

-- ---- the bytes

-- one item and the two zeros that end the list; with the list's size before them
abbrev pub item : List ℕ → List ℕ
item x = little 2 (2 + length x) ++ x ++ zeros 2

abbrev pub one_item : List ℕ → List ℕ
one_item x = little 2 (length (item x)) ++ item x

-- texts with their terminators
abbrev text : List ℕ → List ℕ
text x = x ++ zeros 1

abbrev wide : List ℕ → List ℕ
wide x = x ++ zeros 2

-- a drive without a label; a share with both its names
abbrev drive : List ℕ
drive = little 4 0x11 ++ zeros 8 ++ little 4 0x10 ++ zeros 1

abbrev share : List ℕ → List ℕ → List ℕ
share name unicode =
    let n = 0x1C + length (text name) in
    little 4 (n + length (wide unicode)) ++ zeros 4 ++ little 4 0x1C ++ zeros 8 ++ little 4 n ++ zeros 4 ++ text name ++ wide unicode

-- LinkInfo of these pieces, of which an absent one has no bytes: VolumeID, local path, network link, suffix, and with a long head their two twins
abbrev offsets : ℕ → List (List ℕ) → List (List ℕ)
offsets o [] = []
offsets o ([] ∷ xs) = zeros 4 ∷ offsets o xs
offsets o ((a ∷ x) ∷ xs) = little 4 o ∷ offsets (o + length (a ∷ x)) xs

abbrev info_of : ℕ → List (List ℕ) → List ℕ
info_of flags xs =
    let head = 12 + 4 * length xs in
    let pieces = end_to_end xs in
    little 4 (head + length pieces) ++ little 4 head ++ little 4 flags ++ end_to_end (offsets head xs) ++ pieces

abbrev pub block : ℕ → List ℕ → List ℕ
block signature x = little 4 (8 + length x) ++ little 4 signature ++ x

-- ---- the rows

abbrev c : List ℕ
c = 0x43 ∷ []

abbrev d : List ℕ
d = 0x44 ∷ []

-- the byte text x, with the unit u for its twin
abbrev one : ℕ → List ℕ
one u = little 2 u

abbrev pub local : List ℕ → List ℕ → List ℕ
local x suffix = info_of 1 (drive ∷ text x ∷ [] ∷ text suffix ∷ [])

abbrev twins : List ℕ → List ℕ → List ℕ → List ℕ → List ℕ
twins x suffix unicode suffix_unicode = info_of 1 (drive ∷ text x ∷ [] ∷ text suffix ∷ wide unicode ∷ wide suffix_unicode ∷ [])

abbrev pub environment : List ℕ → List ℕ → List ℕ
environment x unicode = path_block 0xA0000001 x unicode

-- Z; an item list, a relative path and LinkInfo, each alone; a local path, passed over by flag bit 8, or with a suffix empty; a suffix alone; an item list beside a target, an environment text, and an empty one;
-- an empty environment text alone
pub nameless_rows : map (key_blind Strict)
    (Z
    ∷ with_section 1 (one_item [])
    ∷ with_section 8 (zeros 2)
    ∷ with_section 2 (small_info 0x1C 0x1C)
    ∷ with_section 2 (local c [])
    ∷ with_section 0x102 (local c [])
    ∷ with_section 2 (local [] [])
    ∷ with_section 2 (local [] c)
    ∷ with_section 3 (one_item [] ++ local c [])
    ∷ with_section 1 (one_item [] ++ environment c (one 0x43))
    ∷ with_section 1 (one_item [] ++ environment [] [])
    ∷ with_section 0 (environment [] [])
    ∷ [])
    ≡ got 0 0 ∷ got 1 1 ∷ got 1 1 ∷ got 1 1 ∷ got 0 0 ∷ got 1 1 ∷ got 1 1 ∷ got 0 0 ∷ got 0 0 ∷ got 0 0 ∷ got 1 1 ∷ got 0 0 ∷ []
unfolding number number_at little units before_zero identifier_ok signed item_tests part_tests is_named store_tests slot_of size_fits inside_tests blocks_from sections shortcut key_of per_part store_rows rows_of windows1252 unit_of to_units path_block blind_bits key_blind
nameless_rows = refl

-- twins that are the translation; of the local path another text, a longer one, an empty one, one of the suffix; 80 and the euro sign, 80 and its own number, an unassigned byte and the table's mark;
-- another text that flag bit 8 passes over; a share with its own name, with another, and beside a local path
pub target_rows : map (key_blind Strict)
    (with_section 2 (twins c d (one 0x43) (one 0x44))
    ∷ with_section 2 (twins c d (one 0x45) (one 0x44))
    ∷ with_section 2 (twins c d (one 0x43 ++ one 0x43) (one 0x44))
    ∷ with_section 2 (twins c d [] (one 0x44))
    ∷ with_section 2 (twins c d (one 0x43) (one 0x45))
    ∷ with_section 2 (twins (0x80 ∷ []) [] (one 0x20AC) [])
    ∷ with_section 2 (twins (0x80 ∷ []) [] (one 0x80) [])
    ∷ with_section 2 (twins (0x81 ∷ []) [] (one 0xFFFF) [])
    ∷ with_section 0x102 (twins c d (one 0x45) (one 0x44) ++ environment c (one 0x43))
    ∷ with_section 2 (info_of 2 ([] ∷ [] ∷ share c (one 0x43) ∷ text d ∷ []))
    ∷ with_section 2 (info_of 2 ([] ∷ [] ∷ share c (one 0x45) ∷ text d ∷ []))
    ∷ with_section 2 (info_of 3 (drive ∷ text c ∷ share c (one 0x45) ∷ text d ∷ []))
    ∷ [])
    ≡ got 0 0 ∷ got 2 2 ∷ got 2 2 ∷ got 2 2 ∷ got 2 2 ∷ got 0 0 ∷ got 2 2 ∷ got 2 2 ∷ got 0 0 ∷ got 0 0 ∷ got 2 2 ∷ got 0 0 ∷ []
unfolding number number_at little units before_zero identifier_ok signed item_tests part_tests is_named store_tests slot_of size_fits inside_tests blocks_from sections shortcut key_of per_part store_rows rows_of windows1252 unit_of to_units path_block blind_bits key_blind
target_rows = refl

-- the translation, also with bytes after both zeros; another text, none, one where the byte text has none, an unassigned byte
pub environment_rows : map (key_blind Strict)
    (with_section 0 (environment c (one 0x43))
    ∷ with_section 0 (environment (c ++ 0 ∷ d) (one 0x43 ++ zeros 2 ++ one 0x45))
    ∷ with_section 0 (environment c (one 0x44))
    ∷ with_section 0 (environment c [])
    ∷ with_section 0 (environment [] (one 0x43))
    ∷ with_section 0 (environment (0x81 ∷ []) (one 0xFFFF))
    ∷ [])
    ≡ got 0 0 ∷ got 0 0 ∷ got 4 4 ∷ got 4 4 ∷ got 4 4 ∷ got 4 4 ∷ []
unfolding number number_at little units before_zero identifier_ok signed item_tests part_tests is_named store_tests slot_of size_fits inside_tests blocks_from sections shortcut key_of per_part store_rows rows_of windows1252 unit_of to_units path_block blind_bits key_blind
environment_rows = refl

-- a storage without values, and one with a value
abbrev bare : List ℕ
bare = little 4 28 ++ little 4 0x53505331 ++ zeros 16 ++ zeros 4

abbrev pub valued : List ℕ → List ℕ
valued raw = little 4 (37 + length raw) ++ little 4 0x53505331 ++ zeros 16 ++ little 4 (9 + length raw) ++ little 4 7 ++ zeros 1 ++ raw ++ zeros 4

abbrev pub store : List ℕ → List ℕ
store x = block 0xA0000009 (x ++ zeros 4)

-- the blocks A0000006, A000000C and A0000007; an empty store, a storage without values, a value, and one in the second storage
pub block_rows : map (key_blind Strict)
    (with_section 0 (path_block 0xA0000006 c (one 0x43))
    ∷ with_section 0 (block 0xA000000C (zeros 2))
    ∷ with_section 0 (path_block 0xA0000007 c (one 0x44))
    ∷ with_section 0 (store [])
    ∷ with_section 0 (store bare)
    ∷ with_section 0 (store (valued []))
    ∷ with_section 0 (store (bare ++ valued (5 ∷ [])))
    ∷ [])
    ≡ got 8 8 ∷ got 8 8 ∷ got 0 0 ∷ got 0 0 ∷ got 0 0 ∷ got 16 16 ∷ got 16 16 ∷ []
unfolding number number_at little units before_zero identifier_ok signed item_tests part_tests is_named store_tests slot_of size_fits inside_tests blocks_from sections shortcut key_of per_part store_rows rows_of windows1252 unit_of to_units path_block blind_bits key_blind
block_rows = refl

-- every bit; a refusal is reading's
pub all_rows : map (key_blind Strict)
    (with_section 2 (twins [] [] (one 0x45) [] ++ environment [] (one 0x43) ++ path_block 0xA0000006 c (one 0x43) ++ block 0xA000000C (zeros 2) ++ store (valued []))
    ∷ with_section 0xA0 (0x03 ∷ 0x00 ∷ 0x2D ∷ [])
    ∷ [])
    ≡ got 31 31 ∷ refused CUT (spot_at (section 6 76) 0) ∷ []
unfolding number number_at little units before_zero identifier_ok signed item_tests part_tests is_named store_tests slot_of size_fits inside_tests blocks_from sections shortcut key_of per_part store_rows rows_of windows1252 unit_of to_units path_block blind_bits key_blind
all_rows = refl

-- ---- two cores: texts for shortcuts that differ in one of them

abbrev pub rv32 : List ℕ
rv32 = 0x72 ∷ 0x76 ∷ 0x33 ∷ 0x32 ∷ []

abbrev pub rv64 : List ℕ
rv64 = 0x72 ∷ 0x76 ∷ 0x36 ∷ 0x34 ∷ []

abbrev root : List ℕ
root = 0x43 ∷ 0x3A ∷ 0x5C ∷ []

abbrev driver : List ℕ
driver = 0x5C ∷ 0x63 ∷ 0x63 ∷ 0x2E ∷ 0x65 ∷ 0x78 ∷ 0x65 ∷ []

-- C:\, three signs and \cc.exe: question marks in bytes, and in Unicode the word core and one more
abbrev pub garbled : ℕ → List ℕ
garbled sign =
    twins (root ++ 0x3F ∷ 0x3F ∷ 0x3F ∷ driver) [] (to_units root ++ little 2 0x6838 ++ little 2 0x5FC3 ++ little 2 sign ++ to_units driver) []

-- %RV32%\cc.exe and %RV64%\cc.exe
abbrev pub variable32 : List ℕ
variable32 = (0x25 ∷ 0x52 ∷ 0x56 ∷ 0x33 ∷ 0x32 ∷ 0x25 ∷ []) ++ driver

abbrev pub variable64 : List ℕ
variable64 = (0x25 ∷ 0x52 ∷ 0x56 ∷ 0x36 ∷ 0x34 ∷ 0x25 ∷ []) ++ driver
