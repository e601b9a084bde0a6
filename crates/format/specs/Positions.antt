-- FORMAT: Positions. Where a refusal may stand: in the section at fault, whose number in the listing is k and whose first byte is p.
use Rattle.std.specs.Prelude.{ℕ, ◌+◌, ◌-◌, min, max, ◌≤◌, ◌<◌, ◌≡◌, List, [], ◌∷◌, ◌++◌, Bool, true, ◌&&◌, ◌||◌, cond, length, take, drop, leb, eqb}
use Rattle.octets.specs.Numbers.{u16_at, u32_at, little}
use Rattle.octets.specs.Characters.{bytes_of}
use Rattle.format.specs.declared.Fault.{Fault}
use Rattle.format.specs.declared.Fault.TheVariants.{Cut as CUT, Items as ITEMS, Piece as PIECE, Block as BLOCK, Trail as TRAIL, Store as STORE}
use Rattle.format.specs.declared.Spot.{Spot}
use Rattle.format.specs.Presence.{strings_unicode}
use Rattle.format.specs.Tests.{all}
use Rattle.format.specs.Items.{item_list}
use Rattle.format.specs.Store.{is_named, values_tests, store_tests}
use Rattle.format.specs.Blocks.{slot_of}

-- ---- the end of a section

abbrev pub is_string : ℕ → Bool
is_string k = leb 3 k && leb k 7

-- item list and strings begin with two bytes that tell their length, all others with four
abbrev pub size_field : ℕ → ℕ
size_field k = cond (eqb k 1 || is_string k) 2 4

-- header and terminal have one size; a string tells its characters, LinkInfo and a block their whole size
abbrev pub declared_end : List ℕ → ℕ → ℕ → ℕ
declared_end s k p =
    cond (eqb k 0) 76
    (cond (eqb k 1) (p + 2 + u16_at s p)
    (cond (is_string k) (p + 2 + bytes_of (strings_unicode (u32_at s 20)) (u16_at s p))
    (cond (eqb k 9) (p + 4)
    (p + u32_at s p))))

-- no earlier than its size field's, no later than the file's
abbrev pub section_end : List ℕ → ℕ → ℕ → ℕ
section_end s k p = min (length s) (max (p + size_field k) (declared_end s k p))

-- ---- what may stand at the end itself: a field that was due there, and of which the section has no byte

-- from a to e stand items, and nothing is wrong with them but that the two zero bytes are not there
abbrev pub unended : List ℕ → ℕ → ℕ → Bool
unended s a e = item_list (take (e - a) (drop a s) ++ 0 ∷ 0 ∷ [])

-- from a to e stand storages, and nothing is wrong with them but that the zero size is not there
unfoldable pub store_unended : List ℕ → ℕ → ℕ → Bool
unfolding store_tests
store_unended s a e = all (store_tests 0 (take (e - a) (drop a s) ++ little 4 0))

-- the same of the values of the storage at a
unfoldable pub values_unended : List ℕ → ℕ → ℕ → Bool
unfolding is_named
values_unended s a e = all (values_tests (is_named (take 16 (drop (a + 8) s))) 0 (take (e - (a + 24)) (drop (a + 24) s) ++ little 4 0))

-- where the network link of the LinkInfo at p starts
abbrev pub link_start : List ℕ → ℕ → ℕ
link_start s p = p + u32_at s (p + 20)

-- the network link at a has n bytes and ends at e, although its NetNameOffset leaves room for Unicode offset fields
pub record LinkEnds (s : List ℕ) (a n e : ℕ) : Type 0 where
  pub size : u32_at s a ≡ n
  pub unicode : 0x14 < u32_at s (a + 8)
  pub ends : a + n ≡ e

-- none of MAGIC, HEAD and INFO
pub data Due (s : List ℕ) (w : Spot) : Fault → Type 0 where
  -- the byte after the terminal
  after_terminal : Due s w TRAIL
  -- a section of which no byte is there
  no_section : w.start ≡ length s → Due s w CUT
  -- the size after the last item
  no_item_size : unended s (w.start + 2) w.position ≡ true → Due s w ITEMS
  no_block_item_size : slot_of (u32_at s (w.start + 4)) ≡ slot_of 0xA000000C → unended s (w.start + 8) w.position ≡ true → Due s w BLOCK
  -- the size after the last storage, and that after the last value of a storage at a that ends with its block
  no_storage_size : slot_of (u32_at s (w.start + 4)) ≡ slot_of 0xA0000009 → store_unended s (w.start + 8) w.position ≡ true → Due s w STORE
  no_value_size : (a : ℕ) → slot_of (u32_at s (w.start + 4)) ≡ slot_of 0xA0000009 → a + u32_at s a ≡ w.position → values_unended s a w.position ≡ true → Due s w STORE
  -- the offset fields of the Unicode names, at 0x14 and 0x18 of the network link
  no_net_name_field : LinkEnds s (link_start s w.start) 0x14 w.position → Due s w PIECE
  no_device_name_field : LinkEnds s (link_start s w.start) 0x18 w.position → Due s w PIECE

-- ---- the fault f, refused at w

pub record InSection (s : List ℕ) (f : Fault) (w : Spot) : Type 0 where
  pub early : w.start ≤ w.position
  pub late : w.position ≤ section_end s w.section w.start
  pub end : w.position ≡ section_end s w.section w.start → Due s w f
