-- FORMAT: Refusals. What is wrong with the section that is due, number by number: p is the position of the refusal, q the section's start.
use Rattle.std.specs.Prelude.{ℕ, ◌+◌, ◌≤◌, ◌<◌, ◌≡◌, List, [], ◌∷◌, Bool, true, false, ◌||◌, length, take, drop, eqb}
use Rattle.octets.specs.Numbers.{u16_at, u32_at}
use Rattle.format.specs.declared.Profile.{Profile}
use Rattle.format.specs.declared.Fault.{Fault}
use Rattle.format.specs.declared.Fault.TheVariants.{Info as INFO, Piece as PIECE, Block as BLOCK, Store as STORE}
use Rattle.format.specs.Tests.{Test, all}
use Rattle.format.specs.Hotkey.{hotkey_ok}
use Rattle.format.specs.Header.{header_size_ok, identifier_ok, flags_ok, attributes_ok, zeros_from_66}
use Rattle.format.specs.Pieces.{piece_tests}
use Rattle.format.specs.Info.{info_head, has_local, has_network, info_pieces, info_head_tests}
use Rattle.format.specs.Store.{store_tests}
use Rattle.format.specs.Blocks.{slot_of, slot_at, size_fits, path_tests, block_rules, known, is_among}
use Rattle.refusals.specs.Due.{Due}

-- of tests in their order the first that fails gives the fault f, and is of the field i
abbrev pub FirstFails : List Test → Fault → ℕ → Type 0
FirstFails [] f i = ⊥
FirstFails (t ∷ ts) f i = (t.holds ≡ true → FirstFails ts f i) × (t.holds ≡ false → (t.fault ≡ f) × (t.field ≡ i))

-- ---- the header: l is its 76 bytes, p where the wrong field stands; all fields before it are right

pub data WrongMagic (l : List ℕ) : ℕ → Type 0 where
  size : header_size_ok (u32_at l 0) ≡ false → WrongMagic l 0
  identifier : header_size_ok (u32_at l 0) ≡ true → identifier_ok l ≡ false → WrongMagic l 4

pub data WrongHead (profile : Profile) (l : List ℕ) : ℕ → Type 0 where
  flags : flags_ok (u32_at l 20) ≡ false → WrongHead profile l 20
  attributes : flags_ok (u32_at l 20) ≡ true → attributes_ok profile (u32_at l 24) ≡ false → WrongHead profile l 24
  hotkey : flags_ok (u32_at l 20) ≡ true → attributes_ok profile (u32_at l 24) ≡ true → hotkey_ok (u16_at l 64) ≡ false → WrongHead profile l 64
  zeros : flags_ok (u32_at l 20) ≡ true → attributes_ok profile (u32_at l 24) ≡ true → hotkey_ok (u16_at l 64) ≡ true → zeros_from_66 l ≡ false → WrongHead profile l 66

-- ---- item lists

-- from a to p stand items end to end, each with its size in its first two bytes, and none passes e
pub data ItemsTo (s : List ℕ) (e p : ℕ) : ℕ → Type 0 where
  no_more : ItemsTo s e p p
  item : {a : ℕ} → 2 ≤ u16_at s a → a + u16_at s a ≤ e → ItemsTo s e p (a + u16_at s a) → ItemsTo s e p a

-- and none stands at p, where a size is due; e is where the list ends
pub data WrongItem (s : List ℕ) (e p : ℕ) : Type 0 where
  -- the list ends first
  no_size : p ≤ e → e < p + 2 → WrongItem s e p
  -- a size that does not even count itself
  small : p + 2 ≤ e → u16_at s p ≡ 1 → WrongItem s e p
  -- an item that passes the list's end
  passes : p + 2 ≤ e → 2 ≤ u16_at s p → e < p + u16_at s p → WrongItem s e p
  -- the two zero bytes, with more after them
  early_end : p + 2 < e → u16_at s p ≡ 0 → WrongItem s e p

-- the item list at q lies in the file
pub record WrongItems (s : List ℕ) (q p : ℕ) : Type 0 where
  pub inside : q + 2 + u16_at s q ≤ length s
  pub items : ItemsTo s (q + 2 + u16_at s q) p (q + 2)
  pub wrong : WrongItem s (q + 2 + u16_at s q) p

-- ---- LinkInfo: l is its own bytes

-- its size is there and less than a short head's; or it lies in the file, and the first of its head's tests that fails is of the field i
pub data WrongInfo (profile : Profile) (s : List ℕ) (q : ℕ) : ℕ → Type 0 where
  small : q + 4 ≤ length s → u32_at s q < 0x1C → WrongInfo profile s q q
  rule : (i : ℕ) → 0x1C ≤ u32_at s q → q + u32_at s q ≤ length s → FirstFails (info_head_tests profile (take (u32_at s q) (drop q s))) INFO i → WrongInfo profile s q (q + i)

-- it lies in the file, its fixed head is right, and of the tests of what its offsets lead to the first that fails is of the field i
pub record WrongPieces (profile : Profile) (l : List ℕ) (i : ℕ) : Type 0 where
  pub head : all (info_head_tests profile l) ≡ true
  pub first : FirstFails (piece_tests (info_head l) (info_pieces l)) PIECE i

pub data WrongPiece (profile : Profile) (s : List ℕ) (q : ℕ) : ℕ → Type 0 where
  rule : (i : ℕ) → 0x1C ≤ u32_at s q → q + u32_at s q ≤ length s → WrongPieces profile (take (u32_at s q) (drop q s)) i → WrongPiece profile s q (q + i)

-- the field i of LinkInfo that PIECE can tell of: an offset field of its own, or one from VolumeID's start on, or from the network link's on, if these are present
pub data PieceField (l : List ℕ) (i : ℕ) : Type 0 where
  offset : is_among i (12 ∷ 16 ∷ 20 ∷ 24 ∷ 28 ∷ 32 ∷ []) ≡ true → PieceField l i
  volume : has_local l ≡ true → u32_at l 12 ≤ i → i < length l → PieceField l i
  network : has_network l ≡ true → u32_at l 20 ≤ i → i ≤ length l → PieceField l i

-- ---- blocks: b is a block's own bytes

-- one of the three with texts
abbrev pub is_path_block : ℕ → Bool
is_path_block slot = eqb slot (slot_of 0xA0000001) || eqb slot (slot_of 0xA0000006) || eqb slot (slot_of 0xA0000007)

-- a size that does not fit the signature; a text without an end, at byte 8 or 268; items from byte 8 on that are wrong, e being where the block ends
pub data WrongHeld (s : List ℕ) (q e : ℕ) (b : List ℕ) : ℕ → Type 0 where
  misfit : size_fits (slot_at b) (length b) ≡ false → WrongHeld s q e b q
  text : (i : ℕ) → size_fits (slot_at b) (length b) ≡ true → is_path_block (slot_at b) ≡ true → FirstFails (path_tests b) BLOCK i → WrongHeld s q e b (q + i)
  items : (p : ℕ) → size_fits (slot_at b) (length b) ≡ true → slot_at b ≡ slot_of 0xA000000C → ItemsTo s e p (q + 8) → WrongItem s e p → WrongHeld s q e b p

-- a size of 4 to 7; or the block lies in the file, and this is wrong with it
pub data WrongBlock (s : List ℕ) (q : ℕ) : ℕ → Type 0 where
  small : q + 4 ≤ length s → 4 ≤ u32_at s q → u32_at s q < 8 → WrongBlock s q q
  held : (p : ℕ) → 8 ≤ u32_at s q → q + u32_at s q ≤ length s → WrongHeld s q (q + u32_at s q) (take (u32_at s q) (drop q s)) p → WrongBlock s q p

-- an A0000009 block of a size that fits, whose store breaks a rule, first at the field i
pub record WrongHeldStore (b : List ℕ) (i : ℕ) : Type 0 where
  pub fits : size_fits (slot_at b) (length b) ≡ true
  pub signature : slot_at b ≡ slot_of 0xA0000009
  pub first : FirstFails (store_tests 8 (drop 8 b)) STORE i

pub data WrongStore (s : List ℕ) (q : ℕ) : ℕ → Type 0 where
  rule : (i : ℕ) → 8 ≤ u32_at s q → q + u32_at s q ≤ length s → WrongHeldStore (take (u32_at s q) (drop q s)) i → WrongStore s q (q + i)

-- the block at q lies in the file and keeps its own rules; its signature is one of the table's, and an earlier block has it too
pub record Second (profile : Profile) (s : List ℕ) (q : ℕ) : Type 0 where
  pub least : 8 ≤ u32_at s q
  pub inside : q + u32_at s q ≤ length s
  pub rules : all (block_rules (take (u32_at s q) (drop q s))) ≡ true
  pub known : known (slot_of (u32_at s (q + 4))) ≡ true
  pub first : ℕ
  pub earlier : first + 8 ≤ q
  pub due : Due profile s 9 first
  pub same : u32_at s (first + 4) ≡ u32_at s (q + 4)
