-- FORMAT: Blocks.
use Rattle.std.specs.Prelude.{ℕ, zero, suc, ◌+◌, ◌-◌, List, [], ◌∷◌, Bool, true, false, not, ◌&&◌, ◌||◌, cond, length, take, drop, leb, ltb, eqb}
use Rattle.octets.specs.Numbers.{u32_at}
use Rattle.format.specs.declared.Place.{Place}
use Rattle.format.specs.declared.Fault.TheVariants.{Cut as CUT, Block as BLOCK, Twice as TWICE}
use Rattle.format.specs.Tests.{Test, ◌else◌at◌, Site, section, spot_at, tests, Outcome, got, refused, Reader, and_then, place, no_place}
use Rattle.format.specs.Items.{item_tests}
use Rattle.format.specs.Store.{store_tests}
use Rattle.format.specs.Pieces.{text_ends}

-- ---- the table of signatures

-- one size alone, or that and every greater one
pub data SizeRule : Type 0 where
  exactly : ℕ → SizeRule
  at_least : ℕ → SizeRule

abbrev pub obeys : SizeRule → ℕ → Bool
obeys (exactly m) n = eqb n m
obeys (at_least m) n = leb m n

-- Signature | Size
abbrev pub signatures : List (ℕ × SizeRule)
signatures =
    (0xA0000001, exactly 0x314)
    ∷ (0xA0000002, exactly 0xCC)
    ∷ (0xA0000003, exactly 0x60)
    ∷ (0xA0000004, exactly 0x0C)
    ∷ (0xA0000005, exactly 0x10)
    ∷ (0xA0000006, exactly 0x314)
    ∷ (0xA0000007, exactly 0x314)
    ∷ (0xA0000008, at_least 0x88)
    ∷ (0xA0000009, at_least 0x0C)
    ∷ (0xA000000B, exactly 0x1C)
    ∷ (0xA000000C, at_least 0x0A)
    ∷ []

-- how many rows stand before that of the signature x; all of them where it has none
abbrev pub slot_in : List (ℕ × SizeRule) → ℕ → ℕ
slot_in [] x = 0
slot_in (r ∷ rs) x = cond (eqb x r.0) 0 (suc (slot_in rs x))

-- 0 to 10 by the table; 11: another signature
unfoldable pub slot_of : ℕ → ℕ
slot_of x = slot_in signatures x

abbrev pub size_in : List (ℕ × SizeRule) → ℕ → ℕ → Bool
size_in [] k n = true
size_in (r ∷ rs) zero n = obeys r.1 n
size_in (r ∷ rs) (suc k) n = size_in rs k n

-- a signature without a row has every size
unfoldable pub size_fits : ℕ → ℕ → Bool
size_fits slot n = size_in signatures slot n

-- ---- one block

-- both texts of a path block end in their room, 260 bytes from 8 on and 260 units from 268 on; what follows an end is free
abbrev pub path_tests : List ℕ → List Test
path_tests b = text_ends false (take 260 (drop 8 b)) else BLOCK at 8 ∷ text_ends true (take 520 (drop 268 b)) else BLOCK at 268 ∷ []

-- what a block b holds: A0000009 a store from byte 8 to its end, the three path blocks (A0000001, A0000006, A0000007) their texts, A000000C items from byte 8 to its end
unfoldable pub inside_tests : ℕ → List ℕ → List Test
unfolding slot_of store_tests
inside_tests slot b =
    cond (eqb slot (slot_of 0xA0000009)) (store_tests 8 (drop 8 b))
    (cond (eqb slot (slot_of 0xA0000001) || eqb slot (slot_of 0xA0000006) || eqb slot (slot_of 0xA0000007)) (path_tests b)
    (cond (eqb slot (slot_of 0xA000000C)) (item_tests BLOCK 8 0 (drop 8 b))
    []))

abbrev pub slot_at : List ℕ → ℕ
slot_at b = slot_of (u32_at b 4)

-- by signature at 4: its size, then what it holds
abbrev pub block_rules : List ℕ → List Test
block_rules b =
    size_fits (slot_at b) (length b) else BLOCK at 0
    ∷ inside_tests (slot_at b) b

abbrev pub block_size : List ℕ → ℕ
block_size s = u32_at s 0

-- Size 4 to 7: BLOCK. Beyond the file: CUT. Then by signature
abbrev pub block_tests : List ℕ → List Test
block_tests s =
    leb 8 (block_size s) else BLOCK at 0
    ∷ leb (block_size s) (length s) else CUT at 0
    ∷ block_rules (take (block_size s) s)

-- ---- the step: what stands where a block is due, and how many bytes it has

pub data Standing : Type 0 where
  a_block : Standing
  a_terminal : Standing

-- a block or the terminal: where no size stands the terminal is missing
abbrev pub block : ℕ → Site
block p = section 8 p

abbrev pub terminal : ℕ → Site
terminal p = section 9 p

-- a size has four bytes, else CUT; below 4 it is no size but makes the terminal, which is those four bytes
abbrev pub block_step : Reader Standing
block_step p s =
    tests (terminal p) (leb 4 (length s) else CUT at 0 ∷ [])
    (cond (ltb (block_size s) 4) (got a_terminal 4) (tests (block p) (block_tests s) (got a_block (block_size s))))

-- ---- a known signature stands once

-- the slots of the table's rows
abbrev pub known : ℕ → Bool
known slot = ltb slot 11

abbrev pub is_among : ℕ → List ℕ → Bool
is_among x [] = false
is_among x (y ∷ ys) = eqb x y || is_among x ys

-- `before` has the slots of the blocks before this one; signatures that are not known repeat freely
abbrev pub once : List ℕ → ℕ → Bool
once before slot = not (known slot && is_among slot before)

-- tested when the block has passed all of its own tests; the field is its signature
abbrev pub once_tests : List ℕ → ℕ → List Test
once_tests before slot = once before slot else TWICE at 4 ∷ []

-- ---- the walk: the lengths of the blocks before the terminal

-- a step, and what is read after it if it is a block
abbrev pub follow : Outcome Standing → Outcome (List ℕ) → Outcome (List ℕ)
follow (got a_terminal n) rest = got [] n
follow (got a_block n) rest = and_then rest (λ lengths m. got (n ∷ lengths) (n + m))
follow (refused f q) rest = refused f q

-- p is where the next block starts; k bytes of the one before it are still to come
unfoldable pub blocks_from : List ℕ → ℕ → ℕ → List ℕ → Outcome (List ℕ)
blocks_from before p zero [] = refused CUT (spot_at (terminal p) 0)
blocks_from before p zero (a ∷ l) =
    let n = block_size (a ∷ l) in
    let slot = slot_at (a ∷ l) in
    follow (block_step p (a ∷ l)) (tests (block p) (once_tests before slot) (blocks_from (slot ∷ before) (p + n) (n - 1) l))
-- never met: a block's size was tested against what is left
blocks_from before p (suc k) [] = refused CUT (spot_at (terminal p) 0)
blocks_from before p (suc k) (a ∷ l) = blocks_from before p k l

-- the blocks that stand after others, of these slots
abbrev pub blocks_after : List ℕ → Reader (List ℕ)
blocks_after before p s = blocks_from before p 0 s

abbrev pub blocks : Reader (List ℕ)
blocks = blocks_after []

-- ---- the first block of each kind

-- the first block with this signature, of blocks of these lengths from p on; the empty place where there is none
abbrev pub first_place : List ℕ → ℕ → ℕ → List ℕ → Place
first_place s signature p [] = no_place
first_place s signature p (n ∷ ns) = cond (eqb (u32_at s (p + 4)) signature) (place p n) (first_place s signature (p + n) ns)
