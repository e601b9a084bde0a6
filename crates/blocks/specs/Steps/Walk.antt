-- What the walks over blocks answer, in terms of reading.
use Rattle.std.specs.Prelude.{ℕ, zero, suc, ◌+◌, ◌-◌, ◌≤◌, ◌≡◌, List, [], ◌∷◌, ◌++◌, Bool, true, false, cond, length, drop, get_or, set, eqb, leb, ltb, Option, Some, None, IfSome, Result, Ok, Err}
use Rattle.octets.specs.Numbers.{u32_at}
use Rattle.format.specs.declared.Fault.{Fault}
use Rattle.format.specs.declared.Fault.TheVariants.{Cut as CUT, Block as BLOCK, Twice as TWICE}
use Rattle.format.specs.declared.Place.{Place}
use Rattle.format.specs.declared.Spot.{Spot}
use Rattle.format.specs.declared.Refusal.{Refusal}
use Rattle.octets.specs.declared.Cursor.{Cursor}
use Rattle.format.specs.Tests.{◌else◌at◌, Site, spot_at, tests, Outcome, got, refused, and_then, place, no_place}
use Rattle.format.specs.Blocks.{slot_of, size_fits, inside_tests, slot_at, block_size, Standing, a_block, a_terminal, block, terminal, block_step, once, blocks_after, blocks}
use Rattle.format.specs.Numbers.{number_of}
use Rattle.format.specs.Steps.Firsts.{firsts}
use Rattle.format.specs.Steps.Wrong.{wrong, held_fault}
use Rattle.format.specs.Steps.Answers.{Answers, refusal, taken_number, taken_value}
use Rattle.format.specs.Shortcut.{most, sum}
use Rattle.blocks.specs.declared.Block.{Block}

-- ---- the step, at the start of s

-- a block of n bytes whose size fits its signature, which has the slot k
pub record Sized (s : List ℕ) (n k : ℕ) : Type 0 where
  pub size : n ≡ block_size s
  pub least : 8 ≤ n
  pub inside : n ≤ length s
  pub slot : k ≡ slot_of (u32_at s 4)
  pub fits : size_fits k n ≡ true

-- a block, none but the terminal, or a fault
abbrev pub BlockStep : Type 0
BlockStep = Result (Option Block) Fault

abbrev pub step_of : ℕ → Outcome Standing → BlockStep
step_of slot (got a_block n) = Ok (Some (record { len = n; slot = slot }))
step_of slot (got a_terminal n) = Ok None
step_of slot (refused f q) = Err f

-- the step of reading, but what a block holds is not looked at
abbrev pub size_step : List ℕ → Outcome Standing
size_step s =
    let n = block_size s in
    tests (terminal 0) (leb 4 (length s) else CUT at 0 ∷ [])
    (cond (ltb n 4) (got a_terminal 4) (tests (block 0) (leb 8 n else BLOCK at 0 ∷ leb n (length s) else CUT at 0 ∷ size_fits (slot_at s) n else BLOCK at 0 ∷ []) (got a_block n)))

unfoldable pub by_size : List ℕ → BlockStep
by_size s = step_of (slot_at s) (size_step s)

unfoldable pub step_number : BlockStep → ℕ
step_number (Ok b) = 0
step_number (Err f) = number_of f

-- where the block or the terminal ends; a refusal is at its start
unfoldable pub step_value : BlockStep → ℕ
step_value (Ok (Some b)) = b.len
step_value (Ok None) = 4
step_value (Err f) = 0

abbrev pub StepAnswer : List ℕ → BlockStep → Type 0
StepAnswer s t = Answers step_number step_value 0 (size_step s) (by_size s) t

-- the section whose size is wrong: where not even a size is left, the terminal
abbrev pub step_site : ℕ → ℕ → Site
step_site p left = cond (leb 4 left) (block p) (terminal p)

-- what reading says of that step
abbrev pub Told : List ℕ → BlockStep → Type 0
Told s (Ok (Some b)) = Sized s b.len b.slot
Told s (Ok None) = (p : ℕ) → block_step p s ≡ got a_terminal 4
Told s (Err f) = (p : ℕ) → block_step p s ≡ refused f (spot_at (step_site p (length s)) 0)

-- what stands here; where a refusal stands is not told
unfoldable pub Stands : List ℕ → BlockStep → Type 0
Stands s (Ok (Some b)) = Sized s b.len b.slot × ((p : ℕ) → block_step p s ≡ got a_block b.len)
Stands s (Ok None) = (p : ℕ) → block_step p s ≡ got a_terminal 4
Stands s (Err f) = (p : ℕ) → (q : Spot) × (block_step p s ≡ refused f q)

-- ---- the walk

-- the row of an empty walk
abbrev pub no_firsts : List ℕ
no_firsts = 0 ∷ 0 ∷ 0 ∷ 0 ∷ 0 ∷ 0 ∷ 0 ∷ 0 ∷ 0 ∷ 0 ∷ 0 ∷ []

-- what is noted of a block at p, never 0: where its signature stands; no shortcut reaches what is too far for the number
abbrev pub field_of : ℕ → ℕ
field_of p = cond (ltb p most) (p + 4) (most + 4)

-- no block has taken the slot; those of signatures that are not known stay free
unfoldable pub is_free : List ℕ → ℕ → Bool
is_free row slot = cond (ltb slot 11) (eqb (get_or row slot 0) 0) true

-- a slot that is taken keeps what it has
unfoldable pub taken : List ℕ → ℕ → ℕ → List ℕ
taken row slot field = cond (eqb (get_or row slot 0) 0) (set row slot field) row

unfoldable pub noted : List ℕ → ℕ → ℕ → List ℕ
unfolding taken
noted row slot field = cond (ltb slot 11) (taken row slot field) row

-- the row after blocks of these lengths from p on
unfoldable pub noted_all : List ℕ → ℕ → List ℕ → List ℕ → List ℕ
noted_all s p [] row = row
noted_all s p (n ∷ ns) row = noted_all s (p + n) ns (noted row (slot_at (drop p s)) (field_of p))

-- blocks of these lengths stand from a on, up to p, and find their slots free
abbrev pub BlocksTo : List ℕ → List ℕ → ℕ → List ℕ → ℕ → Type 0
BlocksTo s row a [] p = a ≡ p
BlocksTo s row a (n ∷ ns) p =
    let slot = slot_at (drop a s) in
    (block_step a (drop a s) ≡ got a_block n) × ((is_free row slot ≡ true) × BlocksTo s (noted row slot (field_of a)) (a + n) ns p)

-- what stands at p is no block, or its slot is taken
abbrev pub NoMore : List ℕ → ℕ → List ℕ → Type 0
NoMore s p row = (n : ℕ) → block_step p (drop p s) ≡ got a_block n → is_free row (slot_at (drop p s)) ≡ false

-- what is read after blocks of these lengths
abbrev pub after : List ℕ → Outcome (List ℕ) → Outcome (List ℕ)
after lengths o = and_then o (λ more n. got (lengths ++ more) (sum lengths + n))

-- the walk from a on has come to p, with this row; whatever follows s
pub record Passed (s : List ℕ) (a p : ℕ) (row : List ℕ) : Type 0 where
  pub lengths : List ℕ
  pub adds : p ≡ a + sum lengths
  pub inside : p ≤ length s
  pub walked : BlocksTo s no_firsts a lengths p
  pub notes : row ≡ noted_all s a lengths no_firsts
  pub wide : length row ≡ 11
  pub before : List ℕ
  pub free : (slot : ℕ) → is_free row slot ≡ once before slot
  pub is : (y : List ℕ) → blocks a (drop a (s ++ y)) ≡ after lengths (blocks_after before p (drop p (s ++ y)))
  pub first : length s ≤ most → row ≡ firsts s a lengths

-- what stands from p up to the terminal, as a single body
abbrev pub blocks_taken : ℕ → Outcome (List ℕ) → Result (Place × Cursor) Refusal
blocks_taken p (got lengths n) = Ok (place p (sum lengths), record { at = p + n })
blocks_taken p (refused f q) = Err (refusal f q)

-- after a refusal nothing is noted
abbrev pub firsts_by : List ℕ → ℕ → Outcome (List ℕ) → List ℕ
firsts_by s p (got lengths n) = firsts s p lengths
firsts_by s p (refused f q) = no_firsts

unfoldable pub blocks_at : List ℕ → ℕ → Result (Place × Cursor) Refusal
blocks_at s p = blocks_taken p (blocks p (drop p s))

unfoldable pub blocks_firsts : List ℕ → ℕ → List ℕ
blocks_firsts s p = firsts_by s p (blocks p (drop p s))

abbrev pub BlocksAnswer : List ℕ → ℕ → Result (Place × Cursor) Refusal → Type 0
BlocksAnswer s p r = Answers taken_number taken_value p (blocks p (drop p s)) (blocks_at s p) r

abbrev pub read_to : ℕ → ℕ → Result (Place × Cursor) Refusal
read_to a p = Ok (place a (p - a), record { at = p + 4 })

-- of a block at p whose sizes are right: the field found wrong of what it holds; or none is, and it is the second of its kind
abbrev pub wrong_or_twice : ℕ → ℕ → Option ℕ → Refusal
wrong_or_twice slot p (Some field) = refusal (held_fault slot) (spot_at (block p) field)
wrong_or_twice slot p None = refusal TWICE (spot_at (block p) 4)

unfoldable pub wrong_block : ℕ → List ℕ → ℕ → Refusal
wrong_block slot b p = wrong_or_twice slot p (wrong (inside_tests slot b))

-- ---- one of the blocks

-- the block whose signature stands there; the empty place for 0
unfoldable pub block_from : List ℕ → ℕ → Place
block_from s field = cond (ltb field 4) no_place (place (field - 4) (u32_at s (field - 4)))

-- what is made of a block's size; none where there is no block
abbrev pub if_block : BlockStep → (ℕ → Option Place) → Option Place
if_block (Ok (Some b)) f = f b.len
if_block (Ok None) f = None
if_block (Err e) f = None

-- the block number k from p on, by their sizes
unfoldable pub nth_block : List ℕ → ℕ → ℕ → Option Place
nth_block s p zero = if_block (by_size (drop p s)) (λ n. Some (place p n))
nth_block s p (suc k) = if_block (by_size (drop p s)) (λ n. nth_block s (p + n) k)

-- the place of number k, of blocks of these lengths from p on
abbrev pub nth_place : ℕ → List ℕ → ℕ → Option Place
nth_place p [] k = None
nth_place p (n ∷ ns) zero = Some (place p n)
nth_place p (n ∷ ns) (suc k) = nth_place (p + n) ns k

-- b stands inside s; and where the blocks from p on are read, it is number k of them
pub record NthOf (s : List ℕ) (p k : ℕ) (b : Option Place) : Type 0 where
  pub inside : IfSome b (λ x. x.at + x.len ≤ length s)
  pub is : (before lengths : List ℕ) (n : ℕ) → blocks_after before p (drop p s) ≡ got lengths n → b ≡ nth_place p lengths k
