-- FORMAT: Path block texts, Path block place, Path block call. A path block put into a record, and the shortcut that the record is then written as.
use Rattle.std.specs.Prelude.{ℕ, ◌-◌, ◌≤◌, ◌<◌, ◌≡◌, List, [], ◌∷◌, ◌++◌, Bool, true, false, ◌&&◌, ◌||◌, cond, length, take, drop, replicate, set, leb, ltb, eqb, Ok}
use Rattle.octets.specs.Numbers.{Bytes, u32_at, little}
use Rattle.octets.specs.Characters.{characters}
use Rattle.octets.specs.Parts.{put}
use Rattle.format.specs.declared.Profile.{Profile}
use Rattle.format.specs.declared.Record.{Record}
use Rattle.format.specs.declared.Fault.TheVariants.{Place as PLACE, Unwritable as UNWRITABLE, Room as ROOM}
use Rattle.format.specs.Tests.{Outcome, got, refused, ◌else◌at◌, no_section, tests}
use Rattle.format.specs.Pieces.{text_length}
use Rattle.format.specs.Blocks.{blocks}
use Rattle.format.specs.Shortcut.{verdict_of}
use Rattle.format.specs.Bodies.{blocks_slot, placed}
use Rattle.format.specs.Contents.{Contents, body_in, contents}
use Rattle.format.specs.Demands.{Accepts, ReadsAs}
use Rattle.format.specs.Writing.{end_to_end, blocks_bytes, canonical, writable_text, writable, output_of}
use Rattle.format.specs.Verdicts.{Verdict, refused_at}

-- ---- the block

abbrev pub is_path : ℕ → Bool
is_path signature = eqb signature 0xA0000001 || eqb signature 0xA0000006 || eqb signature 0xA0000007

-- whole characters, none of them zero, fewer than 260: the terminator has its place too
abbrev pub path_text : Bool → List ℕ → Bool
path_text unicode x = writable_text unicode x && ltb (length (characters unicode x)) 260

-- zeros up to n bytes
abbrev pub padded : ℕ → List ℕ → List ℕ
padded n x = x ++ replicate (n - length x) 0

-- size, signature, 260 bytes for the byte text, 260 units for the Unicode text
unfoldable pub path_block : ℕ → List ℕ → List ℕ → List ℕ
path_block signature text unicode =
    end_to_end (little 4 788 ∷ little 4 signature ∷ padded 260 text ∷ padded 520 unicode ∷ [])

-- ---- the blocks of a body, one by one

-- parts of these lengths, end to end
abbrev pub parts_of : List ℕ → List ℕ → List (List ℕ)
parts_of [] s = []
parts_of (n ∷ ns) s = take n s ∷ parts_of ns (drop n s)

-- blocks that are refused are none
abbrev pub blocks_by : Outcome (List ℕ) → List ℕ → List (List ℕ)
blocks_by (got lengths n) s = parts_of lengths s
blocks_by (refused f p) s = []

-- as they are read with a terminal block after them
unfoldable pub blocks_in : List ℕ → List (List ℕ)
blocks_in x = blocks_by (blocks 0 (blocks_bytes x)) (blocks_bytes x)

abbrev pub signature_of : List ℕ → ℕ
signature_of b = u32_at b 4

-- b goes after those present; one of its signature is replaced where it stands
unfoldable pub with_block : List ℕ → List (List ℕ) → List (List ℕ)
with_block b [] = b ∷ []
with_block b (x ∷ xs) = cond (eqb (signature_of x) (signature_of b)) (b ∷ xs) (x ∷ with_block b xs)

-- the contents with it; all but the blocks stay as they are
unfoldable pub with_path : List ℕ → Contents → Contents
unfolding blocks_in with_block
with_path b c = record {
  header = c.header;
  link = c.link;
  bodies = set c.bodies blocks_slot (end_to_end (with_block b (blocks_in (body_in c blocks_slot))));
}

-- ---- the call: d is the body buffer. 10; 11 for another signature, a text, or contents unwritable before or after; 12

unfoldable pub path_writing : Profile → Record → List ℕ → ℕ → List ℕ → List ℕ → ℕ → Outcome (List ℕ)
unfolding placed contents canonical writable path_block with_path
path_writing profile r d signature text unicode room =
    let before = contents d r in
    let after = with_path (path_block signature text unicode) before in
    let w = canonical after in
    tests no_section
    (placed (length d) r else PLACE at 0
    ∷ is_path signature else UNWRITABLE at 0
    ∷ path_text false text else UNWRITABLE at 0
    ∷ path_text true unicode else UNWRITABLE at 0
    ∷ writable profile before else UNWRITABLE at 0
    ∷ writable profile after else UNWRITABLE at 0
    ∷ leb (length w) room else ROOM at 0
    ∷ [])
    (got w (length w))

-- the answer, and the output buffer afterwards; the room is the buffer's length
unfoldable pub path_answer : Profile → Record → List ℕ → ℕ → List ℕ → List ℕ → List ℕ → Verdict
unfolding path_writing
path_answer profile r d signature text unicode out = verdict_of (path_writing profile r d signature text unicode (length out))

unfoldable pub path_output : Profile → Record → List ℕ → ℕ → List ℕ → List ℕ → List ℕ → List ℕ
unfolding path_writing output_of
path_output profile r d signature text unicode out = output_of (path_writing profile r d signature text unicode (length out)) out

-- ---- the words in which the promises are put

-- the blocks that a record has over its body buffer
abbrev pub blocks_held : List ℕ → Record → List (List ℕ)
blocks_held d r = blocks_in (body_in (contents d r) blocks_slot)

-- those of other signatures
abbrev pub other_than : ℕ → List (List ℕ) → List (List ℕ)
other_than signature [] = []
other_than signature (x ∷ xs) = cond (eqb (signature_of x) signature) (other_than signature xs) (x ∷ other_than signature xs)

-- the two texts of a path block, up to their zeros
abbrev pub until_zero : Bool → List ℕ → List ℕ
until_zero unicode s = take (text_length unicode s) s

abbrev pub byte_text : List ℕ → List ℕ
byte_text b = until_zero false (take 260 (drop 8 b))

abbrev pub unicode_text : List ℕ → List ℕ
unicode_text b = until_zero true (take 520 (drop 268 b))

-- s is an accepted shortcut that reads as the record r over the body buffer d with the path block put in
pub record ReadsWith (profile : Profile) (s : List ℕ) (r : Record) (d : List ℕ) (signature : ℕ) (text unicode : List ℕ) : Type 0 where
  pub bytes : Bytes s
  pub held : Record
  pub accepted : Accepts profile s held
  pub same : contents s held ≡ with_path (path_block signature text unicode) (contents d r)

-- how a call may end: its answer, and the lent buffer afterwards
pub data PathEnds (profile : Profile) (r : Record) (d : List ℕ) (signature : ℕ) (text unicode out : List ℕ) : Verdict → List ℕ → Type 0 where
  -- a present body does not lie inside the body buffer
  misplaced : placed (length d) r ≡ false → PathEnds profile r d signature text unicode out (refused_at PLACE 0) out
  -- no such block, or no accepted shortcut reads as the record before, or none as the record after
  unwritable : placed (length d) r ≡ true
      → (is_path signature ≡ true → path_text false text ≡ true → path_text true unicode ≡ true → (s : List ℕ) → ReadsAs profile s r d → (t : List ℕ) → ReadsWith profile t r d signature text unicode → ⊥)
      → PathEnds profile r d signature text unicode out (refused_at UNWRITABLE 0) out
  -- some do, but none as short as the room
  no_room : (w : List ℕ) → placed (length d) r ≡ true → ReadsWith profile w r d signature text unicode → ((s : List ℕ) → ReadsWith profile s r d signature text unicode → length out < length s)
      → PathEnds profile r d signature text unicode out (refused_at ROOM 0) out
  -- else what is written reads as the record with the block, nothing that reads so is shorter, and the rest of the buffer is as it was
  written : (w : List ℕ) → placed (length d) r ≡ true → ReadsWith profile w r d signature text unicode → length w ≤ length out
      → ((s : List ℕ) → ReadsWith profile s r d signature text unicode → length w ≤ length s)
      → PathEnds profile r d signature text unicode out (Ok (length w)) (put out 0 w)
