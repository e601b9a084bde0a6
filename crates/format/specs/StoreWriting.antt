-- FORMAT: Store writing. The store that a list of rows makes, and when the writer gives up.
use Rattle.std.specs.Prelude.{ℕ, zero, suc, ◌+◌, ◌/◌, ◌%◌, ◌≤◌, ◌<◌, ◌≡◌, List, [], ◌∷◌, ◌++◌, map, Bool, true, false, ◌&&◌, cond, length, get_or, leb, ltb, eqb, Ok}
use Rattle.octets.specs.Numbers.{Bytes, little}
use Rattle.octets.specs.Parts.{put}
use Rattle.format.specs.declared.Place.{Place}
use Rattle.format.specs.declared.Fault.TheVariants.{Place as PLACE, Unwritable as UNWRITABLE, Room as ROOM}
use Rattle.format.specs.Tests.{Outcome, got, ◌else◌at◌, no_section, tests, all, place}
use Rattle.format.specs.declared.StoreRow.{StoreRow}
use Rattle.format.specs.Store.{is_named, store_tests}
use Rattle.format.specs.Shortcut.{verdict_of}
use Rattle.format.specs.Bodies.{all_inside}
use Rattle.format.specs.Contents.{bytes_at}
use Rattle.format.specs.Writing.{output_of}
use Rattle.format.specs.StoreList.{store_rows}
use Rattle.format.specs.Verdicts.{Verdict, refused_at}

-- ---- what a row says: its bytes in its places' stead. Numbers that it does not use count for nothing

pub data Entry : Type 0 where
  storage : List ℕ → Entry
  by_number : ℕ → List ℕ → Entry
  by_name : List ℕ → List ℕ → Entry
  unknown : Entry

-- d is the body buffer
abbrev pub entry_of : List ℕ → StoreRow → Entry
entry_of d r =
    cond (eqb r.kind 0) (storage (bytes_at d r.raw))
    (cond (eqb r.kind 1) (by_number r.number (bytes_at d r.raw))
    (cond (eqb r.kind 2) (by_name (bytes_at d r.name) (bytes_at d r.raw))
    unknown))

-- two lists are the same where their entries are
unfoldable pub entries : List ℕ → List StoreRow → List Entry
entries d rs = map (entry_of d) rs

-- the places that it uses
abbrev pub places_used : StoreRow → List Place
places_used r =
    cond (eqb r.kind 0) (r.raw ∷ [])
    (cond (eqb r.kind 1) (r.raw ∷ [])
    (cond (eqb r.kind 2) (r.name ∷ r.raw ∷ [])
    []))

abbrev pub rows_placed : ℕ → List StoreRow → Bool
rows_placed n [] = true
rows_placed n (r ∷ rs) = all_inside n (places_used r) && rows_placed n rs

-- ---- its bytes

-- a size of four bytes that counts itself
abbrev pub sized : List ℕ → List ℕ
sized x = little 4 (4 + length x) ++ x

-- number or name length, a zero byte, the name, the raw bytes
abbrev pub value_bytes : Entry → List ℕ
value_bytes (by_number n raw) = sized (little 4 n ++ (0 ∷ raw))
value_bytes (by_name name raw) = sized (little 4 (length name) ++ (0 ∷ (name ++ raw)))
-- no values
value_bytes (storage identifier) = []
value_bytes unknown = []

-- the values up to the next storage, and the zero size that ends them
unfoldable pub values_bytes : List Entry → List ℕ
values_bytes [] = little 4 0
values_bytes (storage identifier ∷ es) = little 4 0
values_bytes (by_number n raw ∷ es) = value_bytes (by_number n raw) ++ values_bytes es
values_bytes (by_name name raw ∷ es) = value_bytes (by_name name raw) ++ values_bytes es
values_bytes (unknown ∷ es) = values_bytes es

-- version, format identifier, values
abbrev pub storage_bytes : List ℕ → List ℕ → List ℕ
storage_bytes identifier values = sized (little 4 0x53505331 ++ (identifier ++ values))

-- each storage with the values that follow it, and the zero size that ends the store
unfoldable pub store_bytes : List Entry → List ℕ
unfolding values_bytes
store_bytes [] = little 4 0
store_bytes (storage identifier ∷ es) = storage_bytes identifier (values_bytes es) ++ store_bytes es
store_bytes (by_number n raw ∷ es) = store_bytes es
store_bytes (by_name name raw ∷ es) = store_bytes es
store_bytes (unknown ∷ es) = store_bytes es

-- ---- when the writer gives up

-- the kind of a storage's values, by its format
abbrev pub kind_under : List ℕ → ℕ
kind_under identifier = cond (is_named identifier) 2 1

-- k is the kind of the values that may stand here, 0 before the first storage.
-- An identifier has 16 bytes, and a number fits in four
abbrev pub entry_fits : ℕ → Entry → Bool
entry_fits k (storage identifier) = eqb (length identifier) 16
entry_fits k (by_number n raw) = eqb k 1 && ltb n 4294967296
entry_fits k (by_name name raw) = eqb k 2
entry_fits k unknown = false

abbrev pub kind_after : ℕ → Entry → ℕ
kind_after k (storage identifier) = kind_under identifier
kind_after k (by_number n raw) = k
kind_after k (by_name name raw) = k
kind_after k unknown = k

unfoldable pub entries_fit : ℕ → List Entry → Bool
unfolding is_named
entries_fit k [] = true
entries_fit k (e ∷ es) = entry_fits k e && entries_fit (kind_after k e) es

-- the longest store: a shortcut of 65,536 bytes has it in its only block, after a header without sections
abbrev pub most_store : ℕ
most_store = 65448

unfoldable pub writable_store : List Entry → Bool
unfolding entries_fit store_bytes
writable_store es = entries_fit 0 es && leb (length (store_bytes es)) most_store

-- ---- the call: six numbers a row. 10 over the whole rows; 11 for numbers left over too; 12

-- the row whose numbers stand from i on
abbrev pub row_at : List ℕ → ℕ → StoreRow
row_at ns i = record {
  kind = get_or ns i 0;
  number = get_or ns (i + 1) 0;
  name = place (get_or ns (i + 2) 0) (get_or ns (i + 3) 0);
  raw = place (get_or ns (i + 4) 0) (get_or ns (i + 5) 0);
}

-- as many rows from there on
abbrev pub rows_at : List ℕ → ℕ → ℕ → List StoreRow
rows_at ns i zero = []
rows_at ns i (suc k) = row_at ns i ∷ rows_at ns (i + 6) k

unfoldable pub rows_from : List ℕ → List StoreRow
rows_from ns = rows_at ns 0 (length ns / 6)

unfoldable pub store_writing : List ℕ → List ℕ → ℕ → Outcome (List ℕ)
unfolding entries rows_from writable_store store_bytes
store_writing ns d room =
    let es = entries d (rows_from ns) in
    let w = store_bytes es in
    tests no_section
    (rows_placed (length d) (rows_from ns) else PLACE at 0
    ∷ (eqb (length ns % 6) 0 && writable_store es) else UNWRITABLE at 0
    ∷ leb (length w) room else ROOM at 0
    ∷ [])
    (got w (length w))

-- the answer, and the output buffer afterwards; the room is the buffer's length
unfoldable pub store_write_answer : List ℕ → List ℕ → List ℕ → Verdict
unfolding store_writing
store_write_answer ns d out = verdict_of (store_writing ns d (length out))

unfoldable pub store_write_output : List ℕ → List ℕ → List ℕ → List ℕ
unfolding store_writing output_of
store_write_output ns d out = output_of (store_writing ns d (length out)) out

-- ---- the words in which the promises are put

-- l is a store, no longer than the longest, that reads as these entries
pub record ReadsAsStore (l : List ℕ) (es : List Entry) : Type 0 where
  pub bytes : Bytes l
  pub small : length l ≤ most_store
  pub right : all (store_tests 0 l) ≡ true
  pub same : entries l (store_rows 0 l) ≡ es

-- a block around a store
unfoldable pub store_block : List ℕ → List ℕ
store_block l = little 4 (8 + length l) ++ (little 4 0xA0000009 ++ l)

-- l is such a store for these numbers over the body buffer d: a list is whole rows
pub record StoreFor (l ns d : List ℕ) : Type 0 where
  pub whole : length ns % 6 ≡ 0
  pub reads : ReadsAsStore l (entries d (rows_from ns))

-- how a call may end that writes these rows over the body buffer d into the lent buffer out: its answer, and that buffer afterwards
pub data StoreEnds (ns d out : List ℕ) : Verdict → List ℕ → Type 0 where
  -- a used place does not lie inside the body buffer
  misplaced : rows_placed (length d) (rows_from ns) ≡ false → StoreEnds ns d out (refused_at PLACE 0) out
  -- none of the stores that a shortcut can hold reads as the list
  unwritable : rows_placed (length d) (rows_from ns) ≡ true → ((l : List ℕ) → StoreFor l ns d → ⊥) → StoreEnds ns d out (refused_at UNWRITABLE 0) out
  -- one does, and no other, but it is longer than the room
  no_room : (w : List ℕ) → rows_placed (length d) (rows_from ns) ≡ true → StoreFor w ns d → ((l : List ℕ) → StoreFor l ns d → l ≡ w) → length out < length w
      → StoreEnds ns d out (refused_at ROOM 0) out
  -- else that one is written, and the rest of the buffer is as it was
  written : (w : List ℕ) → rows_placed (length d) (rows_from ns) ≡ true → StoreFor w ns d → ((l : List ℕ) → StoreFor l ns d → l ≡ w) → length w ≤ length out
      → StoreEnds ns d out (Ok (length w)) (put out 0 w)
