-- How long the texts can be: so few rows, each with a line so short.
use mathlib.Core.Path.{◌≡◌, refl, sym, ap, ◌∙◌}
use mathlib.Core.List.{List, [], ◌∷◌, ◌++◌}
use mathlib.Core.Bool.{Bool, true, false, cond, ◌&&◌}
use Prim.Native.Nat.{ℕ, zero, suc, ◌+◌, ◌*◌, ◌/◌, ◌%◌, ◌≤◌, ◌<◌}
use native.Mathlib.Omega.{arith}
use lib.ListN.{length, drop, get_or, length-append, length-drop}
use lib.Dec.{leb, ltb}
use borrow.Author.Tests.{leb-true}
use Rattle.octets.specs.Numbers.{Bytes}
use Rattle.format.specs.declared.Profile.{Profile}
use Rattle.format.specs.Numbers.{number_of}
use Rattle.format.specs.Tests.{Outcome, got, refused}
use Rattle.format.specs.Blocks.{slot_at, block_size, blocks_after}
use Rattle.format.specs.Shortcut.{Section, Sections, blocks_of, shortcut, reading, record_of}
use Rattle.format.specs.Key.{key_of, key_bytes, key_in}
use Rattle.format.specs.Listing.{Row, row, block_rows, rows_by, listing}
use Rattle.format.proofs.Bools.{and-true}
use Rattle.format.proofs.Chains.{no_value}
use Rattle.format.proofs.BlockLaws.{none_left, step_elim}
use Rattle.format.proofs.FoundLaws.{read_Walk}
use Rattle.format.proofs.AcceptedLaws.{shortcut-Whole}
use Rattle.format.proofs.KeyRoom.{key_short}
use Rattle.lines.specs.Text.{names, name_text, space, line_feed, digits, decimal, line_of, row_line, row_lines, verdict_line, listing_text, hex_of, key_line, key_text}
use Rattle.lines.proofs.KeyTexts.{got-Accepts}
use Rattle.format.specs.Verdicts.{Verdict, refused_at}
use Rattle.std.specs.Prelude.{Ok, Err}

-- ---- lines

length-digits : (k n : ℕ) → length (digits k n) ≤ k
length-digits zero n = omega arith
length-digits (suc k) n = go (ltb n 10) (length-digits k (n / 10))
  where
    go : (b : Bool) → length (digits k (n / 10)) ≤ k → length (cond b ((0x30 + n) ∷ []) (digits k (n / 10) ++ (0x30 + n % 10) ∷ [])) ≤ suc k
    go true h = omega arith
    go false h = omega (arith, length-append (digits k (n / 10)) ((0x30 + n % 10) ∷ []))

length-decimal : (n : ℕ) → length (decimal n) ≤ 20
unfolding decimal
length-decimal n = length-digits 20 n

all_short : List (List ℕ) → Bool
all_short [] = true
all_short (x ∷ xs) = leb (length x) 9 && all_short xs

short_name : (l : List (List ℕ)) → all_short l ≡ true → (k : ℕ) → length (get_or l k []) ≤ 9
unfolding all_short
short_name [] e k = omega arith
short_name (x ∷ xs) e zero = leb-true (length x) 9 (and-true (leb (length x) 9) (all_short xs) e).0
short_name (x ∷ xs) e (suc k) = short_name xs (and-true (leb (length x) 9) (all_short xs) e).1 k

length_row : (x : Row) → length (row_line x) ≤ 52
unfolding row_line line_of name_text all_short
length_row x =
    simp length-append (omega (arith, short_name names refl x.name, length-decimal x.start, length-decimal x.len))

length_rows : (xs : List Row) → length (row_lines xs) ≤ 52 * length xs
unfolding row_lines
length_rows [] = omega arith
length_rows (x ∷ xs) = omega (arith, length-append (row_line x) (row_lines xs), length_row x, length_rows xs)

pub length_verdict : (v : Verdict) → length (verdict_line v) ≤ 50
unfolding verdict_line
length_verdict (Ok n) = omega (arith, length-append (decimal n) line_feed, length-decimal n)
length_verdict (Err r) =
    omega (
      arith,
      length-append (decimal (number_of r.fault)) (space ++ (decimal r.position ++ line_feed)),
      length-append (decimal r.position) line_feed,
      length-decimal (number_of r.fault),
      length-decimal r.position,
    )

-- ---- rows

one-row : {A : Type 0} (k : ℕ) (c : Section A) → length (row k c) ≤ 1
one-row k c = go c.there
  where
    go : (b : Bool) → length {A = Row} (cond b (record { name = k; start = c.start; len = c.len } ∷ []) []) ≤ 1
    go true = omega arith
    go false = omega arith

block_rows_lem : (p : ℕ) (ls : List ℕ) → length (block_rows p ls) ≡ suc (length ls)
block_rows_lem p [] = refl
block_rows_lem p (n ∷ ns) = ap suc (block_rows_lem (p + n) ns)

-- a block has eight bytes or more
many : (k : ℕ) (before : List ℕ) (p : ℕ) (s ls : List ℕ) (n : ℕ) → length s ≤ k → blocks_after before p s ≡ got ls n → 8 * length ls ≤ length s
many zero before p s ls n l e = no_value (sym (none_left before p s (omega arith)) ∙ e)
many (suc k) before p s ls n l e =
    step_elim before p s (λ ls n. 8 * length ls ≤ length s) (λ h t. omega arith)
    (λ c o ls m i.
    let b = leb-true 8 (block_size s) c.0 in
    let w = leb-true (block_size s) (length s) c.1.0 in
    omega (arith, length-drop (block_size s) s, many k (slot_at s ∷ before) (p + block_size s) (drop (block_size s) s) ls m (omega (arith, length-drop (block_size s) s)) i))
    ls n e

few_rows : (profile : Profile) (s : List ℕ) → length (listing profile s) ≤ 8201
unfolding listing
few_rows profile s = go (shortcut profile s) refl
  where
    go : (o : Outcome Sections) → shortcut profile s ≡ o → length (rows_by o) ≤ 8201
    go (refused f p) i = omega arith
    go (got c n) i =
        let w = shortcut-Whole profile s c n i in
        let b = blocks_of c in
        let m = many (length (drop b.start s)) [] b.start (drop b.start s) b.read b.len (omega arith) (read_Walk profile s c n w.read) in
        simp length-append
        (omega (
          arith,
          w.limit,
          length-drop b.start s,
          m,
          block_rows_lem b.start b.read,
          one-row 0 c.0,
          one-row 1 c.1.0,
          one-row 2 c.1.1.0,
          one-row 3 c.1.1.1.0,
          one-row 4 c.1.1.1.1.0,
          one-row 5 c.1.1.1.1.1.0,
          one-row 6 c.1.1.1.1.1.1.0,
          one-row 7 c.1.1.1.1.1.1.1.0,
        ))

-- ---- texts

pub length_listing : (profile : Profile) (s : List ℕ) → length (listing_text profile s) < 8 * 65536
unfolding listing_text
length_listing profile s = omega (arith, length-append (verdict_line (reading profile s).verdict) (row_lines (listing profile s)), length_verdict (reading profile s).verdict, length_rows (listing profile s), few_rows profile s)

length_hex : (l : List ℕ) → length (hex_of l) ≡ 2 * length l
unfolding hex_of
length_hex [] = refl
length_hex (a ∷ l) = omega (arith, length_hex l)

got_key : (profile : Profile) (s : List ℕ) (c : Sections) (n : ℕ) → shortcut profile s ≡ got c n → key_in profile s ≡ key_of s c
unfolding key_in
got_key profile s c n i = rw i

pub length_key_line : (profile : Profile) (s : List ℕ) → Bytes s → length (key_text profile s) < 3 * 65536
unfolding key_text
length_key_line profile s bs = go (shortcut profile s) refl
  where
    go : (o : Outcome Sections) → shortcut profile s ≡ o → length (key_line s o) < 3 * 65536
    go (refused f p) i = omega (arith, length_verdict (refused_at f p.position))
    go (got c n) i =
        let w = key_bytes (key_of s c) in
        let k : length w ≤ length s = rw (got_key profile s c n i) at (key_short profile s (record_of c) bs (got-Accepts profile s c n i)) in
        omega (arith, (shortcut-Whole profile s c n i).limit, length-append (hex_of w) line_feed, length_hex w)
