-- The pieces that a program writes are the text.
use mathlib.Core.Path.{◌≡◌, refl, sym, ap, ◌∙◌}
use mathlib.Core.List.{List, [], ◌++◌, append-nil}
use mathlib.Core.Bool.{Bool, true, false, cond}
use Prim.Native.Nat.{ℕ, zero, suc, ◌+◌, ◌-◌, ◌*◌, ◌≤◌, ◌<◌, min}
use native.Mathlib.Omega.{arith}
use native.Mathlib.Nat.{suc-mul}
use lib.ListN.{length, take, drop, length-take, length-drop, take-append-drop, drop_of_length-le}
use lib.Seq.{take_all, drop-drop}
use lib.Dec.{ltb}
use borrow.Author.Tests.{ltb-true}
use Rattle.octets.specs.Numbers.{Bytes}
use Rattle.octets.proofs.PartLaws.{length-put}
use Rattle.lines.specs.Text.{listing_text, key_text, piece}
use Rattle.lines.specs.Steps.Pieces.{text_of, PiecePut, pieces}
use Rattle.lines.proofs.Lengths.{length_listing, length_key_line}
use Rattle.format.specs.declared.Profile.{Profile}

length-piece : (t : List ℕ) (p room : ℕ) → length (piece t p room) ≡ min room (length t - p)
unfolding piece
length-piece t p room = length-take room (drop p t) ∙ ap (min room) (length-drop p t)

-- of a text shorter than eight buffers no piece leads past the eighth
pub piece_short : (t : List ℕ) (p room : ℕ) {n : ℕ} → length t < 8 * 65536 → n ≡ length (piece t p room) → p ≤ 8 * 65536 → p + n ≤ 8 * 65536
piece_short t p room l e h = omega (arith, length-piece t p room)

module _ {t : List ℕ} {p n : ℕ} {d x : List ℕ} (e : PiecePut t p d x n) where
  -- a piece ends inside the text
  pub piece_inside : p ≤ length t → p + n ≤ length t
  piece_inside h = omega (arith, e.answer, length-piece t p (length d))

  -- and inside the buffer
  pub piece_kept : length x ≡ length d
  piece_kept = rw e.output (length-put d 0 (piece t p (length d)) (omega (arith, length-piece t p (length d))))

  -- and fits it
  pub piece_fits : n ≤ length d
  piece_fits = omega (arith, e.answer, length-piece t p (length d))

  -- one that does not fill the buffer ends where the text does
  pub piece_last : p ≤ length t → n < length d → p + n ≡ length t
  piece_last h l = omega (arith, e.answer, length-piece t p (length d))

from_there : (k room : ℕ) (t : List ℕ) (p : ℕ) → length t < p + k * room → pieces k room t p ≡ drop p t
unfolding pieces piece
from_there zero room t p h = sym (drop_of_length-le t {i = p} (omega arith))
from_there (suc k) room t p h = go (ltb (length (take room (drop p t))) room) refl (from_there k room t (p + room) (omega (arith, suc-mul k room)))
  where
    go : (b : Bool) → ltb (length (take room (drop p t))) room ≡ b → pieces k room t (p + room) ≡ drop (p + room) t → take room (drop p t) ++ cond b [] (pieces k room t (p + room)) ≡ drop p t
    go true e r =
        let l : length (take room (drop p t)) < room = ltb-true _ _ e in
        append-nil (take room (drop p t)) ∙ take_all room (drop p t) (omega (arith, length-take room (drop p t)))
    go false e r = rw (r, ← (drop-drop room p t)) (take-append-drop room (drop p t))

-- no text is longer than eight pieces
pub length_text : (profile : Profile) (key : Bool) (s : List ℕ) → Bytes s → length (text_of profile key s) < 8 * 65536
unfolding text_of
length_text profile true s bs = omega (arith, length_key_line profile s bs)
length_text profile false s bs = length_listing profile s

-- what a program writes, put end to end
pub all_written : (profile : Profile) (key : Bool) (s : List ℕ) → Bytes s → pieces 8 65536 (text_of profile key s) 0 ≡ text_of profile key s
all_written profile key s bs = from_there 8 65536 (text_of profile key s) 0 (omega (arith, length_text profile key s bs))

-- the same of each text by its own name
pub listing_written : (profile : Profile) (s : List ℕ) → Bytes s → pieces 8 65536 (listing_text profile s) 0 ≡ listing_text profile s
unfolding text_of
listing_written profile s bs = all_written profile false s bs

pub key_written : (profile : Profile) (s : List ℕ) → Bytes s → pieces 8 65536 (key_text profile s) 0 ≡ key_text profile s
unfolding text_of
key_written profile s bs = all_written profile true s bs
