-- The pieces that a program writes one after another.
use Rattle.std.specs.Prelude.{ℕ, zero, suc, ◌+◌, ◌≡◌, List, [], ◌++◌, Bool, cond, length, ltb}
use Rattle.std.specs.Borrow.{Bor, MutBor}
use Rattle.octets.specs.Parts.{put}
use Rattle.lines.specs.Text.{listing_text, key_text, piece}
use Rattle.format.specs.declared.Profile.{Profile}

-- the key's line, or the listing
unfoldable pub text_of : Profile → Bool → List ℕ → List ℕ
text_of profile key s = cond key (key_text profile s) (listing_text profile s)

-- as much of the text from the place p on as has room was put to the start of the buffer d, which made it x; n is how many bytes
pub record PiecePut (text : List ℕ) (p : ℕ) (d x : List ℕ) (n : ℕ) : Type 0 where
  pub answer : n ≡ length (piece text p (length d))
  pub output : x ≡ put d 0 (piece text p (length d))

-- what the calls answer by `post`, for the input s, are pieces of the one text
unfoldable pub PiecesOf : (Bor (List ℕ) → ℕ → MutBor (List ℕ) → Profile → ℕ → MutBor (List ℕ) → Type 0) → List ℕ → Profile → List ℕ → Type 0
PiecesOf post s profile text = (lent : Bor (List ℕ)) (p : ℕ) (out : MutBor (List ℕ)) (n : ℕ) (left : MutBor (List ℕ)) → lent.now ≡ s → post lent p out profile n left → PiecePut text p out.now left.now n

-- from the place p on, at most k of them; the first that does not fill the room is the last
unfoldable pub pieces : ℕ → ℕ → List ℕ → ℕ → List ℕ
pieces zero room text p = []
pieces (suc k) room text p = piece text p room ++ cond (ltb (length (piece text p room)) room) [] (pieces k room text (p + room))
