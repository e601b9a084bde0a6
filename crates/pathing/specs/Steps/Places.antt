-- Where a path block goes in a body of blocks, and its tests in one.
use Rattle.std.specs.Prelude.{ℕ, ◌+◌, ◌≤◌, ◌≡◌, List, [], ◌∷◌, Bool, true, false, ◌&&◌, cond, length, eqb}
use Rattle.format.specs.Writing.{writable_blocks}
use Rattle.format.specs.PathWriting.{is_path, path_text, blocks_in, signature_of}

-- where the first block of this signature starts, of blocks end to end; their end where there is none
abbrev pub place_among : ℕ → List (List ℕ) → ℕ
place_among signature [] = 0
place_among signature (b ∷ bs) = cond (eqb (signature_of b) signature) 0 (length b + place_among signature bs)

-- in a body
unfoldable pub block_place : ℕ → List ℕ → ℕ
block_place signature x = place_among signature (blocks_in x)

-- a place in a body; where the body can be written, that one
pub record Found (signature : ℕ) (x : List ℕ) (at : ℕ) : Type 0 where
  pub inside : at ≤ length x
  pub place : writable_blocks x ≡ true → at ≡ block_place signature x

unfoldable pub path_fits : ℕ → List ℕ → List ℕ → Bool
path_fits signature text unicode = is_path signature && path_text false text && path_text true unicode
