-- The lines of a shortcut by its outline: the listing from what the code shows.
use mathlib.Core.Path.{◌≡◌, refl, sym, ◌∙◌}
use mathlib.Core.List.{List, [], ◌∷◌, ◌++◌, append_assoc, append-nil}
use mathlib.Core.Bool.{Bool, true, false}
use Prim.Native.Nat.{ℕ, ◌-◌}
use lib.ListN.{length}
use Rattle.format.specs.declared.Profile.{Profile}
use Rattle.format.specs.declared.Refusal.{Refusal}
use Rattle.format.specs.Shortcut.{reading}
use Rattle.format.specs.Listing.{Row, row, block_rows, listing}
use Rattle.reader.specs.declared.SectionEnds.{SectionEnds}
use Rattle.reader.specs.Steps.Finish.{outline, next_verdict}
use Rattle.reader.proofs.Found.{section_of}
use Rattle.reader.proofs.OutlineLaws.{verdict_held}
use Rattle.shown.proofs.Laws.{AllRows, no_rows}
use Rattle.lines.specs.Text.{name_text, line_of, row_line, row_lines, verdict_line, listing_text}
use Rattle.lines.specs.declared.window.Window.{Window}
use Rattle.lines.specs.Steps.Windows.{line_if, section_lines, Showed, BlocksShowed}
use Rattle.format.specs.Verdicts.{Verdict}
use Rattle.std.specs.Prelude.{Result, Err}

rows_append : (xs ys : List Row) → row_lines (xs ++ ys) ≡ row_lines xs ++ row_lines ys
unfolding row_lines
rows_append [] ys = refl
rows_append (x ∷ xs) ys = rw (rows_append xs ys) (sym (append_assoc (row_line x) (row_lines xs) (row_lines ys)))

rows_first : (x : Row) (xs : List Row) → row_lines (x ∷ xs) ≡ row_line x ++ row_lines xs
unfolding row_lines
rows_first x xs = refl

row_line_lem : {A : Type 0} (k : ℕ) (b : Bool) (p e : ℕ) (a : A) → row_lines (row k (section_of b p e a)) ≡ line_if b (name_text k) p e
unfolding row_lines row_line line_if
row_line_lem k true p e a = append-nil (line_of (name_text k) p (e - p))
row_line_lem k false p e a = refl

header_line : row_line (record { name = 0; start = 0; len = 76 }) ≡ line_of (name_text 0) 0 76
unfolding row_line
header_line = refl

outlined_lines : {profile : Profile} {s : List ℕ} {f : ℕ} {e : SectionEnds} (R : AllRows profile s f e) → row_lines (listing profile s) ≡ section_lines f e ++ row_lines (block_rows e.icon R.lengths)
unfolding section_lines
outlined_lines R = rw R.rows (simp (rows_first, rows_append, row_line_lem, header_line, append_assoc))

-- the blocks of an accepted shortcut are read, so their rows were shown
pub rows_shown : {profile : Profile} {s : List ℕ} {f : ℕ} {e : SectionEnds} {w r : Window} → BlocksShowed s e.icon w r → (R : AllRows profile s f e) → Showed w (row_lines (block_rows e.icon R.lengths)) r
unfolding BlocksShowed
rows_shown h R = h [] R.lengths R.count R.is

module _ (profile : Profile) (s : List ℕ) {o : Result SectionEnds Refusal} (is : o ≡ outline profile s) {v : Verdict} (told : v ≡ next_verdict (length s) o) where
  -- an accepted shortcut
  pub accepted_listing : {f : ℕ} {e : SectionEnds} (R : AllRows profile s f e)
      → (verdict_line v ++ section_lines f e) ++ row_lines (block_rows e.icon R.lengths) ≡ listing_text profile s
  unfolding listing_text
  accepted_listing {f} {e} R =
      append_assoc (verdict_line v) (section_lines f e) (row_lines (block_rows e.icon R.lengths))
      ∙ rw (verdict_held profile s is told, outlined_lines R)

  -- a refused one
  pub refused_listing : {r : Refusal} → o ≡ Err r → verdict_line v ≡ listing_text profile s
  unfolding listing_text row_lines
  refused_listing k = rw (verdict_held profile s is told, no_rows profile s (sym k ∙ is)) (sym (append-nil (verdict_line (reading profile s).verdict)))
