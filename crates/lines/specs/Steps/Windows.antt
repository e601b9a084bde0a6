-- A text shown through a window, part after part.
use Rattle.std.specs.Prelude.{ℕ, ◌-◌, ◌≡◌, List, [], ◌++◌, Bool, cond, length, take, drop}
use Rattle.copies.specs.declared.output.Output.{Output}
use Rattle.copies.specs.Steps.Writes.{Writes}
use Rattle.format.specs.Tests.{got}
use Rattle.format.specs.Presence.{items_there, info_there, name_bit, relative_bit, workdir_bit, arguments_bit, icon_bit, string_there}
use Rattle.format.specs.Blocks.{blocks_after}
use Rattle.format.specs.Listing.{block_rows}
use Rattle.reader.specs.declared.SectionEnds.{SectionEnds}
use Rattle.lines.specs.declared.window.Window.{Window}
use Rattle.lines.specs.Text.{name_text, line_of, row_lines}

-- what a window shows of the text t: `skip` bytes of it are passed over, and no more is put than has room
abbrev pub shown : Window → List ℕ → List ℕ
shown w t = take (length w.out.now - w.at) (drop w.skip t)

-- the buffer, and how far it is filled
abbrev pub output : Window → Output
output w = record { out = w.out; at = w.at }

-- the text t was shown, which made the window w the window r
pub record Showed (w : Window) (t : List ℕ) (r : Window) : Type 0 where
  pub wrote : Writes (output w) (output r) (shown w t) (length (shown w t))
  pub skip : r.skip ≡ w.skip - length t

-- ---- the lines by the outline

-- a section that is there, from p to e
unfoldable pub line_if : Bool → List ℕ → ℕ → ℕ → List ℕ
line_if there name p e = cond there (line_of name p (e - p)) []

unfoldable pub section_lines : ℕ → SectionEnds → List ℕ
section_lines f e =
    line_of (name_text 0) 0 76
    ++ (line_if (items_there f) (name_text 1) 76 e.items
    ++ (line_if (info_there f) (name_text 2) e.items e.info
    ++ (line_if (string_there name_bit f) (name_text 3) e.info e.name
    ++ (line_if (string_there relative_bit f) (name_text 4) e.name e.relative
    ++ (line_if (string_there workdir_bit f) (name_text 5) e.relative e.workdir
    ++ (line_if (string_there arguments_bit f) (name_text 6) e.workdir e.arguments
    ++ line_if (string_there icon_bit f) (name_text 7) e.arguments e.icon))))))

-- where the blocks from p on are read, whatever stands before them, their rows were shown
unfoldable pub BlocksShowed : List ℕ → ℕ → Window → Window → Type 0
BlocksShowed s p w r = (before lengths : List ℕ) (n : ℕ) → blocks_after before p (drop p s) ≡ got lengths n → Showed w (row_lines (block_rows p lengths)) r
