-- The lines of the blocks, from one on.
use mathlib.Core.Path.{◌≡◌, sym, ◌∙◌}
use mathlib.Core.List.{List, ◌∷◌, append-nil}
use Prim.Native.Nat.{ℕ, ◌+◌, ◌<◌}
use native.Mathlib.Omega.{arith}
use lib.ListN.{length, drop, length-drop}
use lib.Seq.{drop-drop}
use Rattle.format.specs.declared.Fault.{Fault}
use Rattle.format.specs.Tests.{got, refused, spot_at}
use Rattle.format.specs.Blocks.{slot_at, block_size, a_terminal, block_step}
use Rattle.format.specs.Listing.{block_rows}
use Rattle.format.proofs.Chains.{got_elim, no_value}
use Rattle.format.proofs.BlockLaws.{none_left, step_elim}
use Rattle.blocks.specs.Steps.Walk.{Sized, step_site}
use Rattle.blocks.proofs.WalkLaws.{walk_ended, walk_refused}
use Rattle.lines.specs.declared.window.Window.{Window}
use Rattle.lines.specs.Text.{name_text, line_of, row_line, row_lines}
use Rattle.lines.specs.Steps.Windows.{Showed, BlocksShowed}
use Rattle.lines.proofs.WindowLaws.{Showed-join, Showed-as}

module _ (s : List ℕ) (p : ℕ) (w r : Window) where
  pub blocks_outside : length s < p → BlocksShowed s p w r
  unfolding BlocksShowed
  blocks_outside h before ls n e = no_value (sym (none_left before p (drop p s) (omega (arith, length-drop p s))) ∙ e)

  pub blocks_refused : {f : Fault} → ((q : ℕ) → block_step q (drop p s) ≡ refused f (spot_at (step_site q (length (drop p s))) 0)) → BlocksShowed s p w r
  unfolding BlocksShowed
  blocks_refused h before ls n e = no_value (sym (walk_refused before (drop p s) p (h p)) ∙ e)

  pub blocks_ended : ((q : ℕ) → block_step q (drop p s) ≡ got a_terminal 4) → Showed w (line_of (name_text 9) p 4) r → BlocksShowed s p w r
  unfolding BlocksShowed row_lines row_line
  blocks_ended h o before ls n e =
      got_elim (λ ls n. Showed w (row_lines (block_rows p ls)) r) (sym (walk_ended before (drop p s) p (h p)) ∙ e) (Showed-as o (sym (append-nil (line_of (name_text 9) p 4))))

-- a block first, then the others
pub blocks_next : (s : List ℕ) (p : ℕ) {n j : ℕ} → Sized (drop p s) n j → (w : Window) {q : Window} → Showed w (line_of (name_text 8) p n) q
    → (r : Window) → BlocksShowed s (p + n) q r → BlocksShowed s p w r
unfolding BlocksShowed row_lines row_line
blocks_next s p {n} z w o r rest before =
    step_elim before p (drop p s) (λ ls m. Showed w (row_lines (block_rows p ls)) r) (λ l t. absurd (omega (arith, z.size, z.least)))
    (λ c once ls m i. rw (← z.size) (Showed-join o (rest (slot_at (drop p s) ∷ before) ls m (rw z.size (rw (drop-drop (block_size (drop p s)) p s) at i)))))
