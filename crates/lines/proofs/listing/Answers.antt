use native.Mathlib.Omega.{arith}
use Rattle.lines.specs.Steps.Pieces.{PiecesOf}
use Rattle.lines.specs.Text.{listing_text}
use Rattle.lines.proofs.Lengths.{length_listing}
use Rattle.lines.proofs.listing.Goals as goal

pub write_text-requires-clause-text : goal.write_text-requires-clause-text
unfolding PiecesOf
write_text-requires-clause-text c =
    (listing_text c.args.profile c.args.s.now, omega (arith, length_listing c.args.profile c.args.s.now), λ lent p out n left i e. rw (← i) (record { answer = e.1.0; output = e.1.1 }))
