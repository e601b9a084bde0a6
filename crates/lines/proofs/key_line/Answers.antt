use native.Mathlib.Omega.{arith}
use Rattle.octets.specs.Numbers.{Bytes}
use Rattle.lines.specs.Steps.Pieces.{PiecesOf}
use Rattle.lines.specs.Text.{key_text}
use Rattle.lines.proofs.Lengths.{length_key_line}
use Rattle.lines.proofs.key_line.Goals as goal

pub write_text-requires-clause-text : goal.write_text-requires-clause-text
unfolding PiecesOf
write_text-requires-clause-text c =
    let bytes : Bytes c.args.s.now = record { at = λ i. omega (arith, c.type_inv.s i) } in
    (key_text c.args.profile c.args.s.now, omega (arith, length_key_line c.args.profile c.args.s.now bytes), λ lent p out n left i e. rw (← i) (record { answer = e.1.0; output = e.1.1 }))
