-- The scan has found a zero, or all whole characters are the text.
use Rattle.std.proofs.Common.{ℕ, ◌+◌, ◌/◌, length, ap, ◌∙◌}
use Rattle.std.specs.Prelude.{Option, unwrap_or}
use Rattle.blinding.proofs.TextLaws.{text_told}
use Rattle.blinding.proofs.text_length.Goals as goal

pub returns : goal.returns
returns c = text_told c.args.unicode c.args.s.now (ap (λ (k : ℕ). 1 + k) c.from-width.ensures) (c.unwrap_or.ensures ∙ ap (λ (o : Option ℕ). unwrap_or o (length c.args.s.now / (1 + c.from-width.result))) c.zero_from.ensures.is)
