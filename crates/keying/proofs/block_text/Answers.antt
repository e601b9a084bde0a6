-- The zero is sought from byte 8 of the block: the text ends before it, or with the block where there is none.
use Rattle.std.proofs.Common.{ℕ, ◌-◌, ap, ◌∙◌}
use Rattle.std.specs.Prelude.{Option, unwrap_or}
use Rattle.keying.proofs.Laws.{text_at}
use Rattle.keying.proofs.block_text.Goals as goal

pub returns : goal.returns
returns c =
    text_at _ _ c.requires.0 c.requires.1 c.part-block.ensures
    (c.unwrap_or.ensures ∙ ap (λ (o : Option ℕ). unwrap_or o (c.args.b.len - 8)) c.zero_from.ensures.is)
