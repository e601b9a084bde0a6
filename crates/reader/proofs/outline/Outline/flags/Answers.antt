-- An accepted shortcut has a header, and its record the header's flags.
use Rattle.std.proofs.Common.{arith, sym, ◌∙◌}
use Rattle.reader.proofs.WholeLaws.{laid, flags_held}
use Rattle.reader.proofs.outline.Outline.flags.Goals as goal

pub u32_at-requires : goal.u32_at-requires
u32_at-requires c = omega (arith, (laid c.args.self.now.whole).long)

pub returns : goal.returns
returns c = c.u32_at.ensures ∙ sym (flags_held c.args.self.now.whole)
