-- The string stands between the ends of two sections.
use Rattle.std.proofs.Common.{sym, ◌∙◌}
use Rattle.reader.proofs.WholeLaws.{laid, arguments_held}
use Rattle.reader.proofs.outline.Outline.arguments.Goals as goal

pub body_if-requires : goal.body_if-requires
body_if-requires c = rw (c.arguments_there.ensures, c.flags.ensures) (laid c.args.self.now.whole).arguments

pub returns : goal.returns
returns c = c.body_if.ensures ∙ rw (c.arguments_there.ensures, c.flags.ensures) (sym (arguments_held c.args.self.now.whole))
