-- The string stands between the ends of two sections.
use Rattle.std.proofs.Common.{sym, ◌∙◌}
use Rattle.reader.proofs.WholeLaws.{laid, workdir_held}
use Rattle.reader.proofs.outline.Outline.workdir.Goals as goal

pub body_if-requires : goal.body_if-requires
body_if-requires c = rw (c.workdir_there.ensures, c.flags.ensures) (laid c.args.self.now.whole).workdir

pub returns : goal.returns
returns c = c.body_if.ensures ∙ rw (c.workdir_there.ensures, c.flags.ensures) (sym (workdir_held c.args.self.now.whole))
