-- Each string stands between the ends of two sections.
use Rattle.std.proofs.Common.{sym, ◌∙◌}
use Rattle.reader.proofs.WholeLaws.{laid, name_held, relative_held, icon_held, strings_put}
use Rattle.reader.proofs.outline.Outline.put_strings.Goals as goal

pub body_if-requires : goal.body_if-requires
body_if-requires c = rw (c.name_there.ensures, c.flags-flags.ensures) (laid c.args.self.now.whole).name

pub body_if-requires-2 : goal.body_if-requires-2
body_if-requires-2 c = rw (c.relative_there.ensures, c.flags-flags.ensures) (laid c.args.self.now.whole).relative

pub body_if-requires-3 : goal.body_if-requires-3
body_if-requires-3 c = rw (c.icon_there.ensures, c.flags-flags.ensures) (laid c.args.self.now.whole).icon

pub returns : goal.returns
returns c =
    let flags = c.flags-flags.ensures in
    let whole = c.args.self.now.whole in
    strings_put _ _
    c.put_place.ensures (c.body_if.ensures ∙ rw (c.name_there.ensures, flags) (sym (name_held whole)))
    c.put_place-2.ensures (c.body_if-2.ensures ∙ rw (c.relative_there.ensures, flags) (sym (relative_held whole)))
    c.put_place-3.ensures c.workdir.ensures
    c.put_place-4.ensures c.arguments.ensures
    c.put_place-5.ensures (c.body_if-3.ensures ∙ rw (c.icon_there.ensures, flags) (sym (icon_held whole)))
