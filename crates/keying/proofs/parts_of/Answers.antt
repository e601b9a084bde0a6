-- The shortcut is accepted, so each text that its record names stands in it, and the first row of the table gives the environment's block.
use Rattle.reader.proofs.OutlineLaws.{accepted}
use Rattle.keying.proofs.Laws.{row_block, parts_are}
use Rattle.keying.proofs.parts_of.Goals as goal

pub environment-requires : goal.environment-requires
environment-requires c = let L = row_block _ _ _ (accepted c.args.o.now.whole) c.requires in record { at = L.block; long = L.there }

pub returns : goal.returns
returns c =
    let whole = c.args.o.now.whole in
    let both = parts_are _ _ _ (accepted whole) c.flags-f.ensures c.strings_unicode.ensures c.target_part.ensures
    c.arguments_there.ensures c.arguments.ensures c.then_some.ensures
    c.workdir_there.ensures c.workdir.ensures c.then_some-2.ensures
    c.requires c.environment.ensures in record { shown = both.0; stands = both.1 }
