-- The count stays.
use Rattle.moves.proofs.StringLaws.{put_counted}
use Rattle.moves.proofs.strings.put_string.Goals as goal

pub returns : goal.returns
returns c = put_counted c.args.unicode c.args.x.now c.characters_in-count.ensures c.put_u16.ensures c.put_translated.ensures
