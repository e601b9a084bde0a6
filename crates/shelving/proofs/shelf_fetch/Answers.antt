-- The place that is answered lies in the shelf.
use Rattle.shelving.proofs.CallLaws.{entry_place}
use Rattle.shelving.proofs.shelf_fetch.Goals as goal

pub returns : goal.returns
returns c = entry_place c.args.s.now c.args.k c.shelf_entry.ensures.answer c.unwrap_or-b.ensures c.part.ensures
