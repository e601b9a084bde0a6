-- The place that is answered lies in the shelf.
use Rattle.shelving.proofs.CallLaws.{one_place}
use Rattle.shelving.proofs.shelf_fetch_one.Goals as goal

pub returns : goal.returns
returns c = one_place c.args.s.now c.args.k c.shelf_one.ensures.answer c.unwrap_or-b.ensures c.part.ensures
