-- Each presence by its flag bit.
use Rattle.blinding.proofs.could_name.Goals as goal

pub returns : goal.returns
returns c = rw (c.items_there.ensures, c.relative_there.ensures, c.info_there.ensures)
