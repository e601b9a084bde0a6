use Rattle.target.proofs.targeted.Goals as goal

pub returns : goal.returns
returns c = rw (c.bit.ensures, c.info_there.ensures, c.local_there.ensures, c.network_there.ensures)
