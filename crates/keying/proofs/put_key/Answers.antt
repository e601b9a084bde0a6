-- The key's parts stand one after another, so what was put is their bytes end to end.
use Rattle.keying.proofs.Laws.{key_put}
use Rattle.keying.proofs.put_key.Goals as goal

pub returns : goal.returns
returns c = key_put _ _ (rw c.one_or_0.ensures at c.put_u8.ensures) c.put_target.ensures c.put_body.ensures c.put_body-2.ensures c.put_body-3.ensures
