-- A long head that passed its tests lies inside, so its fields are there.
use mathlib.Core.Path.{refl}
use Rattle.info.proofs.PutLaws.{local_unicode_said, suffix_unicode_said, further_said, long_put}
use Rattle.info.proofs.RightInfo.put_long.Goals as goal

pub returns : goal.returns
returns c =
    long_put _ _ _ c.args.self.right _ (local_unicode_said _ _ _ c.args.self.right c.requires.0 c.requires.1.0 c.requires.1.1.0 refl c.text.ensures) (suffix_unicode_said _ _ _ c.args.self.right c.requires.0 c.requires.1.0 refl c.text-2.ensures)
    (further_said _ _ _ c.args.self.right c.requires.0 c.requires.1.0) c.put_place.ensures c.put_place-2.ensures c.put_place-3.ensures
