-- The suffix is always there, and the row has its length.
use mathlib.Core.Path.{refl}
use Rattle.info.proofs.PutLaws.{suffix_said}
use Rattle.info.proofs.RightInfo.suffix_text.Goals as goal

pub returns : goal.returns
returns c =
    suffix_said _ _ _ c.args.self.right refl c.text.ensures
