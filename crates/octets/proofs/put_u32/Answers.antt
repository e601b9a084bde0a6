use mathlib.Core.Path.{ap, ◌∙◌}
use Rattle.octets.specs.Parts.{put}
use Rattle.octets.proofs.ReadLaws.{parted}
use Rattle.octets.proofs.put_u32.Goals as goal

pub returns : goal.returns
returns c = c.put_array.ensures ∙ ap (put _ _) (c.to_le_bytes.ensures ∙ parted 4 _)
