use mathlib.Core.Path.{◌∙◌}
use Rattle.octets.proofs.ReadLaws.{joined}
use Rattle.octets.proofs.u64_at.Goals as goal

pub returns : goal.returns
returns c = c.from_le_bytes.ensures ∙ joined 7 _ _ c.bytes_at.ensures c.requires
