use mathlib.Core.Path.{◌∙◌}
use Rattle.octets.proofs.ReadLaws.{joined}
use Rattle.octets.proofs.u16_at.Goals as goal

pub returns : goal.returns
returns c = c.from_le_bytes.ensures ∙ joined 1 _ _ c.bytes_at.ensures c.requires
