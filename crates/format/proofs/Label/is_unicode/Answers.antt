-- The kind is that of the label itself.
use mathlib.Core.Path.{sym, ap}
use Rattle.format.specs.Volume.{label_kind}
use Rattle.format.proofs.Label.is_unicode.Goals as goal

pub returns-in-Unicode : goal.returns-in-Unicode
returns-in-Unicode c = ap label_kind (sym c.in-Unicode.is)
