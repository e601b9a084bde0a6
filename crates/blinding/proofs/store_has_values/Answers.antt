-- Without a block there are no rows.
use Rattle.std.proofs.Common.{refl, sym, ap}
use Rattle.format.specs.Tests.{no_place}
use Rattle.format.specs.Blind.{has_values}
use Rattle.storing.proofs.ListLaws.{no_rows}
use Rattle.blinding.proofs.store_has_values.Goals as goal

pub returns-in-None : goal.returns-in-None
returns-in-None c = rw c.in-None.is (sym (ap has_values (no_rows c.args.s.now no_place refl)))
