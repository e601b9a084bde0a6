-- No entry is longer than what is left, so that they can be counted.
use native.Mathlib.Omega.{arith}
use mathlib.Core.Logic.{inl}
use mathlib.Core.Path.{ap}
use lib.ListN.{length}
use Rattle.shelves.proofs.ApartLaws.{apart_count}
use Rattle.shelving.proofs.entries.first_bad.Goals as goal

pub position-requires-clause-fits : goal.position-requires-clause-fits
position-requires-clause-fits c = inl (omega (arith, ap length c.new.ensures, apart_count c.args.gap c.args.lengths.now c.args.d.now, c.well_formed))
