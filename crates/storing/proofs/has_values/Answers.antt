-- Without a block there are no rows; else those of its store.
use mathlib.Core.Path.{sym, ap}
use native.Mathlib.Omega.{arith}
use Rattle.format.specs.Blind.{has_values}
use Rattle.storing.proofs.ListLaws.{no_rows, store_ready}
use Rattle.storing.proofs.has_values.Goals as goal

pub returns-then-b-eq0 : goal.returns-then-b-eq0
returns-then-b-eq0 c = sym (ap has_values (no_rows _ _ c.if-b-eq0.true))

pub overflow_add-at : goal.overflow_add-at
overflow_add-at c =
    let H = c.requires c.if-b-eq0.false in
    omega (arith, H.inside, H.long, c.well_formed)

pub any_value-requires : goal.any_value-requires
any_value-requires c = store_ready _ _ (c.requires c.if-b-eq0.false) (omega (arith, c.well_formed)) c.store_of.ensures

pub returns : goal.returns
returns c = rw c.store_of.ensures at c.any_value.ensures
