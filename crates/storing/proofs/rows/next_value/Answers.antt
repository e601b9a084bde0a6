-- The value at hand, and the cursor after it.
use native.Mathlib.Omega.{arith}
use Rattle.storing.proofs.RowLaws.{value_room, value_at, value_ready, next_value}
use Rattle.storing.proofs.rows.next_value.Goals as goal

pub u32_at-requires : goal.u32_at-requires
u32_at-requires c = value_room _ 0 _ c.requires.0 c.requires.1.0

pub slice_bounds-value_row-end : goal.slice_bounds-value_row-end
slice_bounds-value_row-end c =
    let z = value_at _ 0 _ c.requires.0 c.u32_at.ensures c.requires.1.0 in
    omega (arith, z.fits, c.requires.0.inside)

pub value_row-row-requires : goal.value_row-row-requires
value_row-row-requires c =
    value_ready _ _ _ c.requires.0 c.u32_at.ensures c.requires.1.0 c.requires.1.1

pub returns : goal.returns
returns c =
    next_value _ _ _ c.requires.0 c.u32_at.ensures c.requires.1.0 c.value_row-row.ensures
