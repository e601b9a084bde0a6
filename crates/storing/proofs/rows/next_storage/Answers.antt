-- After the values the storage that follows, if one does.
use native.Mathlib.Omega.{arith}
use Rattle.storing.proofs.RowLaws.{storage_room, next_end, storage_at, next_storage}
use Rattle.storing.proofs.rows.next_storage.Goals as goal

pub u32_at-n-requires : goal.u32_at-n-requires
u32_at-n-requires c = storage_room _ 0 _ c.requires.0

pub returns-then-n-eq0 : goal.returns-then-n-eq0
returns-then-n-eq0 c = next_end _ _ _ c.requires.0 c.u32_at-n.ensures c.requires.1.0 c.if-n-eq0.true

pub overflow_add-row-2 : goal.overflow_add-row-2
overflow_add-row-2 c =
    let z = storage_at _ 0 _ c.requires.0 c.u32_at-n.ensures c.requires.1.0 c.if-n-eq0.false in
    omega (arith, z.low, z.fits)

pub is_named-requires : goal.is_named-requires
is_named-requires c =
    let z = storage_at _ 0 _ c.requires.0 c.u32_at-n.ensures c.requires.1.0 c.if-n-eq0.false in
    omega (arith, z.low, z.fits)

pub returns : goal.returns
returns c =
    next_storage _ _ _ c.requires.0 c.u32_at-n.ensures c.requires.1.0 c.if-n-eq0.false c.is_named.ensures
