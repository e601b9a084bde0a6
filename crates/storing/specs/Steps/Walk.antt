-- What a walk over the rows of a store keeps, and the rows that it has left.
use Rattle.std.specs.Prelude.{List, ◌+◌, ◌<◌, ◌^◌, length}
use Rattle.format.specs.declared.StoreRow.{StoreRow}
use Rattle.storing.specs.declared.rows.Rows.TheInside.{Inside}
use Rattle.storing.specs.Steps.Rows.{rows_left, Right}

abbrev pub left : Inside → List StoreRow
left w = rows_left w.store.now w.base w.cursor

pub record IsRight (w : Inside) : Type 0 where
  pub right : Right w.store.now w.cursor
  pub small : w.base + length w.store.now < 2 ^ 64
