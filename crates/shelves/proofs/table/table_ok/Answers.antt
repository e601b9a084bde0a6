-- One law for each way out.
use native.Mathlib.Omega.{arith}
use mathlib.Core.Path.{ap, ◌∙◌}
use Prim.Native.Nat.{ℕ}
use lib.ListN.{length, drop}
use Rattle.shelves.specs.Table.{table_rows, bodies_start, rows_follow}
use Rattle.shelves.proofs.TableLaws.{table_short, table_many, table_cut, table_told}
use Rattle.shelves.proofs.table.table_ok.Goals as goal

pub returns-then-s-lt4 : goal.returns-then-s-lt4
returns-then-s-lt4 c =
    table_short c.args.s.now c.if-s-lt4.true

pub returns-then-n-gt64 : goal.returns-then-n-gt64
returns-then-n-gt64 c =
    table_many c.args.s.now (omega arith) (omega (arith, c.u32_at-n.ensures))

pub returns-then-s-n : goal.returns-then-s-n
returns-then-s-n c =
    table_cut c.args.s.now (omega arith) (omega (arith, c.u32_at-n.ensures)) (omega (arith, c.u32_at-n.ensures))

pub returns : goal.returns
returns c =
    let s = c.args.s.now in
    let told = c.rows_follow.ensures ∙ ap (λ (n : ℕ). rows_follow (length s) (bodies_start n) (table_rows n (drop 4 s))) c.u32_at-n.ensures in
    table_told s (omega arith) (omega (arith, c.u32_at-n.ensures)) (omega (arith, c.u32_at-n.ensures)) told
