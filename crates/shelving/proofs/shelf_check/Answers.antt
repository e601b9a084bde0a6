-- One law for each way out.
use mathlib.Core.Path.{sym, ◌∙◌}
use Rattle.shelves.proofs.TableLaws.{shelf_Right}
use Rattle.shelving.proofs.CallLaws.{told, check_wrong, check_some, check_none}
use Rattle.shelving.proofs.shelf_check.Goals as goal

pub returns-then-not-table_ok : goal.returns-then-not-table_ok
returns-then-not-table_ok c =
    let s = c.args.s.now in
    rw c.at.ensures (let both = told s (check_wrong s (sym c.table_ok.ensures ∙ c.if-not-table_ok.true)) in record { answer = both.0; numbers = both.1 })

pub returns-in-Some : goal.returns-in-Some
returns-in-Some c =
    let s = c.args.s.now in
    rw c.at-in-Some.ensures (let both = told s (check_some s (sym c.table_ok.ensures ∙ c.if-not-table_ok.false) c.in-Some.ensures) in record { answer = both.0; numbers = both.1 })

pub u32_at-requires : goal.u32_at-requires
u32_at-requires c = (shelf_Right c.args.s.now (sym c.table_ok.ensures ∙ c.if-not-table_ok.false)).long

pub returns : goal.returns
returns c =
    let s = c.args.s.now in
    let both = told s (check_none s (sym c.table_ok.ensures ∙ c.if-not-table_ok.false) c.in_default.ensures c.u32_at.ensures) in record { answer = both.0; numbers = both.1 }
