-- One law for each way out; the row lies in the shelf, so that its part is its bytes.
use mathlib.Core.Path.{sym, ap, ◌∙◌}
use Rattle.shelves.proofs.TableLaws.{shelf_Right, row_shown}
use Rattle.shelving.specs.Shelf.{accepted_entry}
use Rattle.shelving.proofs.CallLaws.{one_told, one_missing, one_bad, one_good}
use Rattle.shelving.proofs.shelf_one.Goals as goal

pub returns-in_default : goal.returns-in_default
returns-in_default c =
    rw c.at.ensures (let both = one_told c.args.s.now c.args.k (one_missing c.args.s.now c.args.k c.in_default.ensures) in record { answer = both.0; numbers = both.1 })

pub returns-then-entry_ok : goal.returns-then-entry_ok
returns-then-entry_ok c =
    let s = c.args.s.now in
    let k = c.args.k in
    let on = c.in-Some.ensures in
    let told = ap accepted_entry (c.part.ensures ∙ row_shown s (shelf_Right s on.0) k on.1 on.2) in
    let both = one_told s k (one_good s k on.0 on.1 (sym told ∙ sym c.entry_ok.ensures ∙ c.if-entry_ok.true) on.2) in record { answer = both.0; numbers = both.1 }

pub returns-else-entry_ok : goal.returns-else-entry_ok
returns-else-entry_ok c =
    let s = c.args.s.now in
    let k = c.args.k in
    let on = c.in-Some.ensures in
    let told = ap accepted_entry (c.part.ensures ∙ row_shown s (shelf_Right s on.0) k on.1 on.2) in
    rw c.at-else-entry_ok.ensures (let both = one_told s k (one_bad s k on.0 on.1 (sym told ∙ sym c.entry_ok.ensures ∙ c.if-entry_ok.false)) in record { answer = both.0; numbers = both.1 })
