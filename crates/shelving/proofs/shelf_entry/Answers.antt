-- One law for each way out.
use Rattle.shelving.proofs.CallLaws.{entry_told, entry_missing, entry_some, entry_none}
use Rattle.shelving.proofs.shelf_entry.Goals as goal

pub returns-in_default : goal.returns-in_default
returns-in_default c =
    rw c.at.ensures (let both = entry_told c.args.s.now c.args.k (entry_missing c.args.s.now c.args.k c.in_default.ensures) in record { answer = both.0; numbers = both.1 })

pub returns-in-Some-first_on_shelf : goal.returns-in-Some-first_on_shelf
returns-in-Some-first_on_shelf c =
    let s = c.args.s.now in
    let k = c.args.k in
    let on = c.in-Some.ensures in
    rw c.at-in-Some-first_on_shelf.ensures (let both = entry_told s k (entry_some s k on.0 on.1 c.in-Some-first_on_shelf.ensures) in record { answer = both.0; numbers = both.1 })

pub returns-in-None : goal.returns-in-None
returns-in-None c =
    let s = c.args.s.now in
    let k = c.args.k in
    let on = c.in-Some.ensures in
    let both = entry_told s k (entry_none s k on.0 on.1 c.in-None.ensures on.2) in record { answer = both.0; numbers = both.1 }
