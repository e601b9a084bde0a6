-- Any two outcomes that the contract of a public call allows are equal.
use mathlib.Core.Path.{refl, sym, ◌∙◌}
use Rattle.std.specs.Option.{option_copied}
use Rattle.octets.proofs.Outcomes.{OneAnswer, OneOutcome, OneItem, one_first}
use Rattle.shelves.proofs.entries.Entries.new as entries_new
use Rattle.shelves.specs.contracts.entries.Entries.new as entries_new_contract
use Rattle.shelves.proofs.entries.EntriesIterator.next as entries_next
use Rattle.shelves.specs.contracts.entries.EntriesIterator.next as entries_next_contract
use Rattle.shelves.proofs.making.adds_up
use Rattle.shelves.specs.contracts.making.adds_up as adds_up_contract
use Rattle.shelves.proofs.making.put_shelf
use Rattle.shelves.specs.contracts.making.put_shelf as put_shelf_contract
use Rattle.shelves.proofs.making.put_old
use Rattle.shelves.specs.contracts.making.put_old as put_old_contract
use Rattle.shelves.proofs.old.old_count
use Rattle.shelves.specs.contracts.old.old_count as old_count_contract
use Rattle.shelves.proofs.old.old_lengths
use Rattle.shelves.specs.contracts.old.old_lengths as old_lengths_contract
use Rattle.shelves.proofs.table.table_ok
use Rattle.shelves.specs.contracts.table.table_ok as table_ok_contract
use Rattle.shelves.proofs.table.shelf_row
use Rattle.shelves.specs.contracts.table.shelf_row as shelf_row_contract
use Rattle.shelves.proofs.table.table_lengths
use Rattle.shelves.specs.contracts.table.table_lengths as table_lengths_contract

pub entries_new_one_outcome : OneAnswer entries_new_contract.ended entries_new.Reads.Post
entries_new_one_outcome κs a r q s t p o = p ∙ sym o

-- of an entry, its bytes
pub entries_next_one_outcome : OneItem entries_next_contract.ended (λ κs r. option_copied r) (λ κs s. s.0.now) entries_next.Reads.Post
entries_next_one_outcome κs a r q s t p o = one_first (λ x. x.now) a.0.now r q s.0.now t.0.now p.0 o.0

pub adds_up_one_outcome : OneAnswer adds_up_contract.ended adds_up.Reads.Post
adds_up_one_outcome κs a r q s t p o = p ∙ sym o

pub put_shelf_one_outcome : OneOutcome put_shelf_contract.ended (λ κs s. s.1.1.1.0.now) put_shelf.Reads.Post
put_shelf_one_outcome κs a r q s t p o = (p.next ∙ sym o.next, p.content ∙ sym o.content)

pub put_old_one_outcome : OneOutcome put_old_contract.ended (λ κs s. s.1.1.1.0.now) put_old.Reads.Post
put_old_one_outcome κs a r q s t p o = (p.next ∙ sym o.next, p.content ∙ sym o.content)

pub old_count_one_outcome : OneAnswer old_count_contract.ended old_count.Reads.Post
old_count_one_outcome κs a r q s t p o = p ∙ sym o

pub old_lengths_one_outcome : OneOutcome old_lengths_contract.ended (λ κs s. s.1.0.now) old_lengths.Reads.Post
old_lengths_one_outcome κs a r q s t p o = (refl, p ∙ sym o)

pub table_ok_one_outcome : OneAnswer table_ok_contract.ended table_ok.Reads.Post
table_ok_one_outcome κs a r q s t p o = p ∙ sym o

pub shelf_row_one_outcome : OneAnswer shelf_row_contract.ended shelf_row.Reads.Post
shelf_row_one_outcome κs a r q s t p o = p ∙ sym o

pub table_lengths_one_outcome : OneOutcome table_lengths_contract.ended (λ κs s. s.1.0.now) table_lengths.Reads.Post
table_lengths_one_outcome κs a r q s t p o = (refl, p ∙ sym o)
