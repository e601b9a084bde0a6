-- Any two outcomes that the contract of a public call allows are equal.
use mathlib.Core.Path.{refl, sym, ◌∙◌}
use Rattle.octets.proofs.Outcomes.{OneAnswer, OneShown, OneOutcome, OneItem, one_item}
use Rattle.storing.proofs.rows.Rows.new as rows_new
use Rattle.storing.specs.contracts.rows.Rows.new as rows_new_contract
use Rattle.storing.proofs.rows.RowsIterator.next as rows_next
use Rattle.storing.specs.contracts.rows.RowsIterator.next as rows_next_contract
use Rattle.storing.proofs.rows.count_rows
use Rattle.storing.specs.contracts.rows.count_rows as count_rows_contract
use Rattle.storing.proofs.rows.any_value
use Rattle.storing.specs.contracts.rows.any_value as any_value_contract
use Rattle.storing.proofs.rows.row_at
use Rattle.storing.specs.contracts.rows.row_at as row_at_contract
use Rattle.storing.proofs.rows.put_rows
use Rattle.storing.specs.contracts.rows.put_rows as put_rows_contract
use Rattle.storing.proofs.store_list
use Rattle.storing.specs.contracts.store_list as store_list_contract
use Rattle.storing.proofs.store_name
use Rattle.storing.specs.contracts.store_name as store_name_contract
use Rattle.storing.proofs.store_raw
use Rattle.storing.specs.contracts.store_raw as store_raw_contract
use Rattle.storing.proofs.has_values
use Rattle.storing.specs.contracts.has_values as has_values_contract
use Rattle.storing.proofs.store_write
use Rattle.storing.specs.contracts.store_write as store_write_contract

pub rows_new_one_outcome : OneAnswer rows_new_contract.ended rows_new.Reads.Post
rows_new_one_outcome κs a r q s t p o = p ∙ sym o

pub rows_next_one_outcome : OneItem rows_next_contract.ended (λ κs r. r) (λ κs s. s.0.now) rows_next.Reads.Post
rows_next_one_outcome κs a r q s t p o = one_item a.0.now r q s.0.now t.0.now p.0 o.0

pub count_rows_one_outcome : OneAnswer count_rows_contract.ended count_rows.Reads.Post
count_rows_one_outcome κs a r q s t p o = p.0 ∙ sym o.0

pub any_value_one_outcome : OneAnswer any_value_contract.ended any_value.Reads.Post
any_value_one_outcome κs a r q s t p o = p ∙ sym o

pub row_at_one_outcome : OneAnswer row_at_contract.ended row_at.Reads.Post
row_at_one_outcome κs a r q s t p o = p ∙ sym o

pub put_rows_one_outcome : OneOutcome put_rows_contract.ended (λ κs s. s.1.1.0.now) put_rows.Reads.Post
put_rows_one_outcome κs a r q s t p o = (refl, p ∙ sym o)

pub store_list_one_outcome : OneOutcome store_list_contract.ended (λ κs s. s.1.0.now) store_list.Reads.Post
store_list_one_outcome κs a r q s t p o = (p.0 ∙ sym o.0, p.1.0 ∙ sym o.1.0)

pub store_name_one_outcome : OneShown store_name_contract.ended (λ κs r. r.now) store_name.Reads.Post
store_name_one_outcome κs a r q s t p o = p ∙ sym o

pub store_raw_one_outcome : OneShown store_raw_contract.ended (λ κs r. r.now) store_raw.Reads.Post
store_raw_one_outcome κs a r q s t p o = p ∙ sym o

pub has_values_one_outcome : OneAnswer has_values_contract.ended has_values.Reads.Post
has_values_one_outcome κs a r q s t p o = p ∙ sym o

pub store_write_one_outcome : OneOutcome store_write_contract.ended (λ κs s. s.1.1.0.now) store_write.Reads.Post
store_write_one_outcome κs a r q s t p o = (p.0 ∙ sym o.0, p.1.0 ∙ sym o.1.0)
