-- Any two outcomes that the contract of a public call allows are equal.
use mathlib.Core.Path.{sym, ◌∙◌}
use Rattle.octets.proofs.Outcomes.{OneAnswer, OneOutcome}
use Rattle.stores.proofs.tests.row_from
use Rattle.stores.specs.contracts.tests.row_from as row_from_contract
use Rattle.stores.proofs.tests.rows_placed
use Rattle.stores.specs.contracts.tests.rows_placed as rows_placed_contract
use Rattle.stores.proofs.tests.store_size
use Rattle.stores.specs.contracts.tests.store_size as store_size_contract
use Rattle.stores.proofs.tests.row_size
use Rattle.stores.specs.contracts.tests.row_size as row_size_contract
use Rattle.stores.proofs.making.put_store
use Rattle.stores.specs.contracts.making.put_store as put_store_contract

pub row_from_one_outcome : OneAnswer row_from_contract.ended row_from.Reads.Post
row_from_one_outcome κs a r q s t p o = p ∙ sym o

pub rows_placed_one_outcome : OneAnswer rows_placed_contract.ended rows_placed.Reads.Post
rows_placed_one_outcome κs a r q s t p o = p ∙ sym o

pub store_size_one_outcome : OneAnswer store_size_contract.ended store_size.Reads.Post
store_size_one_outcome κs a r q s t p o = p ∙ sym o

pub row_size_one_outcome : OneAnswer row_size_contract.ended row_size.Reads.Post
row_size_one_outcome κs a r q s t p o = p.0 ∙ sym o.0

pub put_store_one_outcome : OneOutcome put_store_contract.ended (λ κs s. s.1.1.0.now) put_store.Reads.Post
put_store_one_outcome κs a r q s t p o = (p.next ∙ sym o.next, p.content ∙ sym o.content)
