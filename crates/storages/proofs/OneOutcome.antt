-- Any two outcomes that the contract of a public call allows are equal.
use mathlib.Core.Path.{sym, ◌∙◌}
use Rattle.octets.proofs.Outcomes.{OneAnswer}
use Rattle.storages.proofs.is_named
use Rattle.storages.specs.contracts.is_named as is_named_contract
use Rattle.storages.proofs.store_wrong
use Rattle.storages.specs.contracts.store_wrong as store_wrong_contract

pub is_named_one_outcome : OneAnswer is_named_contract.ended is_named.Reads.Post
is_named_one_outcome κs a r q s t p o = p ∙ sym o

pub store_wrong_one_outcome : OneAnswer store_wrong_contract.ended store_wrong.Reads.Post
store_wrong_one_outcome κs a r q s t p o = p.0 ∙ sym o.0
