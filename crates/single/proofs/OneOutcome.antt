-- Any two outcomes that the contract of a public call allows are equal.
use mathlib.Core.Path.{sym, ◌∙◌}
use Rattle.octets.proofs.Outcomes.{OneAnswer}
use Rattle.single.proofs.string
use Rattle.single.specs.contracts.string as string_contract
use Rattle.single.proofs.items
use Rattle.single.specs.contracts.items as items_contract

pub string_one_outcome : OneAnswer string_contract.ended string.Reads.Post
string_one_outcome κs a r q s t p o = p ∙ sym o

pub items_one_outcome : OneAnswer items_contract.ended items.Reads.Post
items_one_outcome κs a r q s t p o = p ∙ sym o
