-- Any two outcomes that the contract of a public call allows are equal.
use mathlib.Core.Path.{sym, ◌∙◌}
use Rattle.octets.proofs.Outcomes.{OneAnswer}
use Rattle.items.proofs.items_wrong
use Rattle.items.specs.contracts.items_wrong as items_wrong_contract

pub items_wrong_one_outcome : OneAnswer items_wrong_contract.ended items_wrong.Reads.Post
items_wrong_one_outcome κs a r q s t p o = p.0 ∙ sym o.0
