-- Any two outcomes that the contract of a public call allows are equal.
use mathlib.Core.Path.{sym, ◌∙◌}
use Rattle.octets.proofs.Outcomes.{OneOutcome}
use Rattle.keying.proofs.key
use Rattle.keying.specs.contracts.key as key_contract

pub key_one_outcome : OneOutcome key_contract.ended (λ κs s. s.1.0.now) key.Reads.Post
key_one_outcome κs a r q s t p o = (p.0 ∙ sym o.0, p.1.0 ∙ sym o.1.0)
