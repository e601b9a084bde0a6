-- Any two outcomes that the contract of a public call allows are equal.
use mathlib.Core.Path.{sym, ◌∙◌}
use Rattle.octets.proofs.Outcomes.{OneAnswer}
use Rattle.blinding.proofs.key_blind
use Rattle.blinding.specs.contracts.key_blind as key_blind_contract

pub key_blind_one_outcome : OneAnswer key_blind_contract.ended key_blind.Reads.Post
key_blind_one_outcome κs a r q s t p o = p.0 ∙ sym o.0
