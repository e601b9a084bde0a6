-- Any two outcomes that the contract of a public call allows are equal.
use mathlib.Core.Path.{sym, ◌∙◌}
use Rattle.octets.proofs.Outcomes.{OneOutcome}
use Rattle.salvaging.proofs.salvage
use Rattle.salvaging.specs.contracts.salvage as salvage_contract

pub salvage_one_outcome : OneOutcome salvage_contract.ended (λ κs s. s.1.0.now) salvage.Reads.Post
salvage_one_outcome κs a r q s t p o = (p.0 ∙ sym o.0, p.1.0 ∙ sym o.1.0)
