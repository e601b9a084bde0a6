-- Any two outcomes that the contract of a public call allows are equal.
use mathlib.Core.Path.{sym, ◌∙◌}
use Rattle.octets.proofs.Outcomes.{OneOutcome}
use Rattle.pathing.proofs.path_block
use Rattle.pathing.specs.contracts.path_block as path_block_contract

pub path_block_one_outcome : OneOutcome path_block_contract.ended (λ κs s. s.1.1.1.1.1.0.now) path_block.Reads.Post
path_block_one_outcome κs a r q s t p o = (p.0 ∙ sym o.0, p.1.0 ∙ sym o.1.0)
