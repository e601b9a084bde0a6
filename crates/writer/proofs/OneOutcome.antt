-- Any two outcomes that the contract of a public call allows are equal.
use mathlib.Core.Path.{sym, ◌∙◌}
use Rattle.octets.proofs.Outcomes.{OneOutcome}
use Rattle.writer.proofs.write
use Rattle.writer.specs.contracts.write as write_contract
use Rattle.writer.proofs.write_leaving
use Rattle.writer.specs.contracts.write_leaving as write_leaving_contract

pub write_leaving_one_outcome : OneOutcome write_leaving_contract.ended (λ κs s. s.1.1.1.0.now) write_leaving.Reads.Post
write_leaving_one_outcome κs a r q s t p o = (p.0 ∙ sym o.0, p.1 ∙ sym o.1)

pub write_one_outcome : OneOutcome write_contract.ended (λ κs s. s.1.1.0.now) write.Reads.Post
write_one_outcome κs a r q s t p o = (p.0 ∙ sym o.0, p.1.0 ∙ sym o.1.0)
