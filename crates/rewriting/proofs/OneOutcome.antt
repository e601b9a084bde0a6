-- Any two outcomes that the contract of a public call allows are equal.
use mathlib.Core.Path.{sym, ◌∙◌}
use Rattle.octets.proofs.Outcomes.{OneOutcome}
use Rattle.rewriting.proofs.rewrite
use Rattle.rewriting.specs.contracts.rewrite as rewrite_contract

pub rewrite_one_outcome : OneOutcome rewrite_contract.ended (λ κs s. s.1.0.now) rewrite.Reads.Post
rewrite_one_outcome κs a r q s t p o = (p.0 ∙ sym o.0, p.1.0 ∙ sym o.1.0)
