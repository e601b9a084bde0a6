-- Any two outcomes that the contract of a public call allows are equal.
use mathlib.Core.Path.{sym, ◌∙◌}
use Rattle.octets.proofs.Outcomes.{OneOutcome}
use Rattle.lines.proofs.put_verdict
use Rattle.lines.specs.contracts.put_verdict as put_verdict_contract
use Rattle.lines.proofs.put_listing
use Rattle.lines.specs.contracts.put_listing as put_listing_contract
use Rattle.lines.proofs.put_key_line
use Rattle.lines.specs.contracts.put_key_line as put_key_line_contract

pub put_verdict_one_outcome : OneOutcome put_verdict_contract.ended (λ κs s. s.1.1.0.now) put_verdict.Reads.Post
put_verdict_one_outcome κs a r q s t p o = (p.0 ∙ sym o.0, p.1 ∙ sym o.1)

pub put_listing_one_outcome : OneOutcome put_listing_contract.ended (λ κs s. s.1.1.0.now) put_listing.Reads.Post
put_listing_one_outcome κs a r q s t p o = (p.0 ∙ sym o.0, p.1 ∙ sym o.1)

pub put_key_line_one_outcome : OneOutcome put_key_line_contract.ended (λ κs s. s.1.1.0.now) put_key_line.Reads.Post
put_key_line_one_outcome κs a r q s t p o = (p.0 ∙ sym o.0, p.1 ∙ sym o.1)
