-- Any two outcomes that the contract of a public call allows are equal.
use mathlib.Core.Path.{sym, ◌∙◌}
use Rattle.octets.proofs.Outcomes.{OneAnswer}
use Rattle.writable.proofs.inside
use Rattle.writable.specs.contracts.inside as inside_contract
use Rattle.writable.proofs.placed
use Rattle.writable.specs.contracts.placed as placed_contract
use Rattle.writable.proofs.text_ok
use Rattle.writable.specs.contracts.text_ok as text_ok_contract
use Rattle.writable.proofs.writable
use Rattle.writable.specs.contracts.writable as writable_contract

pub inside_one_outcome : OneAnswer inside_contract.ended inside.Reads.Post
inside_one_outcome κs a r q s t p o = p ∙ sym o

pub placed_one_outcome : OneAnswer placed_contract.ended placed.Reads.Post
placed_one_outcome κs a r q s t p o = p ∙ sym o

pub text_ok_one_outcome : OneAnswer text_ok_contract.ended text_ok.Reads.Post
text_ok_one_outcome κs a r q s t p o = p ∙ sym o

pub writable_one_outcome : OneAnswer writable_contract.ended writable.Reads.Post
writable_one_outcome κs a r q s t p o = p ∙ sym o
