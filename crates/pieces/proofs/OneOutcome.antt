-- Any two outcomes that the contract of a public call allows are equal.
use mathlib.Core.Path.{sym, ◌∙◌}
use Rattle.octets.proofs.Outcomes.{OneAnswer}
use Rattle.pieces.proofs.field
use Rattle.pieces.specs.contracts.field as field_contract
use Rattle.pieces.proofs.absent_zero
use Rattle.pieces.specs.contracts.absent_zero as absent_zero_contract
use Rattle.pieces.proofs.text_at
use Rattle.pieces.specs.contracts.text_at as text_at_contract
use Rattle.pieces.proofs.body_at
use Rattle.pieces.specs.contracts.body_at as body_at_contract
use Rattle.pieces.proofs.apart_six
use Rattle.pieces.specs.contracts.apart_six as apart_six_contract
use Rattle.pieces.proofs.volume
use Rattle.pieces.specs.contracts.volume as volume_contract
use Rattle.pieces.proofs.volume_of
use Rattle.pieces.specs.contracts.volume_of as volume_of_contract
use Rattle.pieces.proofs.network
use Rattle.pieces.specs.contracts.network as network_contract
use Rattle.pieces.proofs.network_of
use Rattle.pieces.specs.contracts.network_of as network_of_contract

pub field_one_outcome : OneAnswer field_contract.ended field.Reads.Post
field_one_outcome κs a r q s t p o = p ∙ sym o

pub absent_zero_one_outcome : OneAnswer absent_zero_contract.ended absent_zero.Reads.Post
absent_zero_one_outcome κs a r q s t p o = p ∙ sym o

pub text_at_one_outcome : OneAnswer text_at_contract.ended text_at.Reads.Post
text_at_one_outcome κs a r q s t p o = p.0 ∙ sym o.0

pub body_at_one_outcome : OneAnswer body_at_contract.ended body_at.Reads.Post
body_at_one_outcome κs a r q s t p o = p ∙ sym o

pub apart_six_one_outcome : OneAnswer apart_six_contract.ended apart_six.Reads.Post
apart_six_one_outcome κs a r q s t p o = p ∙ sym o

pub volume_one_outcome : OneAnswer volume_contract.ended volume.Reads.Post
volume_one_outcome κs a r q s t p o = p.0 ∙ sym o.0

pub volume_of_one_outcome : OneAnswer volume_of_contract.ended volume_of.Reads.Post
volume_of_one_outcome κs a r q s t p o = p ∙ sym o

pub network_one_outcome : OneAnswer network_contract.ended network.Reads.Post
network_one_outcome κs a r q s t p o = p.0 ∙ sym o.0

pub network_of_one_outcome : OneAnswer network_of_contract.ended network_of.Reads.Post
network_of_one_outcome κs a r q s t p o = p ∙ sym o
