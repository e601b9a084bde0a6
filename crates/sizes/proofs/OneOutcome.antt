-- Any two outcomes that the contract of a public call allows are equal.
use mathlib.Core.Path.{sym, ◌∙◌}
use Rattle.octets.proofs.Outcomes.{OneAnswer}
use Rattle.sizes.proofs.sizes_of
use Rattle.sizes.specs.contracts.sizes_of as sizes_of_contract
use Rattle.sizes.proofs.info_head
use Rattle.sizes.specs.contracts.info_head as info_head_contract
use Rattle.sizes.proofs.volume_part
use Rattle.sizes.specs.contracts.volume_part as volume_part_contract
use Rattle.sizes.proofs.network_part
use Rattle.sizes.specs.contracts.network_part as network_part_contract
use Rattle.sizes.proofs.end_of as end_of_lem
use Rattle.sizes.specs.contracts.end_of as end_of_lem_contract

pub sizes_of_one_outcome : OneAnswer sizes_of_contract.ended sizes_of.Reads.Post
sizes_of_one_outcome κs a r q s t p o = p ∙ sym o

pub info_head_one_outcome : OneAnswer info_head_contract.ended info_head.Reads.Post
info_head_one_outcome κs a r q s t p o = p ∙ sym o

pub volume_part_one_outcome : OneAnswer volume_part_contract.ended volume_part.Reads.Post
volume_part_one_outcome κs a r q s t p o = p ∙ sym o

pub network_part_one_outcome : OneAnswer network_part_contract.ended network_part.Reads.Post
network_part_one_outcome κs a r q s t p o = p ∙ sym o

pub end_of_one_outcome : OneAnswer end_of_lem_contract.ended end_of_lem.Reads.Post
end_of_one_outcome κs a r q s t p o = p ∙ sym o
