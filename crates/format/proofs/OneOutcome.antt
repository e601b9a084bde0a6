-- Any two outcomes that the contract of a public call allows are equal.
use mathlib.Core.Path.{sym, ◌∙◌}
use Prim.Native.Nat.{ℕ}
use native.Mathlib.Omega.{arith}
use denote.Param.{number}
use mir.Syntax.{w32}
use mir.Val.{Fits}
use Rattle.octets.proofs.Outcomes.{OneAnswer}
use Rattle.format.proofs.number_of as number_of_lem
use Rattle.format.specs.contracts.number_of as number_of_lem_contract
use Rattle.format.proofs.bit
use Rattle.format.specs.contracts.bit as bit_contract
use Rattle.format.proofs.items_there
use Rattle.format.specs.contracts.items_there as items_there_contract
use Rattle.format.proofs.info_there
use Rattle.format.specs.contracts.info_there as info_there_contract
use Rattle.format.proofs.name_there
use Rattle.format.specs.contracts.name_there as name_there_contract
use Rattle.format.proofs.relative_there
use Rattle.format.specs.contracts.relative_there as relative_there_contract
use Rattle.format.proofs.workdir_there
use Rattle.format.specs.contracts.workdir_there as workdir_there_contract
use Rattle.format.proofs.arguments_there
use Rattle.format.specs.contracts.arguments_there as arguments_there_contract
use Rattle.format.proofs.icon_there
use Rattle.format.specs.contracts.icon_there as icon_there_contract
use Rattle.format.proofs.strings_unicode
use Rattle.format.specs.contracts.strings_unicode as strings_unicode_contract
use Rattle.format.proofs.local_there
use Rattle.format.specs.contracts.local_there as local_there_contract
use Rattle.format.proofs.network_there
use Rattle.format.specs.contracts.network_there as network_there_contract
use Rattle.format.proofs.local_unicode_there
use Rattle.format.specs.contracts.local_unicode_there as local_unicode_there_contract
use Rattle.format.proofs.device_there
use Rattle.format.specs.contracts.device_there as device_there_contract
use Rattle.format.proofs.provider_there
use Rattle.format.specs.contracts.provider_there as provider_there_contract
use Rattle.format.proofs.device_unicode_there
use Rattle.format.specs.contracts.device_unicode_there as device_unicode_there_contract
use Rattle.format.proofs.shape_of
use Rattle.format.specs.contracts.shape_of as shape_of_contract
use Rattle.format.proofs.label_least
use Rattle.format.specs.contracts.label_least as label_least_contract
use Rattle.format.proofs.network_head
use Rattle.format.specs.contracts.network_head as network_head_contract
use Rattle.format.proofs.number_if
use Rattle.format.specs.contracts.number_if as number_if_contract
use Rattle.format.proofs.one_or_0
use Rattle.format.specs.contracts.one_or_0 as one_or_0_contract
use Rattle.format.proofs.signed
use Rattle.format.specs.contracts.signed as signed_contract
use Rattle.format.proofs.bits_of
use Rattle.format.specs.contracts.bits_of as bits_of_contract
use Rattle.format.proofs.Label.of as label_of
use Rattle.format.specs.contracts.Label.of as label_of_contract
use Rattle.format.proofs.Label.is_unicode as label_is_unicode
use Rattle.format.specs.contracts.Label.is_unicode as label_is_unicode_contract
use Rattle.format.proofs.Label.place as label_place
use Rattle.format.specs.contracts.Label.place as label_place_contract
use Rattle.format.proofs.Refusal.at as refusal_at
use Rattle.format.specs.contracts.Refusal.at as refusal_at_contract
use Rattle.format.proofs.Refused.at as refused_at
use Rattle.format.specs.contracts.Refused.at as refused_at_contract
use Rattle.format.proofs.RefusedFromRefusal.from as refused_from
use Rattle.format.specs.contracts.RefusedFromRefusal.from as refused_from_contract
use Rattle.format.proofs.demand
use Rattle.format.specs.contracts.demand as demand_contract

pub number_of_one_outcome : OneAnswer number_of_lem_contract.ended number_of_lem.Reads.Post
number_of_one_outcome κs a r q s t p o = p ∙ sym o

-- of the bit of each number K
pub bit_one_outcome : (K : ℕ) (w : Fits w32 K) → OneAnswer (bit_contract.ended (number K)) (bit.Reads.Post K w)
bit_one_outcome K w κs a r q s t p o = p ∙ sym o

pub bit_0_one_outcome : OneAnswer (bit_contract.ended (number 0)) (bit.Reads.Post 0 (omega arith))
bit_0_one_outcome = bit_one_outcome 0 (omega arith)

pub bit_1_one_outcome : OneAnswer (bit_contract.ended (number 1)) (bit.Reads.Post 1 (omega arith))
bit_1_one_outcome = bit_one_outcome 1 (omega arith)

pub items_there_one_outcome : OneAnswer items_there_contract.ended items_there.Reads.Post
items_there_one_outcome κs a r q s t p o = p ∙ sym o

pub info_there_one_outcome : OneAnswer info_there_contract.ended info_there.Reads.Post
info_there_one_outcome κs a r q s t p o = p ∙ sym o

pub name_there_one_outcome : OneAnswer name_there_contract.ended name_there.Reads.Post
name_there_one_outcome κs a r q s t p o = p ∙ sym o

pub relative_there_one_outcome : OneAnswer relative_there_contract.ended relative_there.Reads.Post
relative_there_one_outcome κs a r q s t p o = p ∙ sym o

pub workdir_there_one_outcome : OneAnswer workdir_there_contract.ended workdir_there.Reads.Post
workdir_there_one_outcome κs a r q s t p o = p ∙ sym o

pub arguments_there_one_outcome : OneAnswer arguments_there_contract.ended arguments_there.Reads.Post
arguments_there_one_outcome κs a r q s t p o = p ∙ sym o

pub icon_there_one_outcome : OneAnswer icon_there_contract.ended icon_there.Reads.Post
icon_there_one_outcome κs a r q s t p o = p ∙ sym o

pub strings_unicode_one_outcome : OneAnswer strings_unicode_contract.ended strings_unicode.Reads.Post
strings_unicode_one_outcome κs a r q s t p o = p ∙ sym o

pub local_there_one_outcome : OneAnswer local_there_contract.ended local_there.Reads.Post
local_there_one_outcome κs a r q s t p o = p ∙ sym o

pub network_there_one_outcome : OneAnswer network_there_contract.ended network_there.Reads.Post
network_there_one_outcome κs a r q s t p o = p ∙ sym o

pub local_unicode_there_one_outcome : OneAnswer local_unicode_there_contract.ended local_unicode_there.Reads.Post
local_unicode_there_one_outcome κs a r q s t p o = p ∙ sym o

pub device_there_one_outcome : OneAnswer device_there_contract.ended device_there.Reads.Post
device_there_one_outcome κs a r q s t p o = p ∙ sym o

pub provider_there_one_outcome : OneAnswer provider_there_contract.ended provider_there.Reads.Post
provider_there_one_outcome κs a r q s t p o = p ∙ sym o

pub device_unicode_there_one_outcome : OneAnswer device_unicode_there_contract.ended device_unicode_there.Reads.Post
device_unicode_there_one_outcome κs a r q s t p o = p ∙ sym o

pub shape_of_one_outcome : OneAnswer shape_of_contract.ended shape_of.Reads.Post
shape_of_one_outcome κs a r q s t p o = p ∙ sym o

pub label_least_one_outcome : OneAnswer label_least_contract.ended label_least.Reads.Post
label_least_one_outcome κs a r q s t p o = p ∙ sym o

pub network_head_one_outcome : OneAnswer network_head_contract.ended network_head.Reads.Post
network_head_one_outcome κs a r q s t p o = p ∙ sym o

pub number_if_one_outcome : OneAnswer number_if_contract.ended number_if.Reads.Post
number_if_one_outcome κs a r q s t p o = p ∙ sym o

pub one_or_0_one_outcome : OneAnswer one_or_0_contract.ended one_or_0.Reads.Post
one_or_0_one_outcome κs a r q s t p o = p ∙ sym o

pub signed_one_outcome : OneAnswer signed_contract.ended signed.Reads.Post
signed_one_outcome κs a r q s t p o = p ∙ sym o

pub bits_of_one_outcome : OneAnswer bits_of_contract.ended bits_of.Reads.Post
bits_of_one_outcome κs a r q s t p o = p ∙ sym o

pub label_of_one_outcome : OneAnswer label_of_contract.ended label_of.Reads.Post
label_of_one_outcome κs a r q s t p o = p ∙ sym o

pub label_is_unicode_one_outcome : OneAnswer label_is_unicode_contract.ended label_is_unicode.Reads.Post
label_is_unicode_one_outcome κs a r q s t p o = p ∙ sym o

pub label_place_one_outcome : OneAnswer label_place_contract.ended label_place.Reads.Post
label_place_one_outcome κs a r q s t p o = p ∙ sym o

pub refusal_at_one_outcome : OneAnswer refusal_at_contract.ended refusal_at.Reads.Post
refusal_at_one_outcome κs a r q s t p o = p ∙ sym o

pub refused_at_one_outcome : OneAnswer refused_at_contract.ended refused_at.Reads.Post
refused_at_one_outcome κs a r q s t p o = p ∙ sym o

pub refused_from_one_outcome : OneAnswer refused_from_contract.ended refused_from.Reads.Post
refused_from_one_outcome κs a r q s t p o = p ∙ sym o

pub demand_one_outcome : OneAnswer demand_contract.ended demand.Reads.Post
demand_one_outcome κs a r q s t p o = p ∙ sym o
