-- Any two outcomes that the contract of a public call allows are equal.
use mathlib.Core.Path.{refl, sym, ◌∙◌}
use Rattle.octets.proofs.Outcomes.{OneAnswer, OneOutcome}
use Rattle.fields.proofs.are_record
use Rattle.fields.specs.contracts.are_record as are_record_contract
use Rattle.fields.proofs.clear
use Rattle.fields.specs.contracts.clear as clear_contract
use Rattle.fields.proofs.put_place
use Rattle.fields.specs.contracts.put_place as put_place_contract
use Rattle.fields.proofs.record_from
use Rattle.fields.specs.contracts.record_from as record_from_contract

pub are_record_one_outcome : OneAnswer are_record_contract.ended are_record.Reads.Post
are_record_one_outcome κs a r q s t p o = p ∙ sym o

pub clear_one_outcome : OneOutcome clear_contract.ended (λ κs s. s.0.now) clear.Reads.Post
clear_one_outcome κs a r q s t p o = (refl, p ∙ sym o)

pub put_place_one_outcome : OneOutcome put_place_contract.ended (λ κs s. s.0.now) put_place.Reads.Post
put_place_one_outcome κs a r q s t p o = (refl, p ∙ sym o)

pub record_from_one_outcome : OneAnswer record_from_contract.ended record_from.Reads.Post
record_from_one_outcome κs a r q s t p o = p ∙ sym o
