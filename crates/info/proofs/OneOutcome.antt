-- Any two outcomes that the contract of a public call allows are equal.
use mathlib.Core.Path.{refl, sym, ◌∙◌}
use Rattle.octets.proofs.Outcomes.{OneAnswer, OneOutcome}
use Rattle.info.proofs.info
use Rattle.info.specs.contracts.info as info_contract
use Rattle.info.proofs.RightInfo.put_info as rightinfo_put_info
use Rattle.info.specs.contracts.RightInfo.put_info as rightinfo_put_info_contract
use Rattle.info.proofs.RightInfo.first_text as rightinfo_first_text
use Rattle.info.specs.contracts.RightInfo.first_text as rightinfo_first_text_contract
use Rattle.info.proofs.RightInfo.suffix_text as rightinfo_suffix_text
use Rattle.info.specs.contracts.RightInfo.suffix_text as rightinfo_suffix_text_contract

pub info_one_outcome : OneOutcome info_contract.ended (λ κs s. s.1.1.1.0.now) info.Reads.Post
info_one_outcome κs a r q s t p o = (p.0 ∙ sym o.0, p.1.1 ∙ sym o.1.1)

pub rightinfo_put_info_one_outcome : OneOutcome rightinfo_put_info_contract.ended (λ κs s. s.1.0.now) rightinfo_put_info.Reads.Post
rightinfo_put_info_one_outcome κs a r q s t p o = (refl, p ∙ sym o)

pub rightinfo_first_text_one_outcome : OneAnswer rightinfo_first_text_contract.ended rightinfo_first_text.Reads.Post
rightinfo_first_text_one_outcome κs a r q s t p o = p ∙ sym o

pub rightinfo_suffix_text_one_outcome : OneAnswer rightinfo_suffix_text_contract.ended rightinfo_suffix_text.Reads.Post
rightinfo_suffix_text_one_outcome κs a r q s t p o = p ∙ sym o
