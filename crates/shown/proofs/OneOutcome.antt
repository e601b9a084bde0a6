-- Any two outcomes that the contract of a public call allows are equal.
use mathlib.Core.Path.{sym, ◌∙◌}
use Rattle.octets.proofs.Outcomes.{OneAnswer, OneShown}
use Rattle.shown.proofs.section_place
use Rattle.shown.specs.contracts.section_place as section_place_contract
use Rattle.shown.proofs.section
use Rattle.shown.specs.contracts.section as section_contract

pub section_place_one_outcome : OneAnswer section_place_contract.ended section_place.Reads.Post
section_place_one_outcome κs a r q s t p o = p ∙ sym o

pub section_one_outcome : OneShown section_contract.ended (λ κs r. r.now) section.Reads.Post
section_one_outcome κs a r q s t p o = p ∙ sym o
