-- Any two outcomes that the contract of a public call allows are equal.
use mathlib.Core.Path.{refl, sym, ◌∙◌}
use mathlib.Core.List.{◌∷◌}
use Rattle.octets.proofs.Outcomes.{OneAnswer, OneOutcome}
use Rattle.copies.proofs.OutputLaws.{same_put}
use Rattle.moves.proofs.records.gains
use Rattle.moves.specs.contracts.records.gains as gains_contract
use Rattle.moves.proofs.records.moved
use Rattle.moves.specs.contracts.records.moved as moved_contract
use Rattle.moves.proofs.tests.maps
use Rattle.moves.specs.contracts.tests.maps as maps_contract
use Rattle.moves.proofs.strings.put_units
use Rattle.moves.specs.contracts.strings.put_units as put_units_contract
use Rattle.moves.proofs.strings.put_string
use Rattle.moves.specs.contracts.strings.put_string as put_string_contract

pub gains_one_outcome : OneAnswer gains_contract.ended gains.Reads.Post
gains_one_outcome κs a r q s t p o = p ∙ sym o

pub moved_one_outcome : OneAnswer moved_contract.ended moved.Reads.Post
moved_one_outcome κs a r q s t p o = p ∙ sym o

pub maps_one_outcome : OneAnswer maps_contract.ended maps.Reads.Post
maps_one_outcome κs a r q s t p o = p ∙ sym o

pub put_string_one_outcome : OneOutcome put_string_contract.ended (λ κs s. s.0.now.at ∷ s.0.now.out.now) put_string.Reads.Post
put_string_one_outcome κs a r q s t p o = (refl, same_put p o)

pub put_units_one_outcome : OneOutcome put_units_contract.ended (λ κs s. s.0.now.at ∷ s.0.now.out.now) put_units.Reads.Post
put_units_one_outcome κs a r q s t p o = (refl, same_put p o)
