-- Any two outcomes that the contract of a public call allows are equal.
use mathlib.Core.Path.{refl, sym, ◌∙◌}
use mathlib.Core.List.{◌∷◌}
use Rattle.copies.proofs.OutputLaws.{same_put}
use Rattle.octets.proofs.Outcomes.{OneAnswer, OneOutcome}
use Rattle.target.proofs.targeted
use Rattle.target.specs.contracts.targeted as targeted_contract
use Rattle.target.proofs.has_target
use Rattle.target.specs.contracts.has_target as has_target_contract
use Rattle.target.proofs.texts_of
use Rattle.target.specs.contracts.texts_of as texts_of_contract
use Rattle.target.proofs.texts_in
use Rattle.target.specs.contracts.texts_in as texts_in_contract
use Rattle.target.proofs.texts_length
use Rattle.target.specs.contracts.texts_length as texts_length_contract
use Rattle.target.proofs.put_body
use Rattle.target.specs.contracts.put_body as put_body_contract
use Rattle.target.proofs.put_texts
use Rattle.target.specs.contracts.put_texts as put_texts_contract
use Rattle.target.proofs.target
use Rattle.target.specs.contracts.target as target_contract

pub targeted_one_outcome : OneAnswer targeted_contract.ended targeted.Reads.Post
targeted_one_outcome κs a r q s t p o = p ∙ sym o

pub has_target_one_outcome : OneAnswer has_target_contract.ended has_target.Reads.Post
has_target_one_outcome κs a r q s t p o = p ∙ sym o

pub texts_of_one_outcome : OneAnswer texts_of_contract.ended texts_of.Reads.Post
texts_of_one_outcome κs a r q s t p o = p ∙ sym o

pub texts_in_one_outcome : OneAnswer texts_in_contract.ended texts_in.Reads.Post
texts_in_one_outcome κs a r q s t p o = p ∙ sym o

pub texts_length_one_outcome : OneAnswer texts_length_contract.ended texts_length.Reads.Post
texts_length_one_outcome κs a r q s t p o = p ∙ sym o

-- an output by its place and its content
pub put_body_one_outcome : OneOutcome put_body_contract.ended (λ κs s. s.1.1.0.now.at ∷ s.1.1.0.now.out.now) put_body.Reads.Post
put_body_one_outcome κs a r q s t p o = (refl, same_put p o)

pub put_texts_one_outcome : OneOutcome put_texts_contract.ended (λ κs s. s.1.1.0.now.at ∷ s.1.1.0.now.out.now) put_texts.Reads.Post
put_texts_one_outcome κs a r q s t p o = (refl, same_put p o)

pub target_one_outcome : OneOutcome target_contract.ended (λ κs s. s.1.0.now) target.Reads.Post
target_one_outcome κs a r q s t p o = (p.0 ∙ sym o.0, p.1.0 ∙ sym o.1.0)
