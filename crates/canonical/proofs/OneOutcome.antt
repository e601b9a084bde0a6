-- Any two outcomes that the contract of a public call allows are equal.
use mathlib.Core.Path.{refl, sym, ◌∙◌}
use mathlib.Core.List.{◌∷◌}
use Rattle.octets.proofs.Outcomes.{OneAnswer, OneShown, OneOutcome}
use Rattle.copies.proofs.OutputLaws.{same_put}
use Rattle.canonical.proofs.put_canonical
use Rattle.canonical.specs.contracts.put_canonical as put_canonical_contract
use Rattle.canonical.proofs.put_header
use Rattle.canonical.specs.contracts.put_header as put_header_contract
use Rattle.canonical.proofs.put_items_if
use Rattle.canonical.specs.contracts.put_items_if as put_items_if_contract
use Rattle.canonical.proofs.characters_in
use Rattle.canonical.specs.contracts.characters_in as characters_in_contract
use Rattle.canonical.proofs.put_slots
use Rattle.canonical.specs.contracts.put_slots as put_slots_contract
use Rattle.canonical.proofs.put_blocks
use Rattle.canonical.specs.contracts.put_blocks as put_blocks_contract
use Rattle.canonical.proofs.heads.put_volume_head
use Rattle.canonical.specs.contracts.heads.put_volume_head as put_volume_head_contract
use Rattle.canonical.proofs.heads.put_network_head
use Rattle.canonical.specs.contracts.heads.put_network_head as put_network_head_contract
use Rattle.canonical.proofs.heads.put_info_head
use Rattle.canonical.specs.contracts.heads.put_info_head as put_info_head_contract
use Rattle.canonical.proofs.heads.put_fields
use Rattle.canonical.specs.contracts.heads.put_fields as put_fields_contract
use Rattle.canonical.proofs.texts.body
use Rattle.canonical.specs.contracts.texts.body as body_contract
use Rattle.canonical.proofs.texts.put_text
use Rattle.canonical.specs.contracts.texts.put_text as put_text_contract

pub put_canonical_one_outcome : OneOutcome put_canonical_contract.ended (λ κs s. s.0.now) put_canonical.Reads.Post
put_canonical_one_outcome κs a r q s t p o = (p.0 ∙ sym o.0, p.1 ∙ sym o.1)

pub put_header_one_outcome : OneOutcome put_header_contract.ended (λ κs s. s.0.now.at ∷ s.0.now.out.now) put_header.Reads.Post
put_header_one_outcome κs a r q s t p o = (refl, same_put p o)

pub put_items_if_one_outcome : OneOutcome put_items_if_contract.ended (λ κs s. s.0.now.at ∷ s.0.now.out.now) put_items_if.Reads.Post
put_items_if_one_outcome κs a r q s t p o = (refl, same_put p o)

pub put_slots_one_outcome : OneOutcome put_slots_contract.ended (λ κs s. s.0.now.at ∷ s.0.now.out.now) put_slots.Reads.Post
put_slots_one_outcome κs a r q s t p o = (refl, same_put p o)

pub put_blocks_one_outcome : OneOutcome put_blocks_contract.ended (λ κs s. s.0.now.at ∷ s.0.now.out.now) put_blocks.Reads.Post
put_blocks_one_outcome κs a r q s t p o = (refl, same_put p o)

pub put_volume_head_one_outcome : OneOutcome put_volume_head_contract.ended (λ κs s. s.0.now.at ∷ s.0.now.out.now) put_volume_head.Reads.Post
put_volume_head_one_outcome κs a r q s t p o = (refl, same_put p o)

pub put_network_head_one_outcome : OneOutcome put_network_head_contract.ended (λ κs s. s.0.now.at ∷ s.0.now.out.now) put_network_head.Reads.Post
put_network_head_one_outcome κs a r q s t p o = (refl, same_put p o)

pub put_info_head_one_outcome : OneOutcome put_info_head_contract.ended (λ κs s. s.0.now.at ∷ s.0.now.out.now) put_info_head.Reads.Post
put_info_head_one_outcome κs a r q s t p o = (refl, same_put p o)

pub put_text_one_outcome : OneOutcome put_text_contract.ended (λ κs s. s.0.now.at ∷ s.0.now.out.now) put_text.Reads.Post
put_text_one_outcome κs a r q s t p o = (refl, same_put p o)

pub put_fields_one_outcome : OneOutcome put_fields_contract.ended (λ κs s. s.0.now.at ∷ s.0.now.out.now) put_fields.Reads.Post
put_fields_one_outcome κs a r q s t p o = (refl, same_put p o)

pub body_one_outcome : OneShown body_contract.ended (λ κs r. r.now) body.Reads.Post
body_one_outcome κs a r q s t p o = p.0 ∙ sym o.0

pub characters_in_one_outcome : OneAnswer characters_in_contract.ended characters_in.Reads.Post
characters_in_one_outcome κs a r q s t p o = p ∙ sym o
