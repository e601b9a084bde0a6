-- Any two outcomes that the contract of a public call allows are equal.
use mathlib.Core.Path.{refl, sym, ◌∙◌}
use mathlib.Core.List.{◌∷◌}
use Rattle.octets.proofs.Outcomes.{OneOutcome}
use Rattle.copies.proofs.OutputLaws.{same_put}
use Rattle.moving.proofs.to_unicode
use Rattle.moving.specs.contracts.to_unicode as to_unicode_contract
use Rattle.moving.proofs.to_bytes
use Rattle.moving.specs.contracts.to_bytes as to_bytes_contract
use Rattle.moving.proofs.texts.put_strings
use Rattle.moving.specs.contracts.texts.put_strings as put_strings_contract
use Rattle.moving.proofs.texts.put_info
use Rattle.moving.specs.contracts.texts.put_info as put_info_contract

pub to_unicode_one_outcome : OneOutcome to_unicode_contract.ended (λ κs s. s.1.0.now) to_unicode.Reads.Post
to_unicode_one_outcome κs a r q s t p o = (p.0 ∙ sym o.0, p.1.0 ∙ sym o.1.0)

pub to_bytes_one_outcome : OneOutcome to_bytes_contract.ended (λ κs s. s.1.0.now) to_bytes.Reads.Post
to_bytes_one_outcome κs a r q s t p o = (p.0 ∙ sym o.0, p.1.0 ∙ sym o.1.0)

pub put_strings_one_outcome : OneOutcome put_strings_contract.ended (λ κs s. s.0.now.at ∷ s.0.now.out.now) put_strings.Reads.Post
put_strings_one_outcome κs a r q s t p o = (refl, same_put p o)

pub put_info_one_outcome : OneOutcome put_info_contract.ended (λ κs s. s.0.now.at ∷ s.0.now.out.now) put_info.Reads.Post
put_info_one_outcome κs a r q s t p o = (refl, same_put p o)
