-- Any two outcomes that the contract of a public call allows are equal.
use mathlib.Core.Path.{refl, sym, ◌∙◌}
use mathlib.Core.List.{◌∷◌}
use Rattle.octets.proofs.Outcomes.{OneAnswer, OneOutcome}
use Rattle.copies.proofs.OutputLaws.{same_put}
use Rattle.copies.proofs.put_bytes
use Rattle.copies.specs.contracts.put_bytes as put_bytes_contract
use Rattle.copies.proofs.output.Output.new as output_new
use Rattle.copies.specs.contracts.output.Output.new as output_new_contract
use Rattle.copies.proofs.output.Output.at as output_at
use Rattle.copies.specs.contracts.output.Output.at as output_at_contract
use Rattle.copies.proofs.output.Output.put_u8 as output_put_u8
use Rattle.copies.specs.contracts.output.Output.put_u8 as output_put_u8_contract
use Rattle.copies.proofs.output.Output.put_u16 as output_put_u16
use Rattle.copies.specs.contracts.output.Output.put_u16 as output_put_u16_contract
use Rattle.copies.proofs.output.Output.put_u32 as output_put_u32
use Rattle.copies.specs.contracts.output.Output.put_u32 as output_put_u32_contract
use Rattle.copies.proofs.output.Output.put_u64 as output_put_u64
use Rattle.copies.specs.contracts.output.Output.put_u64 as output_put_u64_contract
use Rattle.copies.proofs.output.Output.put_bytes as output_put_bytes
use Rattle.copies.specs.contracts.output.Output.put_bytes as output_put_bytes_contract

pub put_bytes_one_outcome : OneOutcome put_bytes_contract.ended (λ κs s. s.0.now) put_bytes.Reads.Post
put_bytes_one_outcome κs a r q s t p o = (refl, p ∙ sym o)

-- of an output: its place, and the content of its buffer

pub output_new_one_outcome : OneAnswer output_new_contract.ended output_new.Reads.Post
output_new_one_outcome κs a r q s t p o = p ∙ sym o

pub output_at_one_outcome : OneAnswer output_at_contract.ended output_at.Reads.Post
output_at_one_outcome κs a r q s t p o = p ∙ sym o

pub output_put_u8_one_outcome : OneOutcome output_put_u8_contract.ended (λ κs s. s.0.now.at ∷ s.0.now.out.now) output_put_u8.Reads.Post
output_put_u8_one_outcome κs a r q s t p o = (refl, same_put p o)

pub output_put_u16_one_outcome : OneOutcome output_put_u16_contract.ended (λ κs s. s.0.now.at ∷ s.0.now.out.now) output_put_u16.Reads.Post
output_put_u16_one_outcome κs a r q s t p o = (refl, same_put p o)

pub output_put_u32_one_outcome : OneOutcome output_put_u32_contract.ended (λ κs s. s.0.now.at ∷ s.0.now.out.now) output_put_u32.Reads.Post
output_put_u32_one_outcome κs a r q s t p o = (refl, same_put p o)

pub output_put_u64_one_outcome : OneOutcome output_put_u64_contract.ended (λ κs s. s.0.now.at ∷ s.0.now.out.now) output_put_u64.Reads.Post
output_put_u64_one_outcome κs a r q s t p o = (refl, same_put p o)

pub output_put_bytes_one_outcome : OneOutcome output_put_bytes_contract.ended (λ κs s. s.0.now.at ∷ s.0.now.out.now) output_put_bytes.Reads.Post
output_put_bytes_one_outcome κs a r q s t p o = (refl, same_put p o)
