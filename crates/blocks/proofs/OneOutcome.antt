-- Any two outcomes that the contract of a public call allows are equal.
use mathlib.Core.Path.{◌≡◌, refl, sym, ap, ◌∙◌}
use Rattle.std.specs.Prelude.{Option, Some, None, SomeIff}
use Rattle.octets.proofs.Outcomes.{OneAnswer, OneOutcome}
use Rattle.blocks.proofs.WalkLaws.{Passed-once}
use Rattle.blocks.proofs.step
use Rattle.blocks.specs.contracts.step as step_contract
use Rattle.blocks.proofs.run
use Rattle.blocks.specs.contracts.run as run_contract
use Rattle.blocks.proofs.blocks
use Rattle.blocks.specs.contracts.blocks as blocks_contract
use Rattle.blocks.proofs.block_from
use Rattle.blocks.specs.contracts.block_from as block_from_contract
use Rattle.blocks.proofs.nth_block
use Rattle.blocks.specs.contracts.nth_block as nth_block_contract

pub step_one_outcome : OneAnswer step_contract.ended step.Reads.Post
step_one_outcome κs a r q s t p o = p ∙ sym o

pub run_one_outcome : OneOutcome run_contract.ended (λ κs s. s.1.1.0.now) run.Reads.Post
run_one_outcome κs a r q s t p o = Passed-once p.0 p.1 o.0 o.1

pub blocks_one_outcome : OneOutcome blocks_contract.ended (λ κs s. s.1.1.0.now) blocks.Reads.Post
blocks_one_outcome κs a r q s t p o = (p.0 ∙ sym o.0, p.1 ∙ sym o.1)

-- a value for a fact is the only one
only_one : {A : Type 0} (P : Type 0) (v : A) (a b : Option A) → SomeIff a P v → SomeIff b P v → a ≡ b
only_one P v (Some x) (Some y) e f = ap Some (e.1 ∙ sym f.1)
only_one P v (Some x) None e f = absurd (f e.0)
only_one P v None (Some y) e f = absurd (e f.0)
only_one P v None None e f = refl

pub block_from_one_outcome : OneAnswer block_from_contract.ended block_from.Reads.Post
block_from_one_outcome κs a r q s t p o = only_one _ _ r q p o

pub nth_block_one_outcome : OneAnswer nth_block_contract.ended nth_block.Reads.Post
nth_block_one_outcome κs a r q s t p o = p ∙ sym o
