-- Any two outcomes that the contract of a public call allows are equal.
use mathlib.Core.Path.{sym, ◌∙◌}
use Rattle.octets.proofs.Outcomes.{OneAnswer, OneOutcome}
use Rattle.scheduler.proofs.herringnet_check
use Rattle.scheduler.specs.contracts.herringnet_check as herringnet_check_contract
use Rattle.scheduler.proofs.herringnet_target
use Rattle.scheduler.specs.contracts.herringnet_target as herringnet_target_contract
use Rattle.scheduler.proofs.herringnet_key
use Rattle.scheduler.specs.contracts.herringnet_key as herringnet_key_contract
use Rattle.scheduler.proofs.herringnet_key_blind
use Rattle.scheduler.specs.contracts.herringnet_key_blind as herringnet_key_blind_contract
use Rattle.scheduler.proofs.herringnet_to_unicode
use Rattle.scheduler.specs.contracts.herringnet_to_unicode as herringnet_to_unicode_contract
use Rattle.scheduler.proofs.herringnet_to_bytes
use Rattle.scheduler.specs.contracts.herringnet_to_bytes as herringnet_to_bytes_contract
use Rattle.scheduler.proofs.herringnet_section
use Rattle.scheduler.specs.contracts.herringnet_section as herringnet_section_contract
use Rattle.scheduler.proofs.herringnet_read
use Rattle.scheduler.specs.contracts.herringnet_read as herringnet_read_contract
use Rattle.scheduler.proofs.herringnet_write
use Rattle.scheduler.specs.contracts.herringnet_write as herringnet_write_contract
use Rattle.scheduler.proofs.herringnet_fault
use Rattle.scheduler.specs.contracts.herringnet_fault as herringnet_fault_contract
use Rattle.scheduler.proofs.herringnet_store_list
use Rattle.scheduler.specs.contracts.herringnet_store_list as herringnet_store_list_contract
use Rattle.scheduler.proofs.herringnet_store_write
use Rattle.scheduler.specs.contracts.herringnet_store_write as herringnet_store_write_contract
use Rattle.scheduler.proofs.herringnet_path_block
use Rattle.scheduler.specs.contracts.herringnet_path_block as herringnet_path_block_contract
use Rattle.scheduler.proofs.herringnet_shelf_check
use Rattle.scheduler.specs.contracts.herringnet_shelf_check as herringnet_shelf_check_contract
use Rattle.scheduler.proofs.herringnet_shelf_entry
use Rattle.scheduler.specs.contracts.herringnet_shelf_entry as herringnet_shelf_entry_contract
use Rattle.scheduler.proofs.herringnet_shelf_one
use Rattle.scheduler.specs.contracts.herringnet_shelf_one as herringnet_shelf_one_contract
use Rattle.scheduler.proofs.herringnet_shelf_build
use Rattle.scheduler.specs.contracts.herringnet_shelf_build as herringnet_shelf_build_contract
use Rattle.scheduler.proofs.herringnet_shelf_from_old
use Rattle.scheduler.specs.contracts.herringnet_shelf_from_old as herringnet_shelf_from_old_contract
use Rattle.scheduler.proofs.herringnet_shelf_to_old
use Rattle.scheduler.specs.contracts.herringnet_shelf_to_old as herringnet_shelf_to_old_contract
use Rattle.scheduler.proofs.herringnet_salvage
use Rattle.scheduler.specs.contracts.herringnet_salvage as herringnet_salvage_contract

pub herringnet_check_one_outcome : OneAnswer herringnet_check_contract.ended herringnet_check.Reads.Post
herringnet_check_one_outcome κs a r q s t p o = p ∙ sym o

pub herringnet_target_one_outcome : OneOutcome herringnet_target_contract.ended (λ κs s. s.1.0.now) herringnet_target.Reads.Post
herringnet_target_one_outcome κs a r q s t p o = (p.0 ∙ sym o.0, p.1 ∙ sym o.1)

pub herringnet_key_one_outcome : OneOutcome herringnet_key_contract.ended (λ κs s. s.1.0.now) herringnet_key.Reads.Post
herringnet_key_one_outcome κs a r q s t p o = (p.0 ∙ sym o.0, p.1 ∙ sym o.1)

pub herringnet_key_blind_one_outcome : OneAnswer herringnet_key_blind_contract.ended herringnet_key_blind.Reads.Post
herringnet_key_blind_one_outcome κs a r q s t p o = p ∙ sym o

pub herringnet_to_unicode_one_outcome : OneOutcome herringnet_to_unicode_contract.ended (λ κs s. s.1.0.now) herringnet_to_unicode.Reads.Post
herringnet_to_unicode_one_outcome κs a r q s t p o = (p.0 ∙ sym o.0, p.1 ∙ sym o.1)

pub herringnet_to_bytes_one_outcome : OneOutcome herringnet_to_bytes_contract.ended (λ κs s. s.1.0.now) herringnet_to_bytes.Reads.Post
herringnet_to_bytes_one_outcome κs a r q s t p o = (p.0 ∙ sym o.0, p.1 ∙ sym o.1)

pub herringnet_section_one_outcome : OneAnswer herringnet_section_contract.ended herringnet_section.Reads.Post
herringnet_section_one_outcome κs a r q s t p o = p ∙ sym o

pub herringnet_read_one_outcome : OneOutcome herringnet_read_contract.ended (λ κs s. s.1.0.now) herringnet_read.Reads.Post
herringnet_read_one_outcome κs a r q s t p o = (p.0 ∙ sym o.0, p.1 ∙ sym o.1)

pub herringnet_write_one_outcome : OneOutcome herringnet_write_contract.ended (λ κs s. s.1.1.0.now) herringnet_write.Reads.Post
herringnet_write_one_outcome κs a r q s t p o = (p.0 ∙ sym o.0, p.1.0 ∙ sym o.1.0)

pub herringnet_fault_one_outcome : OneAnswer herringnet_fault_contract.ended herringnet_fault.Reads.Post
herringnet_fault_one_outcome κs a r q s t p o = p ∙ sym o

pub herringnet_store_list_one_outcome : OneOutcome herringnet_store_list_contract.ended (λ κs s. s.1.0.now) herringnet_store_list.Reads.Post
herringnet_store_list_one_outcome κs a r q s t p o = (p.0 ∙ sym o.0, p.1 ∙ sym o.1)

pub herringnet_store_write_one_outcome : OneOutcome herringnet_store_write_contract.ended (λ κs s. s.1.1.0.now) herringnet_store_write.Reads.Post
herringnet_store_write_one_outcome κs a r q s t p o = (p.0 ∙ sym o.0, p.1.0 ∙ sym o.1.0)

pub herringnet_path_block_one_outcome : OneOutcome herringnet_path_block_contract.ended (λ κs s. s.1.1.1.1.1.0.now) herringnet_path_block.Reads.Post
herringnet_path_block_one_outcome κs a r q s t p o = (p.0 ∙ sym o.0, p.1.0 ∙ sym o.1.0)

pub herringnet_shelf_check_one_outcome : OneAnswer herringnet_shelf_check_contract.ended herringnet_shelf_check.Reads.Post
herringnet_shelf_check_one_outcome κs a r q s t p o = p ∙ sym o

pub herringnet_shelf_entry_one_outcome : OneAnswer herringnet_shelf_entry_contract.ended herringnet_shelf_entry.Reads.Post
herringnet_shelf_entry_one_outcome κs a r q s t p o = p ∙ sym o

pub herringnet_shelf_one_one_outcome : OneAnswer herringnet_shelf_one_contract.ended herringnet_shelf_one.Reads.Post
herringnet_shelf_one_one_outcome κs a r q s t p o = p ∙ sym o

pub herringnet_shelf_build_one_outcome : OneOutcome herringnet_shelf_build_contract.ended (λ κs s. s.1.1.0.now) herringnet_shelf_build.Reads.Post
herringnet_shelf_build_one_outcome κs a r q s t p o = (p.0 ∙ sym o.0, p.1 ∙ sym o.1)

pub herringnet_shelf_from_old_one_outcome : OneOutcome herringnet_shelf_from_old_contract.ended (λ κs s. s.1.0.now) herringnet_shelf_from_old.Reads.Post
herringnet_shelf_from_old_one_outcome κs a r q s t p o = (p.0 ∙ sym o.0, p.1 ∙ sym o.1)

pub herringnet_shelf_to_old_one_outcome : OneOutcome herringnet_shelf_to_old_contract.ended (λ κs s. s.1.0.now) herringnet_shelf_to_old.Reads.Post
herringnet_shelf_to_old_one_outcome κs a r q s t p o = (p.0 ∙ sym o.0, p.1 ∙ sym o.1)

pub herringnet_salvage_one_outcome : OneOutcome herringnet_salvage_contract.ended (λ κs s. s.1.0.now) herringnet_salvage.Reads.Post
herringnet_salvage_one_outcome κs a r q s t p o = (p.0 ∙ sym o.0, p.1.0 ∙ sym o.1.0)
