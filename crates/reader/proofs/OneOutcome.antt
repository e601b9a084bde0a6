-- Any two outcomes that the contract of a public call allows are equal.
use mathlib.Core.Path.{refl, sym, ◌∙◌}
use mathlib.Core.List.{◌++◌}
use Rattle.octets.proofs.Outcomes.{OneAnswer, OneOutcome}
use Rattle.reader.proofs.outline_of
use Rattle.reader.specs.contracts.outline_of as outline_of_contract
use Rattle.reader.proofs.read
use Rattle.reader.specs.contracts.read as read_contract
use Rattle.reader.proofs.verdict_of
use Rattle.reader.specs.contracts.verdict_of as verdict_of_contract
use Rattle.reader.proofs.check
use Rattle.reader.specs.contracts.check as check_contract
use Rattle.reader.proofs.fault
use Rattle.reader.specs.contracts.fault as fault_contract
use Rattle.reader.proofs.outline.Outline.flags as outline_flags
use Rattle.reader.specs.contracts.outline.Outline.flags as outline_flags_contract
use Rattle.reader.proofs.outline.Outline.link_flags as outline_link_flags
use Rattle.reader.specs.contracts.outline.Outline.link_flags as outline_link_flags_contract
use Rattle.reader.proofs.outline.Outline.first_text as outline_first_text
use Rattle.reader.specs.contracts.outline.Outline.first_text as outline_first_text_contract
use Rattle.reader.proofs.outline.Outline.suffix_text as outline_suffix_text
use Rattle.reader.specs.contracts.outline.Outline.suffix_text as outline_suffix_text_contract
use Rattle.reader.proofs.outline.Outline.workdir as outline_workdir
use Rattle.reader.specs.contracts.outline.Outline.workdir as outline_workdir_contract
use Rattle.reader.proofs.outline.Outline.arguments as outline_arguments
use Rattle.reader.specs.contracts.outline.Outline.arguments as outline_arguments_contract
use Rattle.reader.proofs.outline.Outline.put_numbers as outline_put_numbers
use Rattle.reader.specs.contracts.outline.Outline.put_numbers as outline_put_numbers_contract
use Rattle.reader.proofs.outline.Outline.record as outline_record
use Rattle.reader.specs.contracts.outline.Outline.record as outline_record_contract

-- the rows are arrays of 9 and of 11, so that both are known by what stands in them one after the other
pub outline_of_one_outcome : OneOutcome outline_of_contract.ended (λ κs s. s.1.1.0.now ++ s.1.1.1.0.now) outline_of.Reads.Post
outline_of_one_outcome κs a r q s t p o = (p.0 ∙ sym o.0, rw (p.1.1.0, o.1.1.0, p.1.1.1.0, o.1.1.1.0))

pub read_one_outcome : OneAnswer read_contract.ended read.Reads.Post
read_one_outcome κs a r q s t p o = p.0 ∙ sym o.0

pub verdict_of_one_outcome : OneAnswer verdict_of_contract.ended verdict_of.Reads.Post
verdict_of_one_outcome κs a r q s t p o = p ∙ sym o

pub check_one_outcome : OneAnswer check_contract.ended check.Reads.Post
check_one_outcome κs a r q s t p o = p.0 ∙ sym o.0

pub fault_one_outcome : OneAnswer fault_contract.ended fault.Reads.Post
fault_one_outcome κs a r q s t p o = p ∙ sym o

pub outline_flags_one_outcome : OneAnswer outline_flags_contract.ended outline_flags.Reads.Post
outline_flags_one_outcome κs a r q s t p o = p ∙ sym o

pub outline_link_flags_one_outcome : OneAnswer outline_link_flags_contract.ended outline_link_flags.Reads.Post
outline_link_flags_one_outcome κs a r q s t p o = p ∙ sym o

pub outline_first_text_one_outcome : OneAnswer outline_first_text_contract.ended outline_first_text.Reads.Post
outline_first_text_one_outcome κs a r q s t p o = p ∙ sym o

pub outline_suffix_text_one_outcome : OneAnswer outline_suffix_text_contract.ended outline_suffix_text.Reads.Post
outline_suffix_text_one_outcome κs a r q s t p o = p ∙ sym o

pub outline_workdir_one_outcome : OneAnswer outline_workdir_contract.ended outline_workdir.Reads.Post
outline_workdir_one_outcome κs a r q s t p o = p ∙ sym o

pub outline_arguments_one_outcome : OneAnswer outline_arguments_contract.ended outline_arguments.Reads.Post
outline_arguments_one_outcome κs a r q s t p o = p ∙ sym o

pub outline_put_numbers_one_outcome : OneOutcome outline_put_numbers_contract.ended (λ κs s. s.1.0.now) outline_put_numbers.Reads.Post
outline_put_numbers_one_outcome κs a r q s t p o = (refl, p ∙ sym o)

pub outline_record_one_outcome : OneAnswer outline_record_contract.ended outline_record.Reads.Post
outline_record_one_outcome κs a r q s t p o = p ∙ sym o
