-- Any two outcomes that the contract of a public call allows are equal.
use mathlib.Core.Path.{sym, ◌∙◌}
use Rattle.octets.proofs.Outcomes.{OneAnswer, OneOutcome}
use Rattle.codepage.proofs.texts.all_assigned
use Rattle.codepage.specs.contracts.texts.all_assigned as all_assigned_contract
use Rattle.codepage.proofs.texts.all_in_table
use Rattle.codepage.specs.contracts.texts.all_in_table as all_in_table_contract
use Rattle.codepage.proofs.texts.is_translation
use Rattle.codepage.specs.contracts.texts.is_translation as is_translation_contract
use Rattle.codepage.proofs.texts.put_units
use Rattle.codepage.specs.contracts.texts.put_units as put_units_contract
use Rattle.codepage.proofs.texts.put_bytes
use Rattle.codepage.specs.contracts.texts.put_bytes as put_bytes_contract

pub all_assigned_one_outcome : OneAnswer all_assigned_contract.ended all_assigned.Reads.Post
all_assigned_one_outcome κs a r q s t p o = p ∙ sym o

pub all_in_table_one_outcome : OneAnswer all_in_table_contract.ended all_in_table.Reads.Post
all_in_table_one_outcome κs a r q s t p o = p ∙ sym o

pub is_translation_one_outcome : OneAnswer is_translation_contract.ended is_translation.Reads.Post
is_translation_one_outcome κs a r q s t p o = p ∙ sym o

pub put_units_one_outcome : OneOutcome put_units_contract.ended (λ κs s. s.0.now) put_units.Reads.Post
put_units_one_outcome κs a r q s t p o = (p.next ∙ sym o.next, p.content ∙ sym o.content)

pub put_bytes_one_outcome : OneOutcome put_bytes_contract.ended (λ κs s. s.0.now) put_bytes.Reads.Post
put_bytes_one_outcome κs a r q s t p o = (p.next ∙ sym o.next, p.content ∙ sym o.content)
