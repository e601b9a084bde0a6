-- Any two outcomes that the contract of a public call allows are equal.
use mathlib.Core.Path.{sym, ◌∙◌}
use Rattle.octets.proofs.Outcomes.{OneAnswer}
use Rattle.header.proofs.flags_ok
use Rattle.header.specs.contracts.flags_ok as flags_ok_contract
use Rattle.header.proofs.attributes_ok
use Rattle.header.specs.contracts.attributes_ok as attributes_ok_contract
use Rattle.header.proofs.hotkey_ok
use Rattle.header.specs.contracts.hotkey_ok as hotkey_ok_contract
use Rattle.header.proofs.header_fields
use Rattle.header.specs.contracts.header_fields as header_fields_contract
use Rattle.header.proofs.header
use Rattle.header.specs.contracts.header as header_contract
use Rattle.header.proofs.window
use Rattle.header.specs.contracts.window as window_contract

pub flags_ok_one_outcome : OneAnswer flags_ok_contract.ended flags_ok.Reads.Post
flags_ok_one_outcome κs a r q s t p o = p ∙ sym o

pub attributes_ok_one_outcome : OneAnswer attributes_ok_contract.ended attributes_ok.Reads.Post
attributes_ok_one_outcome κs a r q s t p o = p ∙ sym o

pub hotkey_ok_one_outcome : OneAnswer hotkey_ok_contract.ended hotkey_ok.Reads.Post
hotkey_ok_one_outcome κs a r q s t p o = p ∙ sym o

pub header_fields_one_outcome : OneAnswer header_fields_contract.ended header_fields.Reads.Post
header_fields_one_outcome κs a r q s t p o = p ∙ sym o

pub header_one_outcome : OneAnswer header_contract.ended header.Reads.Post
header_one_outcome κs a r q s t p o = p ∙ sym o

pub window_one_outcome : OneAnswer window_contract.ended window.Reads.Post
window_one_outcome κs a r q s t p o = p ∙ sym o
