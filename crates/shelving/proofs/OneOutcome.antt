-- Any two outcomes that the contract of a public call allows are equal.
use mathlib.Core.Path.{sym, ◌∙◌}
use Rattle.octets.proofs.Outcomes.{OneAnswer, OneShown, OneOutcome}
use Rattle.shelving.proofs.entries.entry_ok
use Rattle.shelving.specs.contracts.entries.entry_ok as entry_ok_contract
use Rattle.shelving.proofs.entries.first_bad
use Rattle.shelving.specs.contracts.entries.first_bad as first_bad_contract
use Rattle.shelving.proofs.shelf_check
use Rattle.shelving.specs.contracts.shelf_check as shelf_check_contract
use Rattle.shelving.proofs.shelf_entry
use Rattle.shelving.specs.contracts.shelf_entry as shelf_entry_contract
use Rattle.shelving.proofs.shelf_one
use Rattle.shelving.specs.contracts.shelf_one as shelf_one_contract
use Rattle.shelving.proofs.shelf_fetch
use Rattle.shelving.specs.contracts.shelf_fetch as shelf_fetch_contract
use Rattle.shelving.proofs.shelf_fetch_one
use Rattle.shelving.specs.contracts.shelf_fetch_one as shelf_fetch_one_contract
use Rattle.shelving.proofs.shelf_build
use Rattle.shelving.specs.contracts.shelf_build as shelf_build_contract
use Rattle.shelving.proofs.shelf_from_old
use Rattle.shelving.specs.contracts.shelf_from_old as shelf_from_old_contract
use Rattle.shelving.proofs.shelf_to_old
use Rattle.shelving.specs.contracts.shelf_to_old as shelf_to_old_contract

pub entry_ok_one_outcome : OneAnswer entry_ok_contract.ended entry_ok.Reads.Post
entry_ok_one_outcome κs a r q s t p o = p ∙ sym o

pub first_bad_one_outcome : OneAnswer first_bad_contract.ended first_bad.Reads.Post
first_bad_one_outcome κs a r q s t p o = p ∙ sym o

pub shelf_check_one_outcome : OneAnswer shelf_check_contract.ended shelf_check.Reads.Post
shelf_check_one_outcome κs a r q s t p o = p.0 ∙ sym o.0

pub shelf_entry_one_outcome : OneAnswer shelf_entry_contract.ended shelf_entry.Reads.Post
shelf_entry_one_outcome κs a r q s t p o = p.0 ∙ sym o.0

pub shelf_one_one_outcome : OneAnswer shelf_one_contract.ended shelf_one.Reads.Post
shelf_one_one_outcome κs a r q s t p o = p.0 ∙ sym o.0

pub shelf_fetch_one_outcome : OneShown shelf_fetch_contract.ended (λ κs r. r.now) shelf_fetch.Reads.Post
shelf_fetch_one_outcome κs a r q s t p o = p ∙ sym o

pub shelf_fetch_one_one_outcome : OneShown shelf_fetch_one_contract.ended (λ κs r. r.now) shelf_fetch_one.Reads.Post
shelf_fetch_one_one_outcome κs a r q s t p o = p ∙ sym o

pub shelf_build_one_outcome : OneOutcome shelf_build_contract.ended (λ κs s. s.1.1.0.now) shelf_build.Reads.Post
shelf_build_one_outcome κs a r q s t p o = (p.0 ∙ sym o.0, p.1.0 ∙ sym o.1.0)

pub shelf_from_old_one_outcome : OneOutcome shelf_from_old_contract.ended (λ κs s. s.1.0.now) shelf_from_old.Reads.Post
shelf_from_old_one_outcome κs a r q s t p o = (p.0 ∙ sym o.0, p.1.0 ∙ sym o.1.0)

pub shelf_to_old_one_outcome : OneOutcome shelf_to_old_contract.ended (λ κs s. s.1.0.now) shelf_to_old.Reads.Post
shelf_to_old_one_outcome κs a r q s t p o = (p.0 ∙ sym o.0, p.1.0 ∙ sym o.1.0)
