-- The row leads to the blocks, and each bit is one sum of the definition.
use Rattle.std.proofs.Common.{◌≡◌, ◌∙◌, ℕ, List}
use Rattle.format.specs.declared.Profile.{Profile}
use Rattle.format.specs.declared.Record.{Record}
use Rattle.format.specs.Demands.{Accepts}
use Rattle.reader.specs.Steps.Finish.{FirstsOf}
use Rattle.reader.proofs.OutlineLaws.{accepted}
use Rattle.blocks.proofs.FirstLaws.{place_from}
use Rattle.blinding.proofs.BitLaws.{accepted_bits, there_is, path_ready, store_ready, bits_told}
use Rattle.blinding.proofs.bits_of.Goals as goal

-- the record that was made is the one that was read
whole : (profile : Profile) (s : List ℕ) {r q : Record} → r ≡ q → Accepts profile s q → Accepts profile s r
whole profile s e a = rw e a

noted : (s row : List ℕ) {r q : Record} → r ≡ q → FirstsOf s q row → FirstsOf s r row
noted s row e f = rw e f

pub block_from-environment-requires : goal.block_from-environment-requires
block_from-environment-requires c = (accepted_bits _ _ _ (whole _ _ c.record-r.ensures (accepted c.args.o.now.whole)) (noted _ _ c.record-r.ensures c.requires)).environment.reached

pub block_from-darwin-requires : goal.block_from-darwin-requires
block_from-darwin-requires c = (accepted_bits _ _ _ (whole _ _ c.record-r.ensures (accepted c.args.o.now.whole)) (noted _ _ c.record-r.ensures c.requires)).darwin.reached

pub block_from-store-requires : goal.block_from-store-requires
block_from-store-requires c = (accepted_bits _ _ _ (whole _ _ c.record-r.ensures (accepted c.args.o.now.whole)) (noted _ _ c.record-r.ensures c.requires)).reached

pub block_from-items-requires : goal.block_from-items-requires
block_from-items-requires c = (accepted_bits _ _ _ (whole _ _ c.record-r.ensures (accepted c.args.o.now.whole)) (noted _ _ c.record-r.ensures c.requires)).items.reached

pub names_driver-requires : goal.names_driver-requires
names_driver-requires c =
    ((accepted_bits _ _ _ (whole _ _ c.record-r.ensures (accepted c.args.o.now.whole)) (noted _ _ c.record-r.ensures c.requires)).inside, path_ready _ _ _ (whole _ _ c.record-r.ensures (accepted c.args.o.now.whole)) (noted _ _ c.record-r.ensures c.requires) _ c.block_from-environment.ensures)

pub other_target-requires : goal.other_target-requires
other_target-requires c = (accepted_bits _ _ _ (whole _ _ c.record-r.ensures (accepted c.args.o.now.whole)) (noted _ _ c.record-r.ensures c.requires)).inside

pub other_environment-requires : goal.other_environment-requires
other_environment-requires c = path_ready _ _ _ (whole _ _ c.record-r.ensures (accepted c.args.o.now.whole)) (noted _ _ c.record-r.ensures c.requires) _ c.block_from-environment.ensures

pub store_has_values-requires : goal.store_has_values-requires
store_has_values-requires c = store_ready _ _ _ (whole _ _ c.record-r.ensures (accepted c.args.o.now.whole)) (noted _ _ c.record-r.ensures c.requires) _ c.block_from-store.ensures

pub returns : goal.returns
returns c =
    let R = accepted_bits _ _ _ (whole _ _ c.record-r.ensures (accepted c.args.o.now.whole)) (noted _ _ c.record-r.ensures c.requires) in
    let blocks : c.bit_if-4.result ≡ _ = c.bit_if-4.ensures.0 ∙ rw (c.is_some.ensures, c.is_some-2.ensures, there_is R.darwin _ c.block_from-darwin.ensures, there_is R.items _ c.block_from-items.ensures) in
    bits_told _ _ _ (whole _ _ c.record-r.ensures (accepted c.args.o.now.whole)) (noted _ _ c.record-r.ensures c.requires)
    (place_from _ _ _ c.block_from-environment.ensures) (place_from _ _ _ c.block_from-darwin.ensures) (place_from _ _ _ c.block_from-store.ensures) (place_from _ _ _ c.block_from-items.ensures)
    c.names_driver.ensures c.could_name.ensures c.bit_if.ensures.0
    c.other_target.ensures c.bit_if-2.ensures.0
    c.other_environment.ensures c.bit_if-3.ensures.0
    blocks
    c.store_has_values.ensures c.bit_if-5.ensures.0
