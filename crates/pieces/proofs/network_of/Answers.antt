-- Each body stands where its offset says, with the length that the row has for it; an absent field leads nowhere.
use Rattle.octets.specs.Numbers.{Bytes}
use Rattle.pieces.proofs.TextLaws.{field_below}
use Rattle.pieces.proofs.NetworkLaws.{network_says}
use native.Mathlib.Omega.{arith}
use Rattle.pieces.proofs.network_of.Goals as goal

pub body_at-requires-3 : goal.body_at-requires-3
body_at-requires-3 c =
    let bytes : Bytes c.args.v.now = record { at = λ i. omega (arith, c.shared_slice_known-1.given i) } in
    omega (arith, field_below _ _ _ c.field.ensures bytes, c.requires.stands.1.1)

pub body_at-requires-4 : goal.body_at-requires-4
body_at-requires-4 c =
    let bytes : Bytes c.args.v.now = record { at = λ i. omega (arith, c.shared_slice_known-1.given i) } in
    omega (arith, field_below _ _ _ c.field-2.ensures bytes, c.requires.stands.1.1)

pub returns : goal.returns
returns c =
    network_says _ _ c.args.texts.now c.requires.lengths c.u32_at-flags.ensures c.u32_at-name.ensures c.device_there-device.ensures c.device_unicode_there-both.ensures
    c.provider_there.ensures c.u32_at.ensures c.number_if.ensures c.body_at.ensures
    c.u32_at-2.ensures c.body_at-2.ensures c.field.ensures c.body_at-3.ensures c.field-2.ensures c.body_at-4.ensures
