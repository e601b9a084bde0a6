-- A refused reading is the answer; one law for each way out after it.
use Rattle.octets.specs.Numbers.{Bytes}
use Rattle.moving.proofs.CallLaws.{move_left, is_read, is_Inside, move_none, move_maps, move_headed, move_made}
use borrow.Author.Tests.{not-false}
use mathlib.Core.Path.{sym, ◌∙◌}
use native.Mathlib.Omega.{arith}
use Rattle.std.proofs.lemmas.Result.{err_from_is_err_and}
use Rattle.moving.proofs.move_to.Goals as goal

pub returns-in_err-g : goal.returns-in_err-g
returns-in_err-g c =
    let p = err_from_is_err_and c.from_residual.result c.from_residual.ensures.1 in
    let both = move_left c.args.profile c.args.unicode c.args.s.now c.args.out.now c.read-g.ensures.answer c.in_err-g.was in
    rw (p.1, p.2) (record { answer = both.0; output = both.1 })

pub maps-requires : goal.maps-requires
maps-requires c =
    is_Inside c.args.profile (is_read c.args.profile c.args.unicode c.args.s.now c.args.out.now c.read-g.ensures.answer c.in_ok-g.was (record { at = λ i. omega (arith, c.shared_slice_known-1.given i) }))

pub returns-then-not-maps : goal.returns-then-not-maps
returns-then-not-maps c =
    rw c.at.ensures (let both = move_none c.args.profile c.args.unicode c.args.s.now c.args.out.now c.read-g.ensures.answer c.in_ok-g.was (record { at = λ i. omega (arith, c.shared_slice_known-1.given i) }) c.maps.ensures c.if-not-maps.true-raw in record { answer = both.0; output = both.1 })

pub returns-then-not-head_fits : goal.returns-then-not-head_fits
returns-then-not-head_fits c =
    let bytes : Bytes c.args.s.now = record { at = λ i. omega (arith, c.shared_slice_known-1.given i) } in
    let maps = move_maps c.args.profile c.args.unicode c.args.s.now c.args.out.now c.read-g.ensures.answer c.in_ok-g.was bytes c.maps.ensures c.if-not-maps.false-raw in
    rw c.at-then-not-head_fits.ensures (let both = move_headed c.args.profile c.args.unicode c.args.s.now c.args.out.now c.read-g.ensures.answer c.in_ok-g.was bytes maps c.head_fits.ensures c.if-not-head_fits.true-raw in record { answer = both.0; output = both.1 })

pub write_moved-requires : goal.write_moved-requires
write_moved-requires c =
    let bytes : Bytes c.args.s.now = record { at = λ i. omega (arith, c.shared_slice_known-1.given i) } in record { read = is_read c.args.profile c.args.unicode c.args.s.now c.args.out.now c.read-g.ensures.answer c.in_ok-g.was bytes; maps = move_maps c.args.profile c.args.unicode c.args.s.now c.args.out.now c.read-g.ensures.answer c.in_ok-g.was bytes c.maps.ensures c.if-not-maps.false-raw; head = sym c.head_fits.ensures ∙ not-false c.head_fits.result c.if-not-head_fits.false-raw }

pub returns : goal.returns
returns c =
    let bytes : Bytes c.args.s.now = record { at = λ i. omega (arith, c.shared_slice_known-1.given i) } in
    let maps = move_maps c.args.profile c.args.unicode c.args.s.now c.args.out.now c.read-g.ensures.answer c.in_ok-g.was bytes c.maps.ensures c.if-not-maps.false-raw in
    let both = move_made c.args.profile c.args.unicode c.args.s.now c.args.out.now c.read-g.ensures.answer c.in_ok-g.was bytes maps c.write_moved.ensures.answer c.write_moved.ensures.output in record { answer = both.0; output = both.1 }
