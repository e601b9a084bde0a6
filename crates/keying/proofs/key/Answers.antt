-- An accepted shortcut gives the key's parts; they fit the room that was asked for, so what is put is the key, and otherwise nothing is put.
use Rattle.std.proofs.Common.{arith, rules, refl}
use Rattle.std.proofs.lemmas.Result.{err_from_is_err_and}
use Rattle.reader.proofs.OutlineLaws.{outline_accepted, told}
use Rattle.keying.proofs.Laws.{key_left, key_few, key_room, key_written}
use Rattle.keying.proofs.key.Goals as goal

pub returns-in_err-ends : goal.returns-in_err-ends
returns-in_err-ends c =
    let p = err_from_is_err_and c.from_residual.result c.from_residual.ensures.1 in
    let both = key_left _ _ _ c.in_err-ends.ensures.answer in
    rw (p.1, p.2) (record { answer = both.0; output = both.1.0; numbers = both.1.1 })

pub parts_of-k-requires : goal.parts_of-k-requires
parts_of-k-requires c = (told _ _ c.in_ok-ends.ensures.answer c.in_ok-ends.ensures.lengths c.in_ok-ends.ensures.firsts).noted _ refl

pub key_length-n-requires : goal.key_length-n-requires
key_length-n-requires c = key_few _ _ c.parts_of-k.ensures.stands

pub returns-then-out-n : goal.returns-then-out-n
returns-then-out-n c =
    let whole = outline_accepted _ _ c.in_ok-ends.ensures.answer refl in
    let both = key_room _ _ _ _ whole c.parts_of-k.ensures.shown c.parts_of-k.ensures.stands c.key_length-n.ensures c.if-out-n.true in
    rw c.at.ensures (record { answer = both.0; output = both.1.0; numbers = both.1.1 })

pub put_key-requires : goal.put_key-requires
put_key-requires c =
    let room = c.if-out-n.false in
    let long = c.key_length-n.ensures in
    (c.parts_of-k.ensures.stands, rw c.new-w.ensures (record { room = omega arith }))

pub returns : goal.returns
returns c =
    let whole = outline_accepted _ _ c.in_ok-ends.ensures.answer refl in
    let both = key_written _ _ _ _ whole c.parts_of-k.ensures.shown c.parts_of-k.ensures.stands c.key_length-n.ensures c.if-out-n.false in
    let begun = c.new-w.ensures in
    let same = c.put_key.ensures.same in
    let content = c.put_key.ensures.content in
    let output = both.1.0 in
    record { answer = both.0; output = search rules; numbers = both.1.1 }
