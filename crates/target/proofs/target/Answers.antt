-- Only an accepted shortcut with a target has texts; they stand in it, so their length fits and what is put is the target.
use Rattle.std.proofs.Common.{arith, rules}
use Rattle.reader.proofs.OutlineLaws.{outline_accepted}
use Rattle.target.proofs.Laws.{found, target_asked, target_left, target_none, target_room, target_written}
use Rattle.target.proofs.target.Goals as goal

pub returns-in_default : goal.returns-in_default
returns-in_default c =
    let both = target_left _ _ _ c.outline_of-o.ensures.answer c.in_default.is c.verdict_of.ensures in record { answer = both.0; output = both.1.0; numbers = both.1.1 }

pub returns-then-not-targeted : goal.returns-then-not-targeted
returns-then-not-targeted c =
    let whole = outline_accepted _ _ c.outline_of-o.ensures.answer c.in-Ok.is in
    let asked = target_asked _ _ c.flags.ensures c.link_flags.ensures c.targeted.ensures in
    let both = target_none _ _ _ _ whole asked c.if-not-targeted.true in
    rw c.at.ensures (record { answer = both.0; output = both.1.0; numbers = both.1.1 })

pub texts_length-n-requires : goal.texts_length-n-requires
texts_length-n-requires c = (found _ _ _ (outline_accepted _ _ c.outline_of-o.ensures.answer c.in-Ok.is) c.texts_in-t.ensures).few

pub returns-then-out-n : goal.returns-then-out-n
returns-then-out-n c =
    let whole = outline_accepted _ _ c.outline_of-o.ensures.answer c.in-Ok.is in
    let asked = target_asked _ _ c.flags.ensures c.link_flags.ensures c.targeted.ensures in
    let both = target_room _ _ _ _ whole asked c.if-not-targeted.false c.texts_in-t.ensures c.texts_length-n.ensures c.if-out-n.true in
    rw c.at-then-out-n.ensures (record { answer = both.0; output = both.1.0; numbers = both.1.1 })

pub put_texts-requires : goal.put_texts-requires
put_texts-requires c =
    let room = c.if-out-n.false in
    let long = c.texts_length-n.ensures in
    ((found _ _ _ (outline_accepted _ _ c.outline_of-o.ensures.answer c.in-Ok.is) c.texts_in-t.ensures).stands, rw c.new-w.ensures (record { room = omega arith }))

pub returns : goal.returns
returns c =
    let whole = outline_accepted _ _ c.outline_of-o.ensures.answer c.in-Ok.is in
    let asked = target_asked _ _ c.flags.ensures c.link_flags.ensures c.targeted.ensures in
    let both = target_written _ _ _ _ whole asked c.if-not-targeted.false c.texts_in-t.ensures c.texts_length-n.ensures c.if-out-n.false in
    let begun = c.new-w.ensures in
    let same = c.put_texts.ensures.same in
    let content = c.put_texts.ensures.content in
    let output = both.1.0 in
    record { answer = both.0; output = search rules; numbers = both.1.1 }
