-- Only 51 fields that are a record get a block; the record from them is the one that the definition changes.
use Rattle.scheduler.proofs.ProfileLaws.{a_profile, that_profile}
use Rattle.scheduler.proofs.PathLaws.{path_miscounted, path_no_record, record_there, path_answered}
use Rattle.scheduler.proofs.herringnet_path_block.Goals as goal

pub returns-then-f-ne51 : goal.returns-then-f-ne51
returns-then-f-ne51 c =
    let told = path_miscounted c.in-Some.profile c.args.f.now c.args.d.now c.args.signature c.args.text.now c.args.unicode.now c.args.out.now c.if-f-ne51.true in
    rw (a_profile _ _ c.in-Some.ensures, that_profile _ _ c.in-Some.ensures) (record { answer = told.0; output = told.1.0; least = λ h. told.1.1 })

pub returns-then-not-are_record : goal.returns-then-not-are_record
returns-then-not-are_record c =
    let told = path_no_record c.in-Some.profile c.args.f.now c.args.d.now c.args.signature c.args.text.now c.args.unicode.now c.args.out.now c.if-f-ne51.false c.are_record.ensures c.if-not-are_record.true-raw in
    rw (a_profile _ _ c.in-Some.ensures, that_profile _ _ c.in-Some.ensures) (record { answer = told.0; output = told.1.0; least = λ h. told.1.1 })

pub record_from-q-requires : goal.record_from-q-requires
record_from-q-requires c =
    record { size = c.if-f-ne51.false; numbers = record_there c.in-Some.profile _ c.args.d.now c.args.signature c.args.text.now c.args.unicode.now c.args.out.now c.if-f-ne51.false c.are_record.ensures c.if-not-are_record.false-raw }

pub returns : goal.returns
returns c =
    let told =
    path_answered c.in-Some.profile c.args.f.now c.args.d.now c.args.signature c.args.text.now c.args.unicode.now c.args.out.now c.if-f-ne51.false c.are_record.ensures c.if-not-are_record.false-raw
    c.record_from-q.ensures (c.path_block.ensures.answer, (c.path_block.ensures.output, (c.path_block.ensures.numbers, c.path_block.ensures.least))) c.code_of.ensures in
    rw (a_profile _ _ c.in-Some.ensures, that_profile _ _ c.in-Some.ensures) (record { answer = told.0; output = told.1.0; least = λ h. told.1.1 })
