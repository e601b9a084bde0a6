-- Only 51 fields that are a record are written; the record from them is the one that the definition writes.
use Rattle.scheduler.proofs.ProfileLaws.{a_profile, that_profile}
use Rattle.scheduler.proofs.FieldLaws.{write_miscounted, write_no_record, is_record, write_answered}
use Rattle.scheduler.proofs.herringnet_write.Goals as goal

pub returns-then-f-ne51 : goal.returns-then-f-ne51
returns-then-f-ne51 c =
    let told = write_miscounted c.in-Some.profile c.args.f.now c.args.d.now c.args.out.now c.if-f-ne51.true in
    rw (a_profile _ _ c.in-Some.ensures, that_profile _ _ c.in-Some.ensures) (record { answer = told.0; output = told.1.0; least = λ h. told.1.1 })

pub returns-then-not-are_record : goal.returns-then-not-are_record
returns-then-not-are_record c =
    let told = write_no_record c.in-Some.profile c.args.f.now c.args.d.now c.args.out.now c.if-f-ne51.false c.are_record.ensures c.if-not-are_record.true-raw in
    rw (a_profile _ _ c.in-Some.ensures, that_profile _ _ c.in-Some.ensures) (record { answer = told.0; output = told.1.0; least = λ h. told.1.1 })

pub record_from-requires : goal.record_from-requires
record_from-requires c =
    record { size = c.if-f-ne51.false; numbers = is_record c.in-Some.profile c.args.f.now c.args.d.now c.args.out.now c.if-f-ne51.false c.are_record.ensures c.if-not-are_record.false-raw }

pub returns : goal.returns
returns c =
    let told =
    write_answered c.in-Some.profile c.args.f.now c.args.d.now c.args.out.now c.if-f-ne51.false c.are_record.ensures c.if-not-are_record.false-raw
    c.record_from.ensures (c.write.ensures.answer, (c.write.ensures.output, (c.write.ensures.numbers, c.write.ensures.least))) c.code_of.ensures in
    rw (a_profile _ _ c.in-Some.ensures, that_profile _ _ c.in-Some.ensures) (record { answer = told.0; output = told.1.0; least = λ h. told.1.1 })
