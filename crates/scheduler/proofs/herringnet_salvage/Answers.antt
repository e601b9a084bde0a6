-- Number, bytes kept and bytes dropped are small, so their code is a number of 64 bits.
use mathlib.Core.Path.{◌∙◌}
use native.Mathlib.Omega.{arith}
use Rattle.std.specs.Prelude.{Ok, Err}
use Rattle.scheduler.proofs.SalvageLaws.{refusal_small, salvage_Fits, refused_code, saved_code, salvage_call}
use Rattle.scheduler.proofs.herringnet_salvage.Goals as goal

pub code_of-requires : goal.code_of-requires
code_of-requires c = refusal_small c.args.s.now c.args.out.now c.in-Err.ensures.answer

pub returns-in-Err : goal.returns-in-Err
returns-in-Err c =
    let told = c.in-Err.ensures in
    let both = salvage_call (Err c.in-Err.r) (told.answer, (told.output, (told.numbers, told.saved))) (c.code_of.ensures ∙ refused_code c.in-Err.r) in record { answer = both.0; output = both.1.0; saved = both.1.1 }

pub returns-in-Ok : goal.returns-in-Ok
returns-in-Ok c =
    let told = c.in-Ok.ensures in
    let both = salvage_call (Ok c.in-Ok.g) (told.answer, (told.output, (told.numbers, told.saved))) (saved_code c.in-Ok.g) in record { answer = both.0; output = both.1.0; saved = both.1.1 }

pub overflow_mul-result : goal.overflow_mul-result
overflow_mul-result c =
    let fits = salvage_Fits c.args.s.now c.args.out.now c.in-Ok.ensures.answer in
    omega arith

pub overflow_add-result : goal.overflow_add-result
overflow_add-result c =
    let fits = salvage_Fits c.args.s.now c.args.out.now c.in-Ok.ensures.answer in
    omega arith

pub overflow_mul-result-in-Ok : goal.overflow_mul-result-in-Ok
overflow_mul-result-in-Ok c =
    let fits = salvage_Fits c.args.s.now c.args.out.now c.in-Ok.ensures.answer in
    omega arith

pub overflow_add-result-in-Ok : goal.overflow_add-result-in-Ok
overflow_add-result-in-Ok c =
    let fits = salvage_Fits c.args.s.now c.args.out.now c.in-Ok.ensures.answer in
    omega arith

pub overflow_mul-result-in-Ok-2 : goal.overflow_mul-result-in-Ok-2
overflow_mul-result-in-Ok-2 c =
    let fits = salvage_Fits c.args.s.now c.args.out.now c.in-Ok.ensures.answer in
    omega arith
