-- An accepted shortcut gives the bits; a refusal goes out as it came.
use Rattle.std.proofs.Common.{refl}
use Rattle.std.proofs.lemmas.Result.{err_from_is_err_and}
use Rattle.reader.proofs.OutlineLaws.{outline_accepted, outline_noted}
use Rattle.blinding.proofs.BitLaws.{blind_left, blind_told}
use Rattle.blinding.proofs.key_blind.Goals as goal

pub returns-in_err-ends : goal.returns-in_err-ends
returns-in_err-ends c =
    let p = err_from_is_err_and c.from_residual.result c.from_residual.ensures.1 in
    let both = blind_left _ _ c.in_err-ends.ensures.answer in
    rw (p.1, p.2) (record { answer = both.0; numbers = both.1 })

pub bits_of-requires : goal.bits_of-requires
bits_of-requires c = outline_noted _ _ c.in_ok-ends.ensures.answer refl c.in_ok-ends.ensures.firsts

pub returns : goal.returns
returns c =
    let both = blind_told _ _ _ (outline_accepted _ _ c.in_ok-ends.ensures.answer refl) c.bits_of.ensures in record { answer = both.0; numbers = both.1 }
