-- A block that is there is long enough to hold a text from its byte 8 on.
use native.Mathlib.Omega.{arith}
use Rattle.keying.proofs.Laws.{environment_absent, environment_there, text_stands}
use Rattle.keying.proofs.environment.Goals as goal

pub returns-in_err-b : goal.returns-in_err-b
returns-in_err-b c = rw c.from_residual.ensures (environment_absent _ c.requires.at c.in_err-b.ensures)

pub block_text-requires : goal.block_text-requires
block_text-requires c = text_stands _ c.requires.at c.in_ok-b.ensures.1 c.requires.long c.in_ok-b.ensures.0

pub returns : goal.returns
returns c =
    let long = (text_stands _ c.requires.at c.in_ok-b.ensures.1 c.requires.long c.in_ok-b.ensures.0).1 in
    environment_there _ c.requires.at c.in_ok-b.ensures.1 (λ e. omega arith) c.block_text.ensures
