-- Digits below ten count from `0`, the others from `a`.
use native.Mathlib.Omega.{arith}
use Rattle.lines.proofs.HexLaws.{digit_low, digit_high}
use Rattle.lines.proofs.window.hex_digit.Goals as goal

pub returns-then-x-lt10 : goal.returns-then-x-lt10
returns-then-x-lt10 c = digit_low _ c.if-x-lt10.true

pub returns : goal.returns
returns c = digit_high _ (omega arith)
