-- The first bytes and the last ones, of which some may be the same.
use native.Mathlib.Omega.{arith}
use Rattle.copies.proofs.CopyLaws.{put_two}
use Rattle.copies.proofs.put_few.Goals as goal

pub returns-then-n-ge8 : goal.returns-then-n-ge8
returns-then-n-ge8 c =
    put_two _ _ _ 8 _ c.put_span.ensures c.put_span-then-n-ge8.ensures (omega arith) (omega arith) (omega arith)

pub returns-then-n-ge4 : goal.returns-then-n-ge4
returns-then-n-ge4 c =
    put_two _ _ _ 4 _ c.put_span-then-n-ge4.ensures c.put_span-then-n-ge4-2.ensures (omega arith) (omega arith) (omega arith)
