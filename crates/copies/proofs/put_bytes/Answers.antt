-- Two spans that overlap, or the turns and a span that reaches back to where these ended.
use native.Mathlib.Omega.{arith}
use Prim.Native.Nat.{◌*◌, ◌/◌}
use lib.ListN.{length}
use Rattle.copies.proofs.CopyLaws.{put_two, put_last}
use Rattle.copies.proofs.put_bytes.Goals as goal

pub returns-then-n-le32 : goal.returns-then-n-le32
returns-then-n-le32 c =
    put_two _ _ _ 16 _ c.put_span.ensures c.put_span-then-n-le32.ensures (omega arith) (omega arith) (omega arith)

pub returns-then-n-le64 : goal.returns-then-n-le64
returns-then-n-le64 c =
    put_two _ _ _ 32 _ c.put_span-then-n-le64.ensures c.put_span-then-n-le64-2.ensures (omega arith) (omega arith) (omega arith)

pub returns-then-n-le128 : goal.returns-then-n-le128
returns-then-n-le128 c =
    put_two _ _ _ 64 _ c.put_span-then-n-le128.ensures c.put_span-then-n-le128-2.ensures (omega arith) (omega arith) (omega arith)

pub returns : goal.returns
returns c =
    let n = length c.args.src.now in
    put_last _ _ _ (128 * (n / 128)) _ 128 c.put_turns.ensures c.put_span-2.ensures (omega arith) (omega arith) (omega arith) (omega arith)
