-- The part of the buffer has the bytes of the source.
use native.Mathlib.Omega.{arith}
use mathlib.Core.Path.{◌∙◌}
use Prim.Native.Nat.{◌+◌}
use Rattle.std.proofs.lemmas.Grind.{common_steps}
use Rattle.copies.proofs.CopyLaws.{put_span_lem}
use Rattle.copies.proofs.put_span.Goals as goal

pub returns : goal.returns
returns g c =
    put_span_lem c.args.out.now (c.args.at + c.args.i) g.row.W c.args.src.now c.args.i (omega arith) (c.copy_from_slice.ensures.after ∙ grind (arith, common_steps))
