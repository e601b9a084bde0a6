-- Both rows have 17 numbers, and each slot's are equal.
use Rattle.std.proofs.Common.{◌∙◌, arith}
use lib.Seq.{ext_get_or}
use Rattle.sizes.specs.Steps.Sizes.{sizes_of}
use Rattle.sizes.proofs.SizeLaws.{size_at, sizes_row}
use Rattle.sizes.proofs.sizes_of.Goals as goal

pub returns : goal.returns
returns c =
    ext_get_or 0 c.loop-k.x-items (sizes_of c.args.q) (omega (arith, sizes_row c.args.q))
    (λ j h. c.loop-k.invariant j (omega arith) ∙ rw c.besides-beside.ensures (size_at c.args.q c.requires j (omega arith)))
