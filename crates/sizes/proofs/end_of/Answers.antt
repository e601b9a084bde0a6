-- The heads are few, and so are the sizes.
use Rattle.std.proofs.Common.{ap, sum, arith}
use Rattle.sizes.proofs.SizeLaws.{few_heads, few_sizes}
use Rattle.sizes.proofs.end_of.Goals as goal

pub overflow_add-result-2 : goal.overflow_add-result-2
overflow_add-result-2 c =
    omega (arith, few_heads c.args.q, few_sizes c.args.q, c.heads.ensures, c.total.ensures, ap sum c.requires)
