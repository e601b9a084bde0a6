-- The length lies in the file, and as many bytes after it.
use Prim.Native.Nat.{ℕ, ◌+◌}
use native.Mathlib.Omega.{arith}
use mathlib.Core.Path.{ap, ◌∙◌}
use lib.ListN.{length, drop}
use Rattle.std.proofs.lemmas.Slice.{between_to_end}
use Rattle.shelves.proofs.old.first_entry.Goals as goal

pub returns : goal.returns
returns c =
    let s = c.args.s.now in
    let n = c.u32_at-n.result in
    (omega (arith, c.u32_at-n.ensures), c.u32_at-n.ensures, between_to_end s (4 + n) (length s) (omega arith) ∙ ap (λ (k : ℕ). drop (4 + k) s) c.u32_at-n.ensures)
