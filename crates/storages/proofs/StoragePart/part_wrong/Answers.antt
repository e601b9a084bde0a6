-- The version is right, so the values decide.
use mathlib.Core.Path.{◌≡◌, ◌∙◌, sym}
use Prim.Native.Nat.{◌-◌}
use native.Mathlib.Omega.{arith}
use lib.ListN.{length, take, drop}
use Rattle.std.proofs.lemmas.Slice.{between_to_end}
use Rattle.storages.proofs.StoragePart.part_wrong.Goals as goal

pub returns : goal.returns
returns c =
    let v = c.args.v.now in
    let r : take (length v - 24) (drop 24 v) ≡ drop 24 v = between_to_end v 24 (length v) (omega arith) in
    rw (sym c.u32_at.ensures ∙ c.if-u32_at-ne1397773105.false, ← c.is_named.ensures) (rw r at c.parts_wrong.ensures)
