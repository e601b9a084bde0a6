-- Each part is put where it is there, and what is passed over stays 0.
use mathlib.Core.Path.{◌≡◌, refl, ◌∙◌}
use mathlib.Core.List.{List}
use mathlib.Core.Bool.{Bool, cond}
use Prim.Native.Nat.{ℕ}
use native.Mathlib.Omega.{arith}
use lib.ListN.{set}
use Rattle.format.specs.declared.Info.{Info}
use Rattle.format.specs.Info.{info_fields}
use Rattle.info.specs.Steps.Putting.{with_local, with_network, with_long}
use Rattle.info.proofs.PutLaws.{suffix_said, is_long, is_short, taken, passed, info_put}
use Rattle.info.proofs.RightInfo.put_info.Goals as goal
use Rattle.info.proofs.RightInfo.put_info.Goals.{else-local, else-network_there, then-local, then-network_there}

pub returns-then-long : goal.returns-then-long
returns-then-long c =
    let f : List ℕ = set c.args.f.now 9 c.u32_at-flags.result in
    let i : Info = info_fields c.args.self.start c.args.self.l.now in
    let x : Bool = c.local_there-local.result in
    let g : c.if-local.f ≡ cond x (with_local f i) f
    = elim c.if-local.branch [
      | then-local v ↦ taken f v.if-local.true (v.f-is ∙ v.put_local.ensures)
      | else-local v ↦ passed (with_local f i) v.if-local.false v.f-is
    ] in
    let m : List ℕ = c.if-local.f in
    let y : Bool = c.network_there.result in
    let h : c.if-network_there.f ≡ cond y (with_network m i) m
    = elim c.if-network_there.branch [
      | then-network_there v ↦ taken m v.if-network_there.true (v.f-is ∙ v.put_network.ensures)
      | else-network_there v ↦ passed (with_network m i) v.if-network_there.false v.f-is
    ] in
    info_put _ _ c.args.f.now c.requires c.u32_at-flags.ensures c.local_there-local.ensures c.network_there.ensures g h
    (suffix_said _ _ _ c.args.self.right refl c.text.ensures) c.put_place.ensures (taken c.put_place.new.f (is_long _ _ _ c.args.self.right c.u32_at-head.ensures (omega arith)) c.put_long.ensures)

pub returns-else-long : goal.returns-else-long
returns-else-long c =
    let f : List ℕ = set c.args.f.now 9 c.u32_at-flags.result in
    let i : Info = info_fields c.args.self.start c.args.self.l.now in
    let x : Bool = c.local_there-local.result in
    let g : c.if-local.f ≡ cond x (with_local f i) f
    = elim c.if-local.branch [
      | then-local v ↦ taken f v.if-local.true (v.f-is ∙ v.put_local.ensures)
      | else-local v ↦ passed (with_local f i) v.if-local.false v.f-is
    ] in
    let m : List ℕ = c.if-local.f in
    let y : Bool = c.network_there.result in
    let h : c.if-network_there.f ≡ cond y (with_network m i) m
    = elim c.if-network_there.branch [
      | then-network_there v ↦ taken m v.if-network_there.true (v.f-is ∙ v.put_network.ensures)
      | else-network_there v ↦ passed (with_network m i) v.if-network_there.false v.f-is
    ] in
    info_put _ _ c.args.f.now c.requires c.u32_at-flags.ensures c.local_there-local.ensures c.network_there.ensures g h
    (suffix_said _ _ _ c.args.self.right refl c.text.ensures) c.put_place.ensures (passed (with_long c.put_place.new.f i) (is_short _ _ _ c.args.self.right c.u32_at-head.ensures (omega arith)) refl)
