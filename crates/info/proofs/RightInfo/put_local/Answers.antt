-- VolumeID stands inside LinkInfo, whose tests hold, and its label has the length that the row says.
use mathlib.Core.Path.{refl}
use native.Mathlib.Omega.{arith}
use Rattle.info.proofs.PutLaws.{volume_Stands, volume_asked, volume_said, local_said, local_put}
use Rattle.info.proofs.RightInfo.put_local.Goals as goal

pub u32_at-requires : goal.u32_at-requires
u32_at-requires c =
    (volume_Stands _ _ _ c.args.self.right c.requires.0 c.u32_at-o.ensures).room

pub slice_bounds-volume_of-end : goal.slice_bounds-volume_of-end
slice_bounds-volume_of-end c =
    omega (arith, (volume_Stands _ _ _ c.args.self.right c.requires.0 c.u32_at-o.ensures).inside, c.u32_at.ensures)

pub volume_of-v-requires : goal.volume_of-v-requires
volume_of-v-requires c =
    let both = volume_asked _ _ _ c.args.self.right c.requires.0 c.u32_at-o.ensures c.u32_at.ensures in record { stands = both.0; label = both.1 }

pub returns : goal.returns
returns c =
    local_put _ _ _ c.args.self.right _ (volume_said _ _ _ c.args.self.right c.requires.0 c.u32_at-o.ensures c.u32_at.ensures c.volume_of-v.ensures) c.is_unicode.ensures c.one_or_0.ensures c.place.ensures c.put_place.ensures
    (local_said _ _ _ c.args.self.right c.requires.0 refl c.text.ensures) c.put_place-2.ensures
