use native.Mathlib.Omega.{arith}
use Rattle.octets.proofs.PartLaws.{put_over_part}
use Rattle.octets.proofs.put_array.Goals as goal

pub returns : goal.returns
returns g c = put_over_part _ _ _ (omega arith) c.copy_from_slice.ensures.after
