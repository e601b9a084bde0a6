-- One byte is written, and it is the number's.
use mathlib.Core.Path.{refl}
use native.Mathlib.Omega.{arith}
use lib.ListN.{length-set}
use Rattle.octets.proofs.NumberLaws.{length-little}
use Rattle.octets.proofs.PartLaws.{put_byte}
use Rattle.copies.proofs.OutputLaws.{Writes-made}
use Rattle.copies.proofs.output.Output.put_u8.Goals as goal

pub returns : goal.returns
returns c =
    let o = c.args.self.now in
    Writes-made o c.requires (length-little 1 _) refl (put_byte _ _ _ (omega (arith, c.requires.room)) c.ranges.n.fits) refl (length-set _ _ _)
