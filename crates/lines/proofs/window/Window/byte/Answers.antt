-- The two digits of a byte are its hex.
use Rattle.lines.proofs.HexLaws.{byte_hex}
use Rattle.lines.proofs.WindowLaws.{Showed-as}
use Rattle.lines.proofs.window.Window.byte.Goals as goal

pub returns : goal.returns
returns c = Showed-as c.show.ensures (byte_hex _ c.hex_digit.ensures c.hex_digit-2.ensures)
