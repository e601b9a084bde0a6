-- The nine numbers one after another.
use mir.Syntax.{w32}
use mir.Facts.{to_z-of_z}
use Rattle.reader.proofs.WholeLaws.{header_put}
use Rattle.reader.proofs.outline.put_header.Goals as goal

pub returns : goal.returns
returns c =
    let h = c.args.h in
    let (flags, (attributes, (creation, (access, (write, (size, (icon, rest))))))) = c.struct_told-1.given in
    let back = to_z-of_z {w = w32} {z = h.icon_index} (record { sfits = icon.1 }) in
    header_put _ h (rw back at c.bits_of.ensures)
