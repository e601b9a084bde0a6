-- The view is six numbers, put one after another; the icon's index is put by its bits, which stand for the index since it fits in them.
use mir.Facts.{to_z-of_z}
use mir.Syntax.{w32}
use mathlib.Core.Path.{refl}
use Rattle.copies.proofs.OutputLaws.{join, reword}
use Rattle.canonical.proofs.LayoutLaws.{view_is}
use Rattle.canonical.proofs.put_view.Goals as goal

pub returns : goal.returns
returns c =
    let (flags, (attributes, (creation, (access, (write, (size, (icon, rest))))))) = c.struct_told-1.given in
    let back = to_z-of_z {w = w32} {z = c.args.h.icon_index} (record { sfits = icon.1 }) in
    reword
    (join c.put_u32.ensures (join c.put_u32-2.ensures (join c.put_u32-3.ensures (join c.put_u16.ensures (join c.put_u64.ensures c.put_u16-2.ensures)))))
    (view_is c.args.h (rw back at c.bits_of-icon.ensures)) refl
