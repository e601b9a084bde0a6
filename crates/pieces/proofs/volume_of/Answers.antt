-- The kind of the label decides where its offset stands; its length is given.
use Rattle.pieces.proofs.volume_of.Goals as goal

pub returns : goal.returns
returns c =
    rw (c.of.ensures, c.body_at.ensures, c.u32_at.ensures, c.u32_at-2.ensures, c.u32_at-o.ensures, c.label_field.ensures, c.u32_at-unicode.ensures, c.requires.label)
