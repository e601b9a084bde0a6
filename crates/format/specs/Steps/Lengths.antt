-- How many bytes the bodies of the row and the heads before them have as written.
use Rattle.std.specs.Prelude.{ℕ, ◌+◌, List, cond}
use Rattle.octets.specs.Characters.{bytes_of}
use Rattle.format.specs.declared.Place.{Place}
use Rattle.format.specs.declared.Link.{Link}
use Rattle.format.specs.declared.Record.{Record}
use Rattle.format.specs.Tests.{no_place}
use Rattle.format.specs.Presence.{info_there, local_there, network_there}
use Rattle.format.specs.Volume.{label_least}
use Rattle.format.specs.Network.{network_head}
use Rattle.format.specs.Shortcut.{sum}
use Rattle.format.specs.Bodies.{BodyKind, items_kind, text_kind, string_kind, blocks_kind, further_kind, BodyRow, table_of, along, written_head}

-- the bytes beside a body: size and two zero bytes; terminator; count; terminal block; none
abbrev pub beside : BodyKind → ℕ
beside items_kind = 4
beside (text_kind unicode) = bytes_of unicode 1
beside (string_kind unicode) = 2
beside blocks_kind = 4
beside (further_kind long) = 0

abbrev pub written_body : BodyRow → Place → ℕ
written_body b p = cond b.there (p.len + beside b.kind) 0

abbrev pub written_row : Record → List ℕ
written_row r = along no_place written_body 0 (table_of r) r.places

-- VolumeID's head and the network link's, if they are there
abbrev pub volume_part : Link → ℕ
volume_part l = cond (local_there l.flags) (label_least l.label_unicode) 0

abbrev pub network_part : Link → ℕ
network_part l = cond (network_there l.flags) (network_head l.network_unicode) 0

-- with LinkInfo's own
abbrev pub written_heads : Record → ℕ
written_heads r = cond (info_there r.header.flags) (written_head r.link.long + volume_part r.link + network_part r.link) 0

-- the length of the shortest form
unfoldable pub written_length : Record → ℕ
written_length r = 76 + written_heads r + sum (written_row r)
