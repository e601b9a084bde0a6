-- The rules by which LinkInfo can be written, structure by structure: the bodies' rules with those of the numbers beside them.
use Rattle.std.specs.Prelude.{[], ◌∷◌, Bool, true, false, ◌&&◌, leb}
use Rattle.format.specs.Presence.{local_there, network_there, local_unicode_there, device_there, device_unicode_there}
use Rattle.format.specs.Contents.{VolumeContents, NetworkContents, InfoContents}
use Rattle.format.specs.Writing.{every, writable_if, writable_text, writable_further}

abbrev pub writable_volume : VolumeContents → Bool
writable_volume v = leb v.drive 6 && writable_text v.unicode v.label

abbrev pub writable_network : NetworkContents → Bool
writable_network n =
    every
    (leb n.flags 3
    ∷ writable_text false n.net
    ∷ writable_if (device_there n.flags) (writable_text false) n.device
    ∷ writable_if n.unicode (writable_text true) n.net_unicode
    ∷ writable_if (device_unicode_there n.unicode n.flags) (writable_text true) n.device_unicode
    ∷ [])

abbrev pub writable_info : InfoContents → Bool
writable_info i =
    every
    (leb i.flags 3
    ∷ writable_if (local_there i.flags) writable_volume i.volume
    ∷ writable_if (local_there i.flags) (writable_text false) i.local
    ∷ writable_if (network_there i.flags) writable_network i.network
    ∷ writable_text false i.suffix
    ∷ writable_if (local_unicode_there i.long i.flags) (writable_text true) i.local_unicode
    ∷ writable_if i.long (writable_text true) i.suffix_unicode
    ∷ writable_further i.long i.further
    ∷ [])
