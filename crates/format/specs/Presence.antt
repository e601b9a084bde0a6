-- FORMAT: Presence. What makes each part present. Every rule is over flags, so that it serves the bytes that are read and the record alike.
use Rattle.std.specs.Prelude.{ℕ, Bool, ◌&&◌}
use Rattle.format.specs.Tests.{bit}

-- ---- by LinkFlags

abbrev pub items_there : ℕ → Bool
items_there flags = bit 0 flags

abbrev pub info_there : ℕ → Bool
info_there flags = bit 1 flags

-- the bit of each string
abbrev pub name_bit : ℕ
name_bit = 2

abbrev pub relative_bit : ℕ
relative_bit = 3

abbrev pub workdir_bit : ℕ
workdir_bit = 4

abbrev pub arguments_bit : ℕ
arguments_bit = 5

abbrev pub icon_bit : ℕ
icon_bit = 6

abbrev pub string_there : ℕ → ℕ → Bool
string_there k flags = bit k flags

-- whether the characters of the strings have two bytes each
abbrev pub strings_unicode : ℕ → Bool
strings_unicode flags = bit 7 flags

-- ---- by LinkInfo's flags, and by whether its head is long; its suffix is always there, and the Unicode suffix with a long head

-- VolumeID and LocalBasePath
abbrev pub local_there : ℕ → Bool
local_there flags = bit 0 flags

abbrev pub network_there : ℕ → Bool
network_there flags = bit 1 flags

abbrev pub local_unicode_there : Bool → ℕ → Bool
local_unicode_there long flags = long && local_there flags

-- ---- by the network link's flags, and by whether it has Unicode names; its net name is always there

abbrev pub device_there : ℕ → Bool
device_there flags = bit 0 flags

abbrev pub provider_there : ℕ → Bool
provider_there flags = bit 1 flags

abbrev pub device_unicode_there : Bool → ℕ → Bool
device_unicode_there unicode flags = unicode && device_there flags
