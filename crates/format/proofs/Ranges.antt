-- Each number of a record fits its field. Of places nothing is said: no demand asks it, and a sum of place and length may pass every type.
use Prim.Native.Nat.{◌<◌, ◌^◌}
use lib.IntN.{ℤ, pos, negsuc}
use Rattle.format.specs.declared.Header.{Header}
use Rattle.format.specs.declared.Link.{Link}
use Rattle.format.specs.declared.Record.{Record}

abbrev pub FitsSigned : ℤ → Type 0
FitsSigned (pos n) = n < 2 ^ 31
FitsSigned (negsuc n) = n < 2 ^ 31

pub record FitsHeader (h : Header) : Type 0 where
  pub flags : h.flags < 2 ^ 32
  pub attributes : h.attributes < 2 ^ 32
  pub creation : h.creation < 2 ^ 64
  pub access : h.access < 2 ^ 64
  pub write : h.write < 2 ^ 64
  pub file_size : h.file_size < 2 ^ 32
  pub icon_index : FitsSigned h.icon_index
  pub command : h.command < 2 ^ 32
  pub hotkey : h.hotkey < 2 ^ 16

pub record FitsLink (l : Link) : Type 0 where
  pub flags : l.flags < 2 ^ 32
  pub drive : l.drive < 2 ^ 32
  pub serial : l.serial < 2 ^ 32
  pub network_flags : l.network_flags < 2 ^ 32
  pub provider : l.provider < 2 ^ 32

pub record FitsRecord (r : Record) : Type 0 where
  pub header : FitsHeader r.header
  pub link : FitsLink r.link
