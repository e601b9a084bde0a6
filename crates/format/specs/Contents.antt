-- FORMAT: Presence, Sameness. The record with its bodies' bytes in their places' stead; which parts are present; sameness.
use Rattle.std.specs.Prelude.{ℕ, ◌≡◌, List, [], map, Bool, false, ◌&&◌, cond, take, drop, get_or}
use Rattle.format.specs.declared.Place.{Place}
use Rattle.format.specs.declared.Header.{Header}
use Rattle.format.specs.declared.Link.{Link}
use Rattle.format.specs.declared.Record.{Record}
use Rattle.format.specs.Presence.{info_there, local_there, network_there, provider_there}
use Rattle.format.specs.Shortcut.{no_link}
use Rattle.format.specs.Bodies.{table_of, zeroed, label_slot, local_slot, net_slot, device_slot, net_unicode_slot, device_unicode_slot, suffix_slot, local_unicode_slot, suffix_unicode_slot, further_slot}

-- ---- which parts are present: whatever a record has for the others counts for nothing, and is put to zero here

-- drive type, serial and label kind belong to VolumeID
abbrev pub present_link : Link → Link
present_link l = record {
  flags = l.flags;
  long = l.long;
  drive = cond (local_there l.flags) l.drive 0;
  serial = cond (local_there l.flags) l.serial 0;
  label_unicode = cond (local_there l.flags) l.label_unicode false;
  network_flags = cond (network_there l.flags) l.network_flags 0;
  provider = cond (network_there l.flags && provider_there l.network_flags) l.provider 0;
  network_unicode = cond (network_there l.flags) l.network_unicode false;
}

unfoldable pub present : Record → Record
present r = record {
  header = r.header;
  link = cond (info_there r.header.flags) (present_link r.link) no_link;
  places = zeroed (table_of r) r.places;
}

-- ---- the contents: the record's fields, and each body as its bytes, slot by slot

abbrev pub bytes_at : List ℕ → Place → List ℕ
bytes_at d b = take b.len (drop b.at d)

pub record Contents : Type 0 where
  pub header : Header
  pub link : Link
  pub bodies : List (List ℕ)

abbrev pub body_in : Contents → ℕ → List ℕ
body_in c k = get_or c.bodies k []

abbrev pub bodies_of : List ℕ → Record → Contents
bodies_of d r = record { header = r.header; link = r.link; bodies = map (bytes_at d) r.places }

-- d is the body buffer
unfoldable pub contents : List ℕ → Record → Contents
unfolding present
contents d r = bodies_of d (present r)

-- sameness: equal contents, so places play no part. Spoken of where both are placed
unfoldable pub Same : List ℕ → Record → List ℕ → Record → Type 0
unfolding contents
Same d r e q = contents d r ≡ contents e q

-- ---- what LinkInfo's bytes are made from

pub record VolumeContents : Type 0 where
  pub drive : ℕ
  pub serial : ℕ
  pub unicode : Bool
  pub label : List ℕ

pub record NetworkContents : Type 0 where
  pub flags : ℕ
  pub provider : ℕ
  pub unicode : Bool
  pub net : List ℕ
  pub device : List ℕ
  pub net_unicode : List ℕ
  pub device_unicode : List ℕ

pub record InfoContents : Type 0 where
  pub flags : ℕ
  pub long : Bool
  pub volume : VolumeContents
  pub local : List ℕ
  pub network : NetworkContents
  pub suffix : List ℕ
  pub local_unicode : List ℕ
  pub suffix_unicode : List ℕ
  pub further : List ℕ

abbrev pub info_in : Contents → InfoContents
info_in c = record {
  flags = c.link.flags;
  long = c.link.long;
  volume = record { drive = c.link.drive; serial = c.link.serial; unicode = c.link.label_unicode; label = body_in c label_slot };
  local = body_in c local_slot;
  network = record {
    flags = c.link.network_flags;
    provider = c.link.provider;
    unicode = c.link.network_unicode;
    net = body_in c net_slot;
    device = body_in c device_slot;
    net_unicode = body_in c net_unicode_slot;
    device_unicode = body_in c device_unicode_slot;
  };
  suffix = body_in c suffix_slot;
  local_unicode = body_in c local_unicode_slot;
  suffix_unicode = body_in c suffix_unicode_slot;
  further = body_in c further_slot;
}
