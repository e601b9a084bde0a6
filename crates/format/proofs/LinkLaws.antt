-- LinkInfo by its slots: its numbers and its ten bodies can be written exactly if it can.
use mathlib.Core.Path.{◌≡◌, refl, sym, ap}
use mathlib.Core.List.{List, []}
use mathlib.Core.Bool.{Bool, true, false, ◌&&◌, cond}
use Prim.Native.Nat.{ℕ}
use lib.Dec.{leb}
use Rattle.octets.specs.Numbers.{Bytes}
use Rattle.format.specs.declared.Link.{Link}
use Rattle.format.specs.Presence.{local_there, network_there, local_unicode_there, device_there, provider_there, device_unicode_there}
use Rattle.format.specs.Shortcut.{no_link}
use Rattle.format.specs.Bodies.{BodyKind, text_kind, further_kind, label_slot, local_slot, net_slot, device_slot, net_unicode_slot, device_unicode_slot, suffix_slot, local_unicode_slot, suffix_unicode_slot, further_slot}
use Rattle.format.specs.Contents.{present_link, VolumeContents, NetworkContents, InfoContents, Contents, body_in, info_in}
use Rattle.format.specs.Writing.{writable_if, writable_text, writable_body}
use Rattle.format.specs.Steps.LinkInfo.{writable_volume, writable_network, writable_info}
use Rattle.format.proofs.Bools.{and-true, and_both}
use Rattle.format.proofs.Ranges.{FitsLink}
use Rattle.format.proofs.Chains.{Ok, IfThere, there_Ok}
use Rattle.format.proofs.Holds.{network_writable, writable_network_lem, info_writable, writable_info_lem}
use Rattle.format.proofs.VolumeLaws.{VolumeT, VolumeV}
use Rattle.format.proofs.NetworkLaws.{NetworkT, NetworkV}
use Rattle.format.proofs.InfoLaws.{no_volume_c, no_network_c, InfoT, InfoV}

abbrev pub no_info_c : InfoContents
no_info_c = record {
  flags = 0;
  long = false;
  volume = no_volume_c;
  local = [];
  network = no_network_c;
  suffix = [];
  local_unicode = [];
  suffix_unicode = [];
  further = [];
}

-- ---- its parts: i tells whether LinkInfo is there, and X is said of a body: whether it is there, its kind and its bytes

pub record Slots (X : Bool → BodyKind → List ℕ → Type 0) (i : Bool) (c : Contents) : Type 0 where
  pub label : X (i && local_there c.link.flags) (text_kind c.link.label_unicode) (body_in c label_slot)
  pub local : X (i && local_there c.link.flags) (text_kind false) (body_in c local_slot)
  pub net : X (i && network_there c.link.flags) (text_kind false) (body_in c net_slot)
  pub device : X (i && (network_there c.link.flags && device_there c.link.network_flags)) (text_kind false) (body_in c device_slot)
  pub net_unicode : X (i && (network_there c.link.flags && c.link.network_unicode)) (text_kind true) (body_in c net_unicode_slot)
  pub device_unicode : X (i && (network_there c.link.flags && device_unicode_there c.link.network_unicode c.link.network_flags)) (text_kind true) (body_in c device_unicode_slot)
  pub suffix : X i (text_kind false) (body_in c suffix_slot)
  pub local_unicode : X (i && local_unicode_there c.link.long c.link.flags) (text_kind true) (body_in c local_unicode_slot)
  pub suffix_unicode : X (i && c.link.long) (text_kind true) (body_in c suffix_unicode_slot)
  pub further : X i (further_kind c.link.long) (body_in c further_slot)

pub record Numbers (i : Bool) (l : Link) : Type 0 where
  pub flags : writable_if i (λ n. leb n 3) l.flags ≡ true
  pub drive : writable_if (i && local_there l.flags) (λ n. leb n 6) l.drive ≡ true
  pub network_flags : writable_if (i && network_there l.flags) (λ n. leb n 3) l.network_flags ≡ true

abbrev pub ValidBody : Bool → BodyKind → List ℕ → Type 0
ValidBody there kind = IfThere there [] (Ok Bytes (writable_body kind))

abbrev pub CanBody : Bool → BodyKind → List ℕ → Type 0
CanBody there kind x = writable_if there (writable_body kind) x ≡ true

-- ---- from the slots

module _ (c : Contents) (fits : FitsLink c.link) where
  volume_valid : (b : Bool) → cond b c.link.drive 0 ≡ c.link.drive → cond b c.link.serial 0 ≡ c.link.serial
      → cond b c.link.label_unicode false ≡ c.link.label_unicode → writable_if b (λ n. leb n 6) c.link.drive ≡ true
      → ValidBody b (text_kind c.link.label_unicode) (body_in c label_slot) → IfThere b no_volume_c VolumeV (info_in c).volume
  volume_valid true d s u k v = record { typed = record { serial = fits.serial; label = v.typed }; can = and_both _ _ k v.can }
  volume_valid false d s u k v = rw (sym d, sym s, sym u, v)

  network_valid : (b : Bool) → cond b c.link.network_flags 0 ≡ c.link.network_flags
      → cond (b && provider_there c.link.network_flags) c.link.provider 0 ≡ c.link.provider
      → cond b c.link.network_unicode false ≡ c.link.network_unicode → writable_if b (λ n. leb n 3) c.link.network_flags ≡ true
      → ValidBody b (text_kind false) (body_in c net_slot) → ValidBody (b && device_there c.link.network_flags) (text_kind false) (body_in c device_slot)
      → ValidBody (b && c.link.network_unicode) (text_kind true) (body_in c net_unicode_slot)
      → ValidBody (b && device_unicode_there c.link.network_unicode c.link.network_flags) (text_kind true) (body_in c device_unicode_slot)
      → IfThere b no_network_c NetworkV (info_in c).network
  network_valid true f p u k net device net_unicode device_unicode =
      let d = there_Ok Bytes (writable_text false) (device_there c.link.network_flags) [] (body_in c device_slot) device in
      let m = there_Ok Bytes (writable_text true) c.link.network_unicode [] (body_in c net_unicode_slot) net_unicode in
      let e = there_Ok Bytes (writable_text true) (device_unicode_there c.link.network_unicode c.link.network_flags) [] (body_in c device_unicode_slot) device_unicode in
      record {
        typed = record { provider = fits.provider; kept = p; net = net.typed; device = d.0; net_unicode = m.0; device_unicode = e.0 };
        can = writable_network_lem (info_in c).network (record { flags = k; net = net.can; device = d.1; net_unicode = m.1; device_unicode = e.1 });
      }
  network_valid false f p u k net device net_unicode device_unicode = rw (sym f, sym p, sym u, net, device, net_unicode, device_unicode)

  pub info_valid : (i : Bool) → cond i (present_link c.link) no_link ≡ c.link → Numbers i c.link → Slots ValidBody i c → IfThere i no_info_c InfoV (info_in c)
  info_valid true z n t =
      let f = c.link.flags in
      let v = there_Ok VolumeT writable_volume (local_there f) no_volume_c (info_in c).volume
      (volume_valid (local_there f) (ap (λ (l : Link). l.drive) z) (ap (λ (l : Link). l.serial) z) (ap (λ (l : Link). l.label_unicode) z) n.drive t.label) in
      let w = there_Ok NetworkT writable_network (network_there f) no_network_c (info_in c).network
      (network_valid (network_there f) (ap (λ (l : Link). l.network_flags) z) (ap (λ (l : Link). l.provider) z) (ap (λ (l : Link). l.network_unicode) z) n.network_flags
      t.net t.device t.net_unicode t.device_unicode) in
      let p = there_Ok Bytes (writable_text false) (local_there f) [] (body_in c local_slot) t.local in
      let q = there_Ok Bytes (writable_text true) (local_unicode_there c.link.long f) [] (body_in c local_unicode_slot) t.local_unicode in
      let r = there_Ok Bytes (writable_text true) c.link.long [] (body_in c suffix_unicode_slot) t.suffix_unicode in
      record {
        typed = record { volume = v.0; local = p.0; network = w.0; suffix = t.suffix.typed; local_unicode = q.0; suffix_unicode = r.0; further = t.further.typed };
        can = writable_info_lem (info_in c) (record {
          flags = n.flags;
          volume = v.1;
          local = p.1;
          network = w.1;
          suffix = t.suffix.can;
          local_unicode = q.1;
          suffix_unicode = r.1;
          further = t.further.can;
        });
      }
  info_valid false z n t =
      rw (sym z, t.label, t.local, t.net, t.device, t.net_unicode, t.device_unicode, t.suffix, t.local_unicode, t.suffix_unicode, t.further)

-- ---- to the slots

volume_can : (b : Bool) (v : VolumeContents) → writable_if b writable_volume v ≡ true → (writable_if b (λ n. leb n 6) v.drive ≡ true) × CanBody b (text_kind v.unicode) v.label
volume_can true v e = and-true _ _ e
volume_can false v e = (refl, refl)

pub record NetworkCan (b : Bool) (n : NetworkContents) : Type 0 where
  pub flags : writable_if b (λ k. leb k 3) n.flags ≡ true
  pub net : CanBody b (text_kind false) n.net
  pub device : CanBody (b && device_there n.flags) (text_kind false) n.device
  pub net_unicode : CanBody (b && n.unicode) (text_kind true) n.net_unicode
  pub device_unicode : CanBody (b && device_unicode_there n.unicode n.flags) (text_kind true) n.device_unicode

network_can : (b : Bool) (n : NetworkContents) → writable_if b writable_network n ≡ true → NetworkCan b n
network_can true n e =
    let w = network_writable n e in
    record { flags = w.flags; net = w.net; device = w.device; net_unicode = w.net_unicode; device_unicode = w.device_unicode }
network_can false n e = record { flags = refl; net = refl; device = refl; net_unicode = refl; device_unicode = refl }

pub info_Slots : (c : Contents) (i : Bool) → writable_if i writable_info (info_in c) ≡ true → Numbers i c.link × Slots CanBody i c
info_Slots c true e =
    let w = info_writable (info_in c) e in
    let v = volume_can (local_there c.link.flags) (info_in c).volume w.volume in
    let n = network_can (network_there c.link.flags) (info_in c).network w.network in (
      record { flags = w.flags; drive = v.0; network_flags = n.flags },
      record {
        label = v.1;
        local = w.local;
        net = n.net;
        device = n.device;
        net_unicode = n.net_unicode;
        device_unicode = n.device_unicode;
        suffix = w.suffix;
        local_unicode = w.local_unicode;
        suffix_unicode = w.suffix_unicode;
        further = w.further;
      },
    )
info_Slots c false e = (
  record { flags = refl; drive = refl; network_flags = refl },
  record { label = refl; local = refl; net = refl; device = refl; net_unicode = refl; device_unicode = refl; suffix = refl; local_unicode = refl; suffix_unicode = refl; further = refl },
)

pub info_can : (c : Contents) (i : Bool) → IfThere i no_info_c InfoV (info_in c) → Numbers i c.link × Slots CanBody i c
info_can c i v = info_Slots c i (there_Ok InfoT writable_info i no_info_c (info_in c) v).1

-- ---- and back

can_volume : (b : Bool) (v : VolumeContents) → writable_if b (λ n. leb n 6) v.drive ≡ true → CanBody b (text_kind v.unicode) v.label → writable_if b writable_volume v ≡ true
can_volume true v e f = and_both _ _ e f
can_volume false v e f = refl

can_network : (b : Bool) (n : NetworkContents) → NetworkCan b n → writable_if b writable_network n ≡ true
can_network true n c =
    writable_network_lem n (record { flags = c.flags; net = c.net; device = c.device; net_unicode = c.net_unicode; device_unicode = c.device_unicode })
can_network false n c = refl

pub Slots-info : (c : Contents) (i : Bool) → Numbers i c.link → Slots CanBody i c → writable_if i writable_info (info_in c) ≡ true
Slots-info c true n t =
    writable_info_lem (info_in c) (record {
      flags = n.flags;
      volume = can_volume (local_there c.link.flags) (info_in c).volume n.drive t.label;
      local = t.local;
      network =
          can_network (network_there c.link.flags) (info_in c).network (record {
            flags = n.network_flags;
            net = t.net;
            device = t.device;
            net_unicode = t.net_unicode;
            device_unicode = t.device_unicode;
          });
      suffix = t.suffix;
      local_unicode = t.local_unicode;
      suffix_unicode = t.suffix_unicode;
      further = t.further;
    })
Slots-info c false n t = refl
