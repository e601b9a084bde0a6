-- The groups of bytes that are put one after another are the canonical parts.
use mathlib.Core.Path.{◌≡◌, refl}
use mathlib.Core.List.{List, [], ◌∷◌, ◌++◌}
use mathlib.Core.Bool.{Bool, true, false, cond}
use Prim.Native.Nat.{ℕ, ◌+◌, ◌/◌}
use native.Mathlib.Omega.{arith}
use lib.ListN.{length, get_or}
use Rattle.octets.specs.Numbers.{little}
use Rattle.octets.specs.Characters.{units, characters}
use Rattle.format.specs.declared.Header.{Header}
use Rattle.format.specs.declared.Link.{Link}
use Rattle.format.specs.Presence.{local_there, network_there, device_there, provider_there}
use Rattle.format.specs.Volume.{label_least}
use Rattle.format.specs.Network.{network_head}
use Rattle.format.specs.Bodies.{label_slot, local_slot, net_slot, device_slot, net_unicode_slot, device_unicode_slot, suffix_slot, local_unicode_slot, suffix_unicode_slot, further_slot, written_head}
use Rattle.format.specs.Writing.{bits, header_bytes, items_bytes, two_fields, label_fields, bytes_of_string}
use Rattle.format.specs.Steps.Lengths.{volume_part, network_part}
use Rattle.format.specs.Steps.Flat.{volume_head_bytes, network_head_bytes, info_head_bytes}
use Rattle.canonical.specs.Steps.Puts.{characters_in}
use Rattle.canonical.specs.Steps.Layout.{magic_bytes, mark_bytes, view_bytes}

-- ---- heads

pub label_least_is : (u : Bool) → label_least u ≡ 12 + cond u 8 4
label_least_is true = refl
label_least_is false = refl

pub network_head_is : (u : Bool) → network_head u ≡ 20 + cond u 8 0
network_head_is true = refl
network_head_is false = refl

pub info_head_is : (u : Bool) → written_head u ≡ 28 + cond u 8 0
info_head_is true = refl
info_head_is false = refl

-- ---- the header

pub magic_is : little 4 0x4C ++ (little 4 0x00021401 ++ (little 4 0 ++ (little 4 0xC0 ++ little 4 0x46000000))) ≡ magic_bytes
unfolding little
magic_is = refl

pub view_is : (h : Header) {x : ℕ} → x ≡ bits h.icon_index
    → little 4 h.file_size ++ (little 4 x ++ (little 4 h.command ++ (little 2 h.hotkey ++ (little 8 0 ++ little 2 0)))) ≡ view_bytes h
unfolding little view_bytes
view_is h e = rw e

pub header_is : (h : Header) → magic_bytes ++ (mark_bytes h ++ view_bytes h) ≡ header_bytes h
unfolding little mark_bytes view_bytes header_bytes
header_is h = refl

-- ---- the item list and the strings

pub units_count : (x : List ℕ) → length (units x) ≡ length x / 2
unfolding units
units_count [] = refl
units_count (a ∷ []) = refl
units_count (a ∷ b ∷ x) = omega (arith, units_count x)

pub characters_count : (u : Bool) (x : List ℕ) → length (characters u x) ≡ characters_in u (length x)
characters_count true x = units_count x
characters_count false x = refl

pub items_is : (x : List ℕ) → little 2 (length x + 2) ++ (x ++ little 2 0) ≡ items_bytes x
unfolding little items_bytes
items_is x = refl

pub string_is : (u : Bool) (x : List ℕ) {n : ℕ} → n ≡ characters_in u (length x) → little 2 n ++ x ≡ bytes_of_string u x
unfolding bytes_of_string
string_is u x e = rw (e, characters_count u x)

-- ---- the heads of LinkInfo, VolumeID and the network link, by what was put

module _ (l : Link) (sizes : List ℕ) where
  pub volume_head_is : {x : ℕ} → x ≡ label_least l.label_unicode + get_or sizes label_slot 0
      → little 4 x ++ (little 4 l.drive ++ (little 4 l.serial ++ (label_fields l.label_unicode ++ []))) ≡ volume_head_bytes l sizes
  unfolding volume_head_bytes
  volume_head_is e = rw e

  pub network_head_bytes_lem : {t p : Bool} {h x y z : ℕ} → t ≡ device_there l.network_flags → p ≡ provider_there l.network_flags → h ≡ network_head l.network_unicode
      → x ≡ cond t (h + get_or sizes net_slot 0) 0
      → y ≡ cond p l.provider 0
      → z ≡ cond t (h + get_or sizes net_slot 0 + get_or sizes device_slot 0 + get_or sizes net_unicode_slot 0) 0
      → little 4 (h + get_or sizes net_slot 0 + get_or sizes device_slot 0 + get_or sizes net_unicode_slot 0 + get_or sizes device_unicode_slot 0)
      ++ (little 4 l.network_flags ++ (little 4 h ++ (little 4 x ++ (little 4 y ++ (two_fields l.network_unicode (h + get_or sizes net_slot 0 + get_or sizes device_slot 0) z ++ [])))))
      ≡ network_head_bytes l sizes
  unfolding network_head_bytes
  network_head_bytes_lem t p h x y z = rw (x, y, z, t, p, h)

  pub info_head_bytes_lem : {t n : Bool} {h v m a b c e : ℕ} → t ≡ local_there l.flags → n ≡ network_there l.flags → h ≡ written_head l.long → v ≡ volume_part l → m ≡ network_part l
      → a ≡ cond t (h + get_or sizes further_slot 0) 0
      → b ≡ cond t (h + get_or sizes further_slot 0 + (v + get_or sizes label_slot 0)) 0
      → c ≡ cond n (h + get_or sizes further_slot 0 + (v + get_or sizes label_slot 0) + get_or sizes local_slot 0) 0
      → e ≡ cond t (h + get_or sizes further_slot 0 + (v + get_or sizes label_slot 0) + get_or sizes local_slot 0 + (m + get_or sizes net_slot 0 + get_or sizes device_slot 0 + get_or sizes net_unicode_slot 0 + get_or sizes device_unicode_slot 0) + get_or sizes suffix_slot 0) 0
      → little 4 (h + get_or sizes further_slot 0 + (v + get_or sizes label_slot 0) + get_or sizes local_slot 0 + (m + get_or sizes net_slot 0 + get_or sizes device_slot 0 + get_or sizes net_unicode_slot 0 + get_or sizes device_unicode_slot 0) + get_or sizes suffix_slot 0 + get_or sizes local_unicode_slot 0 + get_or sizes suffix_unicode_slot 0)
      ++ (little 4 (h + get_or sizes further_slot 0)
      ++ (little 4 l.flags
      ++ (little 4 a
      ++ (little 4 b
      ++ (little 4 c
      ++ (little 4 (h + get_or sizes further_slot 0 + (v + get_or sizes label_slot 0) + get_or sizes local_slot 0 + (m + get_or sizes net_slot 0 + get_or sizes device_slot 0 + get_or sizes net_unicode_slot 0 + get_or sizes device_unicode_slot 0))
      ++ (two_fields l.long e (h + get_or sizes further_slot 0 + (v + get_or sizes label_slot 0) + get_or sizes local_slot 0 + (m + get_or sizes net_slot 0 + get_or sizes device_slot 0 + get_or sizes net_unicode_slot 0 + get_or sizes device_unicode_slot 0) + get_or sizes suffix_slot 0 + get_or sizes local_unicode_slot 0) ++ [])))))))
      ≡ info_head_bytes l sizes
  unfolding info_head_bytes
  info_head_bytes_lem t n h v m a b c e = rw (a, b, c, e, t, n, h, v, m)
