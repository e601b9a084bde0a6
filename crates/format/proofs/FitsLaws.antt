-- What gives that each number of a record fits its field: to be a value of the record's type, and to be read from an accepted shortcut of bytes.
use mathlib.Core.Path.{◌≡◌, subst}
use mathlib.Core.List.{List, [], ◌∷◌}
use mathlib.Core.Bool.{Bool, true, false}
use Prim.Native.Nat.{ℕ, ◌<◌, ◌^◌}
use native.Mathlib.Omega.{arith}
use lib.ListN.{length, take, drop}
use lib.Dec.{leb}
use lib.IntN.{ℤ, pos, negsuc}
use lib.Signed.{mag}
use mir.Val.{Val}
use denote.Laws.{Is}
use Rattle.octets.specs.Numbers.{Bytes, u32_at}
use Rattle.octets.proofs.NumberLaws.{Bytes-take, Bytes-drop, number_below}
use Rattle.format.specs.declared.Profile.{Profile}
use Rattle.format.specs.declared.Info.{Info}
use Rattle.format.specs.declared.Header.{Header}
use Rattle.format.specs.declared.Record.{Record}
use Rattle.format.specs.declared.Fault.TheVariants.{Info as INFO}
use Rattle.format.specs.Tests.{got, ◌else◌at◌, Reader, ◌then◌, no_place, section}
use Rattle.format.specs.Presence.{items_there, info_there, name_bit, relative_bit, workdir_bit, arguments_bit, icon_bit, provider_there}
use Rattle.format.specs.Header.{header}
use Rattle.format.specs.Items.{items}
use Rattle.format.specs.Blocks.{blocks}
use Rattle.format.specs.Volume.{volume_size, volume_at}
use Rattle.format.specs.Network.{network_flags, network_size, network_at}
use Rattle.format.specs.Info.{info_size, has_local, has_network, info_rules, info_fields, info, no_info, link_of}
use Rattle.format.specs.Shortcut.{Section, Tail, found, section_if, string_section, tail, sections}
use Rattle.format.specs.Demands.{Accepts}
use Rattle.format.specs.contracts.Record.{the_row}
use Rattle.format.proofs.Ranges.{FitsSigned, FitsHeader, FitsLink, FitsRecord}
use Rattle.format.proofs.Chains.{tests_elim}
use Rattle.format.proofs.Sized.{sized_tests}
use Rattle.format.proofs.HeaderLaws.{header-Law}
use Rattle.format.proofs.InfoLaws.{info_value}
use Rattle.format.proofs.TypedLaws.{kept_below}
use Rattle.format.proofs.PlaceLaws.{found_elim, Always, chain-Always, then-Always, section_Always}
use Rattle.format.proofs.AcceptedLaws.{accepted_Read, shortcut-Whole}

-- ---- a value of the type

magnitude_fits : (z : ℤ) → mag z < 2 ^ 31 → FitsSigned z
magnitude_fits (pos n) h = h
magnitude_fits (negsuc n) h = h

-- a struct's value has its fields' values, and a number's is below the power of two that its type has
pub type_fits : (r : Record) (vs : List Val) → Is the_row r vs → FitsRecord r
type_fits r vs g =
    let (header, (link, places)) = g.1.1 in
    let (flags, (attributes, (creation, (access, (write, (size, (icon, (command, (hotkey, z))))))))) = header.1.1 in
    let (info_flags, (long, (drive, (serial, (label, (network_flags, (provider, z))))))) = link.1.1 in
    record {
      header = record {
        flags = flags.1;
        attributes = attributes.1;
        creation = creation.1;
        access = access.1;
        write = write.1;
        file_size = size.1;
        icon_index = magnitude_fits r.header.icon_index icon.1;
        command = command.1;
        hotkey = hotkey.1;
      };
      link = record { flags = info_flags.1; drive = drive.1; serial = serial.1; network_flags = network_flags.1; provider = provider.1 };
    }

-- ---- what is read from bytes

module _ (l : List ℕ) (bs : Bytes l) where
  volume_below : (b : Bool) (p o : ℕ) → ((volume_at b p l o).drive < 2 ^ 32) × ((volume_at b p l o).serial < 2 ^ 32)
  volume_below true p o =
      let v : List ℕ = take (volume_size (drop o l)) (drop o l) in
      let vs : Bytes v = Bytes-take (volume_size (drop o l)) (drop o l) (Bytes-drop o l bs) in
      (number_below 4 v 4 vs, number_below 4 v 8 vs)
  volume_below false p o = (omega arith, omega arith)

  network_below : (b : Bool) (p o : ℕ) → ((network_at b p l o).flags < 2 ^ 32) × ((network_at b p l o).provider < 2 ^ 32)
  network_below true p o =
      let v : List ℕ = take (network_size (drop o l)) (drop o l) in
      let vs : Bytes v = Bytes-take (network_size (drop o l)) (drop o l) (Bytes-drop o l bs) in
      (number_below 4 v 4 vs, kept_below (provider_there (network_flags v)) (u32_at v 16) (number_below 4 v 16 vs))
  network_below false p o = (omega arith, omega arith)

  info_below : (p : ℕ) → FitsLink (link_of (info_fields p l))
  info_below p =
      let v = volume_below (has_local l) p (u32_at l 12) in
      let n = network_below (has_network l) p (u32_at l 20) in
      record { flags = number_below 4 l 8 bs; drive = v.0; serial = v.1; network_flags = n.0; provider = n.1 }

module _ (profile : Profile) (s : List ℕ) (bs : Bytes s) where
  -- of other sections nothing is asked
  any : {A : Type 0} (P : Reader A) → Always s P (λ a. Unit {0})
  any P = record { always = λ p a n e. tt }

  header_read : Always s (found (header profile)) (λ c. FitsHeader c.read)
  header_read = record {
    always = λ p c n e.
        found_elim (header profile) p (drop p s) (λ c n. FitsHeader c.read)
        (λ h n i. ((header-Law profile).fits p (drop p s) h n i (Bytes-drop p s bs)).valid.typed)
        c n e;
  }

  info_read : (p : ℕ) (i : Info) (n : ℕ) → info profile p (drop p s) ≡ got i n → FitsLink (link_of i)
  info_read p =
      let t : List ℕ = drop p s in
      let l : List ℕ = take (info_size t) t in
      tests_elim (λ i n. FitsLink (link_of i)) (section 2 p) (sized_tests 2 4 info_size (λ n. leb 0x1C n else INFO at 0 ∷ []) (info_rules profile) info_value t) (info_fields p l) (info_size t)
      (λ c. info_below l (Bytes-take (info_size t) t (Bytes-drop p s bs)) p)

  info_section : (b : Bool) → Always s (section_if b no_info (info profile)) (λ c. FitsLink (link_of c.read))
  info_section b =
      section_Always s (info profile) b no_info (λ i. FitsLink (link_of i))
      (λ e. record { flags = omega arith; drive = omega arith; serial = omega arith; network_flags = omega arith; provider = omega arith })
      (λ e. info_read)

  abbrev TailFits : Tail → Type 0
  TailFits c = Unit {0} × (FitsLink (link_of c.1.0.read) × Unit {0})

  sections_read : Always s (sections profile) (λ c. FitsHeader c.0.read × TailFits c.1)
  unfolding sections
  sections_read =
      chain-Always s (λ (h : Section Header). tail profile h.read.flags) (λ h. TailFits) header_read
      (λ h.
      let f : ℕ = h.read.flags in
      then-Always s (any (section_if (items_there f) no_place items))
      (then-Always s (info_section (info_there f))
      (any (string_section f name_bit then string_section f relative_bit then string_section f workdir_bit then string_section f arguments_bit then string_section f icon_bit then found blocks))))

-- an accepted shortcut's record
pub accepted_fits : (profile : Profile) (s : List ℕ) (r : Record) → Accepts profile s r → Bytes s → FitsRecord r
unfolding Accepts
accepted_fits profile s r e bs =
    let x = accepted_Read profile s r (length s) e in
    let w = shortcut-Whole profile s x.sections (length s) x.is in
    let z = (sections_read profile s bs).always 0 x.sections (length s) w.read in
    subst FitsRecord x.held (record { header = z.0; link = z.1.1.0 })
