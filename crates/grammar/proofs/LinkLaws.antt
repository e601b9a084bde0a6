-- VolumeID and the network link as pieces of LinkInfo, there or not.
use mathlib.Core.Path.{◌≡◌, refl, sym, ap, ◌∙◌}
use mathlib.Core.List.{List, [], ◌∷◌}
use mathlib.Core.Bool.{Bool, true, false}
use Prim.Native.Nat.{ℕ, ◌+◌, ◌≤◌}
use native.Mathlib.Omega.{arith}
use lib.ListN.{length, take, drop}
use lib.Seq.{length-take-le}
use borrow.Author.Tests.{leb-true, le-leb}
use Rattle.octets.specs.Numbers.{Bytes, u32_at}
use Rattle.octets.proofs.NumberLaws.{Bytes-take, Bytes-drop}
use Rattle.format.specs.declared.Profile.{Profile}
use Rattle.format.specs.declared.Profile.TheVariants.{Strict, NinetyFive}
use Rattle.format.specs.declared.Place.{Place}
use Rattle.format.specs.Tests.{place}
use Rattle.format.specs.Pieces.{tests_of, span}
use Rattle.format.specs.Volume.{label_unicode, label_of, label_place, label_kind, volume_rules, volume_piece, volume_at}
use Rattle.format.specs.Network.{network_rules, network_piece, network_at, network_head_tests}
use Rattle.format.specs.Info.{leftover_ok}
use Rattle.format.proofs.Bools.{clash}
use Rattle.format.proofs.Chains.{Pass, Pass-split, Pass-join}
use Rattle.format.proofs.Holds.{struct_holds, struct_passes, volume_holds, volume_passes, network_piece_tests, network_head_holds, network_head_passes, network_pieces_hold, network_pieces_Pass}
use Rattle.grammar.specs.Grammar.{If, EachOf, StandsAt, nowhere, piece_span, Unused, Bodies, VolumeIs, NetworkIs}
use Rattle.grammar.proofs.PieceLaws.{Solid, some, absent, struct_stands, struct_read, struct_size}
use Rattle.grammar.proofs.VolumeLaws.{label_here, volume_told, volume_read}
use Rattle.grammar.proofs.NetworkLaws.{absent_zero_lem, zero_absent, network_told, network_read}

-- ---- unused offsets

pub Unused-told : (profile : Profile) (there : Bool) (o : ℕ) → leftover_ok profile there o ≡ true → there ≡ false → Unused profile o
Unused-told Strict there o h e = absent_zero_lem there o h e
Unused-told NinetyFive there o h e = tt

pub Unused-read : (profile : Profile) (there : Bool) (o : ℕ) → (there ≡ false → Unused profile o) → leftover_ok profile there o ≡ true
Unused-read Strict there o f = zero_absent there o f
Unused-read NinetyFive there o f = refl

-- ---- VolumeID

kind_of : (u : Bool) (b : Place) → label_kind (label_of u b) ≡ u
kind_of true b = refl
kind_of false b = refl

place_of : (u : Bool) (b : Place) → label_place (label_of u b) ≡ b
place_of true b = refl
place_of false b = refl

-- the bytes of the structure at an offset
abbrev pub struct_at : List ℕ → ℕ → List ℕ
struct_at l o = take (u32_at (drop o l) 0) (drop o l)

abbrev pub VolumePart : Profile → Bool → ℕ → ℕ → ℕ → Bool → Place → ℕ → List ℕ → ℕ → List ℕ → Type 0
VolumePart profile there head drive serial unicode label p l o v =
    If there ((head ≤ o) × (StandsAt v l o × VolumeIs drive serial unicode label (p + o) v))
    (Unused profile o × ((drive ≡ 0) × ((serial ≡ 0) × ((unicode ≡ false) × (label ≡ nowhere)))))

pub volume_part : (profile : Profile) (there : Bool) (head p : ℕ) (l : List ℕ) (o : ℕ) (label : Place) → Bytes l → leftover_ok profile there o ≡ true
    → Pass (tests_of head (volume_piece there l 12 o)) → label_place (volume_at there p l o).label ≡ label
    → VolumePart profile there head (volume_at there p l o).drive (volume_at there p l o).serial (label_kind (volume_at there p l o).label) label p l o (struct_at l o)
volume_part profile false head p l o label bs u c e = (Unused-told profile false o u refl, (refl, (refl, (refl, sym e))))
volume_part profile true head p l o label bs u c e =
    let h = struct_holds 12 o 0x11 volume_rules (drop o l) c.1 in
    let v : List ℕ = struct_at l o in
    let n : length v ≡ u32_at (drop o l) 0 = length-take-le (u32_at (drop o l) 0) (drop o l) h.inside in
    let four : 4 ≤ u32_at (drop o l) 0 = omega (arith, h.enough) in
    let z : u32_at v 0 ≡ length v = struct_size (drop o l) four h.inside in
    let b : Place = label_here (p + o) v in
    let k = kind_of (label_unicode v) b in (
      leb-true head o c.0,
      (
        struct_stands l o (u32_at (drop o l) 0) h.field,
        rw k (volume_told (label_unicode v) label (p + o) v (Bytes-take (u32_at (drop o l) 0) (drop o l) (Bytes-drop o l bs)) z (omega (arith, h.enough)) (volume_holds v h.own) refl (sym (place_of (label_unicode v) b) ∙ e)),
      ),
    )

pub volume_span : (there : Bool) (head : ℕ) (l : List ℕ) (o : ℕ) → Pass (tests_of head (volume_piece there l 12 o)) → span (volume_piece there l 12 o) ≡ piece_span there o (length (struct_at l o))
volume_span false head l o c = refl
volume_span true head l o c =
    let h = struct_holds 12 o 0x11 volume_rules (drop o l) c.1 in
    ap (place o) (sym (length-take-le (u32_at (drop o l) 0) (drop o l) h.inside))

pub record VolumePartRead (profile : Profile) (there : Bool) (head drive serial : ℕ) (unicode : Bool) (label : Place) (p : ℕ) (l : List ℕ) (o : ℕ) (v : List ℕ) : Type 0 where
  pub unused : leftover_ok profile there o ≡ true
  pub passes : Pass (tests_of head (volume_piece there l 12 o))
  pub is_drive : (volume_at there p l o).drive ≡ drive
  pub is_serial : (volume_at there p l o).serial ≡ serial
  pub is_kind : label_kind (volume_at there p l o).label ≡ unicode
  pub is_label : label_place (volume_at there p l o).label ≡ label
  pub is_span : span (volume_piece there l 12 o) ≡ piece_span there o (length v)
  pub solid : Solid (piece_span there o (length v))

pub part_volume : (profile : Profile) (there : Bool) (head drive serial : ℕ) (unicode : Bool) (label : Place) (p : ℕ) (l : List ℕ) (o : ℕ) (v : List ℕ)
    → VolumePart profile there head drive serial unicode label p l o v → VolumePartRead profile there head drive serial unicode label p l o v
part_volume profile false head drive serial unicode label p l o v (u, (a, (b, (c, d)))) = record {
  unused = Unused-read profile false o (λ e. u);
  passes = tt;
  is_drive = sym a;
  is_serial = sym b;
  is_kind = sym c;
  is_label = sym d;
  is_span = refl;
  solid = absent refl;
}
part_volume profile true head drive serial unicode label p l o v (a, (s, g)) =
    let x = volume_read drive serial unicode label (p + o) v g in
    let y = struct_read v l o s (omega (arith, x.enough)) x.size in
    let b : Place = label_here (p + o) v in
    record {
      unused = Unused-read profile true o (λ e. clash refl e);
      passes = (
        le-leb head o a,
        struct_passes 12 o 0x11 volume_rules (drop o l) (record {
          field = omega (arith, x.enough, y.inside);
          inside = omega (arith, y.size, y.inside);
          enough = omega (arith, y.size, x.enough);
          own = rw y.is (volume_passes v x.holds);
        }),
      );
      is_drive = rw y.is x.is_drive;
      is_serial = rw y.is x.is_serial;
      is_kind = rw y.is (kind_of (label_unicode v) b ∙ x.kind);
      is_label = rw y.is (place_of (label_unicode v) b ∙ x.held);
      is_span = ap (place o) y.size;
      solid = some (omega (arith, x.enough));
    }

-- ---- the network link

abbrev pub NetworkPart : Profile → Bool → ℕ → ℕ → ℕ → Bool → Bodies → ℕ → List ℕ → ℕ → List ℕ → Type 0
NetworkPart profile there head flags provider unicode b p l o v =
    If there ((head ≤ o) × (StandsAt v l o × NetworkIs flags provider unicode b (p + o) v))
    (Unused profile o × ((flags ≡ 0) × ((provider ≡ 0) × ((unicode ≡ false) × EachOf (λ x. x ≡ nowhere) (b.net ∷ b.device ∷ b.net_unicode ∷ b.device_unicode ∷ [])))))

-- where its names stand
pub record NetworkPlaces (there : Bool) (b : Bodies) (p : ℕ) (l : List ℕ) (o : ℕ) : Type 0 where
  pub net : (network_at there p l o).net ≡ b.net
  pub device : (network_at there p l o).device ≡ b.device
  pub net_unicode : (network_at there p l o).net_unicode ≡ b.net_unicode
  pub device_unicode : (network_at there p l o).device_unicode ≡ b.device_unicode

pub network_part : (profile : Profile) (there : Bool) (head p : ℕ) (l : List ℕ) (o : ℕ) (b : Bodies) → Bytes l → leftover_ok profile there o ≡ true
    → Pass (tests_of head (network_piece there l 20 o)) → NetworkPlaces there b p l o
    → NetworkPart profile there head (network_at there p l o).flags (network_at there p l o).provider (network_at there p l o).unicode b p l o (struct_at l o)
network_part profile false head p l o b bs u c e = (Unused-told profile false o u refl, (refl, (refl, (refl, (sym e.net, (sym e.device, (sym e.net_unicode, (sym e.device_unicode, tt))))))))
network_part profile true head p l o b bs u c e =
    let h = struct_holds 20 o 0x14 network_rules (drop o l) c.1 in
    let v : List ℕ = struct_at l o in
    let n : length v ≡ u32_at (drop o l) 0 = length-take-le (u32_at (drop o l) 0) (drop o l) h.inside in
    let four : 4 ≤ u32_at (drop o l) 0 = omega (arith, h.enough) in
    let z : u32_at v 0 ≡ length v = struct_size (drop o l) four h.inside in
    let i = Pass-split (network_head_tests v) (network_piece_tests v) h.own in (
      leb-true head o c.0,
      (
        struct_stands l o (u32_at (drop o l) 0) h.field,
        network_told b (p + o) v (Bytes-take (u32_at (drop o l) 0) (drop o l) (Bytes-drop o l bs)) z (omega (arith, h.enough)) (network_head_holds v i.0) (network_pieces_hold v i.1)
            (record { net = e.net; device = e.device; net_unicode = e.net_unicode; device_unicode = e.device_unicode }) _ refl,
      ),
    )

pub network_span : (there : Bool) (head : ℕ) (l : List ℕ) (o : ℕ) → Pass (tests_of head (network_piece there l 20 o)) → span (network_piece there l 20 o) ≡ piece_span there o (length (struct_at l o))
network_span false head l o c = refl
network_span true head l o c =
    let h = struct_holds 20 o 0x14 network_rules (drop o l) c.1 in
    ap (place o) (sym (length-take-le (u32_at (drop o l) 0) (drop o l) h.inside))

pub record NetworkPartRead (profile : Profile) (there : Bool) (head flags provider : ℕ) (unicode : Bool) (b : Bodies) (p : ℕ) (l : List ℕ) (o : ℕ) (v : List ℕ) : Type 0 where
  pub unused : leftover_ok profile there o ≡ true
  pub passes : Pass (tests_of head (network_piece there l 20 o))
  pub is_flags : (network_at there p l o).flags ≡ flags
  pub is_provider : (network_at there p l o).provider ≡ provider
  pub is_unicode : (network_at there p l o).unicode ≡ unicode
  pub places : NetworkPlaces there b p l o
  pub is_span : span (network_piece there l 20 o) ≡ piece_span there o (length v)
  pub solid : Solid (piece_span there o (length v))

pub part_network : (profile : Profile) (there : Bool) (head flags provider : ℕ) (unicode : Bool) (b : Bodies) (p : ℕ) (l : List ℕ) (o : ℕ) (v : List ℕ)
    → NetworkPart profile there head flags provider unicode b p l o v → NetworkPartRead profile there head flags provider unicode b p l o v
part_network profile false head flags provider unicode b p l o v (u, (a, (c, (d, (e, (f, (g, (h, z)))))))) = record {
  unused = Unused-read profile false o (λ e. u);
  passes = tt;
  is_flags = sym a;
  is_provider = sym c;
  is_unicode = sym d;
  places = record { net = sym e; device = sym f; net_unicode = sym g; device_unicode = sym h };
  is_span = refl;
  solid = absent refl;
}
part_network profile true head flags provider unicode b p l o v (a, (s, g)) =
    let x = network_read flags provider unicode b (p + o) v g in
    let y = struct_read v l o s (omega (arith, x.enough)) x.size in
    record {
      unused = Unused-read profile true o (λ e. clash refl e);
      passes = (
        le-leb head o a,
        struct_passes 20 o 0x14 network_rules (drop o l) (record {
          field = omega (arith, x.enough, y.inside);
          inside = omega (arith, y.size, y.inside);
          enough = omega (arith, y.size, x.enough);
          own = rw y.is (Pass-join (network_head_tests v) (network_piece_tests v) (network_head_passes v x.head) (network_pieces_Pass v x.pieces));
        }),
      );
      is_flags = rw y.is x.is_flags;
      is_provider = rw y.is x.is_provider;
      is_unicode = rw y.is x.is_unicode;
      places = record {
        net = rw y.is x.names.net;
        device = rw y.is x.names.device;
        net_unicode = rw y.is x.names.net_unicode;
        device_unicode = rw y.is x.names.device_unicode;
      };
      is_span = ap (place o) y.size;
      solid = some (omega (arith, x.enough));
    }
