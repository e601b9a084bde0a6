-- VolumeID.
use mathlib.Core.Path.{◌≡◌, refl, sym, ap, ◌∙◌}
use mathlib.Core.List.{List, [], ◌∷◌}
use mathlib.Core.Bool.{Bool, true, false, cond}
use Prim.Native.Nat.{ℕ, ◌≤◌}
use native.Mathlib.Omega.{arith}
use lib.ListN.{length, drop}
use borrow.Author.Tests.{leb-true, le-leb, eqb-true, eqb-false, eq-eqb, ne_eqb}
use Rattle.octets.specs.Numbers.{Bytes, u32_at}
use Rattle.format.specs.declared.Place.{Place}
use Rattle.format.specs.Pieces.{text_place}
use Rattle.format.specs.Volume.{label_unicode, label_offset}
use Rattle.format.proofs.Holds.{VolumeHolds}
use Rattle.grammar.specs.Grammar.{VolumeIs}
use Rattle.grammar.proofs.FieldLaws.{Fields-Told, Told-Fields}
use Rattle.grammar.proofs.PieceLaws.{text_told, text_read}

-- the fields that tell the label
abbrev label_rows : Bool → ℕ → List (ℕ × ℕ)
label_rows unicode o = cond unicode ((4, 0x14) ∷ (4, o) ∷ []) ((4, o) ∷ [])

-- where its label stands, as reading says
abbrev pub label_here : ℕ → List ℕ → Place
label_here p v = text_place true (label_unicode v) p v (label_offset v)

pub volume_told : (u : Bool) (label : Place) (p : ℕ) (v : List ℕ) → Bytes v → u32_at v 0 ≡ length v → 0x11 ≤ length v → VolumeHolds v → label_unicode v ≡ u
    → label_here p v ≡ label → VolumeIs (u32_at v 4) (u32_at v 8) u label p v
volume_told true label p v bs size low h e held =
    let k : u32_at v 12 ≡ 0x14 = eqb-true (u32_at v 12) 0x14 e in
    let o : label_offset v ≡ u32_at v 16 = ap (λ (t : Bool). u32_at v (cond t 16 12)) e in
    let long : 0x14 ≤ length v = leb-true 0x14 (length v) (rw e at h.offset_field) in
    record {
      label_offset = u32_at v 16;
      rest = drop 20 v;
      fields = Told-Fields ((4, length v) ∷ (4, u32_at v 4) ∷ (4, u32_at v 8) ∷ label_rows true (u32_at v 16)) v bs long (size, (refl, (refl, (k, (refl, tt)))));
      drive_type = leb-true (u32_at v 4) 6 h.drive;
      kind = tt;
      is_label = text_told true true 0x14 p v 0 (u32_at v 16) label (rw e at held) (rw e at h.start, (rw e at h.ends, tt));
    }
volume_told false label p v bs size low h e held =
    record {
      label_offset = u32_at v 12;
      rest = drop 16 v;
      fields = Told-Fields ((4, length v) ∷ (4, u32_at v 4) ∷ (4, u32_at v 8) ∷ label_rows false (u32_at v 12)) v bs (omega arith) (size, (refl, (refl, (refl, tt))));
      drive_type = leb-true (u32_at v 4) 6 h.drive;
      kind = eqb-false (u32_at v 12) 0x14 e;
      is_label = text_told true false 0x10 p v 0 (u32_at v 12) label (rw e at held) (rw e at h.start, (rw e at h.ends, tt));
    }

pub record VolumeRead (drive serial : ℕ) (u : Bool) (label : Place) (p : ℕ) (v : List ℕ) : Type 0 where
  pub size : u32_at v 0 ≡ length v
  pub enough : 0x11 ≤ length v
  pub holds : VolumeHolds v
  pub is_drive : u32_at v 4 ≡ drive
  pub is_serial : u32_at v 8 ≡ serial
  pub kind : label_unicode v ≡ u
  pub held : label_here p v ≡ label

pub volume_read : (drive serial : ℕ) (u : Bool) (label : Place) (p : ℕ) (v : List ℕ) → VolumeIs drive serial u label p v → VolumeRead drive serial u label p v
volume_read drive serial true label p v g =
    let (size, (d, (s, (k, (o, z))))) = Fields-Told ((4, length v) ∷ (4, drive) ∷ (4, serial) ∷ label_rows true g.label_offset) g.rest v g.fields in
    let e : label_unicode v ≡ true = eq-eqb (u32_at v 12) 0x14 k in
    let t = text_read true 0x14 p v 0 g.label_offset label g.is_label in
    record {
      size = size;
      enough = omega (arith, t.inside, g.is_label.outside);
      holds = record { drive = le-leb (u32_at v 4) 6 (omega (arith, g.drive_type)); offset_field = rw e (le-leb 0x14 (length v) (omega (arith, t.inside, g.is_label.outside))); start = rw (e, o) t.passes.0; ends = rw (e, o) t.passes.1.0 };
      is_drive = d;
      is_serial = s;
      kind = e;
      held = rw (e, o) t.held;
    }
volume_read drive serial false label p v g =
    let (size, (d, (s, (o, z)))) = Fields-Told ((4, length v) ∷ (4, drive) ∷ (4, serial) ∷ label_rows false g.label_offset) g.rest v g.fields in
    let e : label_unicode v ≡ false = ne_eqb (u32_at v 12) 0x14 (λ k. g.kind (sym o ∙ k)) in
    let t = text_read false 0x10 p v 0 g.label_offset label g.is_label in
    record {
      size = size;
      enough = omega (arith, t.inside, g.is_label.outside);
      holds = record { drive = le-leb (u32_at v 4) 6 (omega (arith, g.drive_type)); offset_field = rw e refl; start = rw (e, o) t.passes.0; ends = rw (e, o) t.passes.1.0 };
      is_drive = d;
      is_serial = s;
      kind = e;
      held = rw (e, o) t.held;
    }
