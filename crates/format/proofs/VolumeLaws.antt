-- The laws of VolumeID.
use mathlib.Core.Path.{◌≡◌, refl, sym, ◌∙◌}
use mathlib.Core.List.{List, [], ◌++◌}
use mathlib.Core.Bool.{Bool, true, false, not, ◌||◌}
use Prim.Native.Nat.{ℕ, ◌+◌, ◌≤◌, ◌<◌, ◌^◌}
use native.Mathlib.Omega.{arith}
use lib.ListN.{length, take, drop, replicate, length-append, length-drop}
use lib.Dec.{leb}
use borrow.Author.Tests.{leb-true, le-leb}
use Rattle.octets.specs.Numbers.{Bytes, number, number_at, u32_at, little}
use Rattle.octets.specs.Characters.{bytes_of}
use Rattle.octets.proofs.NumberLaws.{Bytes-append, Bytes-drop, Bytes-nil, Bytes-little, length-little, number_back, number-little, number_below}
use Rattle.format.specs.Volume.{label_unicode, label_offset, label_least, volume_rules, volume_tests}
use Rattle.format.specs.Shortcut.{most}
use Rattle.format.specs.Contents.{VolumeContents}
use Rattle.format.specs.Writing.{text_bytes, volume_length, label_fields, volume_bytes, writable_text}
use Rattle.format.specs.Steps.LinkInfo.{writable_volume}
use Rattle.format.proofs.Bools.{and-true, and_both}
use Rattle.format.proofs.Chains.{Pass, Ok, Fits}
use Rattle.format.proofs.Holds.{volume_holds, volume_passes}
use Rattle.format.proofs.PieceLaws.{PieceLaw, TextV, text_value, text_law, Struct, struct_law}

-- what VolumeID's own bytes say
abbrev pub volume_value : List ℕ → VolumeContents
volume_value v = record {
  drive = u32_at v 4;
  serial = u32_at v 8;
  unicode = label_unicode v;
  label = text_value (label_unicode v) (drop (label_offset v) v);
}

pub record VolumeT (v : VolumeContents) : Type 0 where
  pub serial : v.serial < 2 ^ 32
  pub label : Bytes v.label

abbrev pub VolumeV : VolumeContents → Type 0
VolumeV = Ok VolumeT writable_volume

drive_of : (v : VolumeContents) → VolumeV v → v.drive ≤ 6
drive_of v q = leb-true _ _ (and-true (leb v.drive 6) (writable_text v.unicode v.label) q.can).0

text_of : (v : VolumeContents) → VolumeV v → TextV v.unicode v.label
text_of v q = record { typed = q.typed.label; can = (and-true (leb v.drive 6) (writable_text v.unicode v.label) q.can).1 }

length_fields : (u : Bool) → length (label_fields u) + 12 ≡ label_least u
unfolding little
length_fields true = refl
length_fields false = refl

pub length_volume : (v : VolumeContents) → length (volume_bytes v) ≡ volume_length v
unfolding volume_bytes
length_volume v = let k = length_fields v.unicode in simp (length-append, length-little) (omega arith)

at0 : (v : VolumeContents) (r : List ℕ) → length (volume_bytes v) < 2 ^ 32 → u32_at (volume_bytes v ++ r) 0 ≡ length (volume_bytes v)
unfolding volume_bytes little number_at
at0 v r h = number_back 4 (volume_length v) [] (rw length_volume at h) ∙ sym (length_volume v)

at4 : (v : VolumeContents) → v.drive ≤ 6 → u32_at (volume_bytes v) 4 ≡ v.drive
unfolding volume_bytes little number_at number
at4 v h = number-little 4 v.drive (omega arith)

at8 : (v : VolumeContents) → v.serial < 2 ^ 32 → u32_at (volume_bytes v) 8 ≡ v.serial
unfolding volume_bytes little number_at number
at8 v h = number-little 4 v.serial h

abbrev volume : ℕ → ℕ → Bool → List ℕ → VolumeContents
volume d s u x = record { drive = d; serial = s; unicode = u; label = x }

kind_is : (d s : ℕ) (u : Bool) (x : List ℕ) → label_unicode (volume_bytes (volume d s u x)) ≡ u
unfolding volume_bytes little number_at number
kind_is d s true x = refl
kind_is d s false x = refl

offset_is : (d s : ℕ) (u : Bool) (x : List ℕ) → label_offset (volume_bytes (volume d s u x)) ≡ label_least u
unfolding volume_bytes little number_at number
offset_is d s true x = refl
offset_is d s false x = refl

label_drop : (d s : ℕ) (u : Bool) (x : List ℕ) → drop (label_least u) (volume_bytes (volume d s u x)) ≡ text_bytes u x ++ []
unfolding volume_bytes little
label_drop d s true x = refl
label_drop d s false x = refl

text_some : (u : Bool) (x : List ℕ) → 0x11 ≤ label_least u + length (text_bytes u x)
text_some true x = omega (arith, length-append x (replicate (bytes_of true 1) 0))
text_some false x = omega (arith, length-append x (replicate (bytes_of false 1) 0))

field_there : (u : Bool) (n : ℕ) → label_least u ≤ n → (not u || leb 0x14 n) ≡ true
field_there true n h = le-leb 0x14 n h
field_there false n h = refl

volume_Fits : (l : List ℕ) → Bytes l → Pass (volume_rules l) → Fits volume_bytes VolumeV (volume_value l) (length l)
volume_Fits l bs c =
    let u : Bool = label_unicode l in
    let o : ℕ = label_offset l in
    let x = volume_holds l c in
    let m : label_least u ≤ o = leb-true _ _ x.start in
    let f = (text_law 0 u).fits (drop o l) (Bytes-drop o l bs) (x.ends, tt) in
    let s = f.short in
    let i = f.inside in
    let p = f.some in
    record {
      valid = record { typed = record { serial = number_below 4 l 8 bs; label = f.valid.typed }; can = and_both (leb (u32_at l 4) 6) _ x.drive f.valid.can };
      short = rw (length_volume (volume_value l)) (omega (arith, length-drop o l));
    }

module _ (v : VolumeContents) (q : VolumeV v) (m : length (volume_bytes v) ≤ most) where
  read_label : text_value (label_unicode (volume_bytes v)) (drop (label_offset (volume_bytes v)) (volume_bytes v)) ≡ v.label
  read_label =
      let u : Bool = v.unicode in
      rw (offset_is v.drive v.serial u v.label, kind_is v.drive v.serial u v.label, label_drop v.drive v.serial u v.label)
      ((text_law 0 u).back v.label (text_of v q) (omega (arith, length_volume v)) []).same

  volume_judged : Pass (volume_rules (volume_bytes v))
  volume_judged =
      let u : Bool = v.unicode in
      let n = length_volume v in
      let t = (text_law 0 u).back v.label (text_of v q) (omega arith) [] in
      volume_passes (volume_bytes v) (record {
        drive = rw (at4 v (drive_of v q)) (le-leb _ _ (drive_of v q));
        offset_field = rw (kind_is v.drive v.serial u v.label) (field_there u (length (volume_bytes v)) (omega arith));
        start =
            rw (offset_is v.drive v.serial u v.label, kind_is v.drive v.serial u v.label) (le-leb (label_least u) (label_least u) (omega arith));
        ends =
            rw (offset_is v.drive v.serial u v.label, kind_is v.drive v.serial u v.label, label_drop v.drive v.serial u v.label)
            t.passes.0;
      })

  volume_same : volume_value (volume_bytes v) ≡ v
  volume_same = rw (at4 v (drive_of v q), at8 v q.typed.serial, read_label, kind_is v.drive v.serial v.unicode v.label)

volume_bytes_lem : (v : VolumeContents) → VolumeV v → Bytes (volume_bytes v)
unfolding volume_bytes
volume_bytes_lem v q =
    let b = (text_law 0 v.unicode).bytes v.label (text_of v q) in
    let f = fields_Bytes v.unicode in
    search (Bytes-append, Bytes-little, Bytes-nil) depth 10
  where
    fields_Bytes : (u : Bool) → Bytes (label_fields u)
    fields_Bytes true = Bytes-append (little 4 0x14) (little 4 0x14) (Bytes-little 4 _) (Bytes-little 4 _)
    fields_Bytes false = Bytes-little 4 _

volume_Struct : Struct 0x11 volume_rules volume_value volume_bytes VolumeV
volume_Struct = record {
  low_four = omega arith;
  bytes = volume_bytes_lem;
  sized = λ v q m r. at0 v r (omega arith);
  long = λ v q. rw (length_volume v) (text_some v.unicode v.label);
  judged = volume_judged;
  same = volume_same;
  fits = λ l bs k c. volume_Fits l bs c;
}

pub volume_law : (i o : ℕ) → PieceLaw (volume_tests i o) (λ s. u32_at s 0) (λ s. volume_value (take (u32_at s 0) s)) volume_bytes VolumeV
volume_law = struct_law 0x11 volume_rules volume_value volume_Struct
