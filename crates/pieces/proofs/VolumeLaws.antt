-- VolumeID: its own bytes, and the piece of LinkInfo.
use mathlib.Core.Path.{◌≡◌, ◌∙◌}
use mathlib.Core.List.{List}
use mathlib.Core.Bool.{Bool, true, false, cond}
use Prim.Native.Nat.{ℕ, ◌≤◌, ◌<◌}
use native.Mathlib.Omega.{arith}
use lib.ListN.{length}
use borrow.Author.Tests.{le-leb, lt-leb}
use Rattle.std.specs.Prelude.{Some, None, Ok, Err}
use Rattle.octets.specs.Numbers.{u32_at}
use Rattle.format.specs.Tests.{no_place}
use Rattle.format.specs.Pieces.{uncut}
use Rattle.format.specs.Volume.{label_unicode, label_field, label_offset, label_least, volume_rules}
use Rattle.pieces.specs.declared.Found.{Found}
use Rattle.pieces.specs.Steps.Found.{end_at, OwnPart, placed, text_found, found, label_length, volume_found, volume_in}
use Rattle.pieces.proofs.TestLaws.{Fields, here, Fields-most}
use Rattle.pieces.proofs.TextLaws.{text_lost, text_right}
use Rattle.pieces.proofs.StructLaws.{struct_absent, struct_lost, struct_placed}

-- ---- VolumeID's own bytes

label_field_lem : (u : Bool) → cond u 16 12 ≤ 16
label_field_lem true = omega arith
label_field_lem false = omega arith

pub volume_Fields : (v : List ℕ) → Fields 16 (volume_rules v)
volume_Fields v =
    let g = label_field_lem (label_unicode v) in
    let i : ℕ = label_field v in
    (here 16 4 (omega arith), λ e. (here 16 16 (omega arith), λ e. (here 16 i g, λ e. (here 16 i g, λ e. tt))))

pub volume_most : (v : List ℕ) {w : ℕ} → volume_in v ≡ Err w → w ≤ 16
unfolding volume_in
volume_most v e = Fields-most 16 (volume_rules v) _ (volume_Fields v) e

module _ (v : List ℕ) where
  pub drive_lost : 6 < u32_at v 4 → volume_in v ≡ Err 4
  unfolding volume_in
  drive_lost h = rw (lt-leb (u32_at v 4) 6 h)

  module _ (h : u32_at v 4 ≤ 6) where
    pub field_lost : uncut (label_unicode v) 0x14 v ≡ false → volume_in v ≡ Err 16
    unfolding volume_in
    field_lost x = rw (le-leb (u32_at v 4) 6 h, x)

    module _ {least : ℕ} (x : uncut (label_unicode v) 0x14 v ≡ true) (el : least ≡ label_least (label_unicode v)) where
      pub label_lost : text_found true (label_unicode v) v least (label_offset v) ≡ None → volume_in v ≡ Err (label_field v)
      unfolding volume_in
      label_lost e = rw (le-leb (u32_at v 4) 6 h, x) (text_lost true (label_unicode v) v (label_least (label_unicode v)) (label_offset v) (label_field v) (rw el at e) (label_length v))

      pub label_right : {t : Found ℕ} → text_found true (label_unicode v) v least (label_offset v) ≡ Some t → volume_in v ≡ Ok t.body
      unfolding volume_in
      label_right {t} e =
          let r = text_right true (label_unicode v) v (label_least (label_unicode v)) (label_offset v) (label_field v) (rw el at e) (label_length v) in
          rw (le-leb (u32_at v 4) 6 h, x) (r.0 ∙ rw r.1)

-- each way out of its tests
pub ruleset volume_read = (drive_lost, field_lost, label_lost, label_right)

-- ---- the piece

module _ (b : Bool) (l : List ℕ) (head : ℕ) where
  pub volume_absent : b ≡ false → volume_found b l head ≡ Ok (found no_place 0)
  unfolding volume_found
  volume_absent t = struct_absent 12 0x11 volume_rules label_length 0 b l head t

  pub volume_lost : {w : ℕ} → b ≡ true → end_at l head 0x11 12 (u32_at l 12) ≡ Err w → volume_found b l head ≡ Err w
  unfolding volume_found
  volume_lost t e = struct_lost 12 0x11 volume_rules label_length 0 b l head t e

  pub volume_placed : {o : ℕ} {v : List ℕ} → b ≡ true → OwnPart l head 0x11 12 o v → volume_found b l head ≡ placed o (length v) (volume_in v)
  unfolding volume_found volume_in
  volume_placed t P = struct_placed 12 0x11 volume_rules label_length 0 b l head t P

pub ruleset volume_judged = (volume_absent, volume_lost, volume_placed, volume_most)
