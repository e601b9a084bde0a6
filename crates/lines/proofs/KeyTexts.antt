-- The key's line: a buffer as long as a shortcut may be always has room for the key, so only reading refuses.
use mathlib.Core.Path.{◌≡◌, refl, sym, ap, ◌∙◌}
use mathlib.Core.List.{List, ◌++◌}
use mathlib.Core.Bool.{Bool, true, false}
use Prim.Native.Nat.{ℕ, ◌+◌, ◌≤◌}
use native.Mathlib.Omega.{arith}
use lib.ListN.{length, drop}
use lib.Seq.{take-append_seam}
use lib.Dec.{leb}
use borrow.Author.Tests.{leb-true}
use Rattle.octets.specs.Numbers.{Bytes}
use Rattle.octets.specs.Parts.{put}
use Rattle.octets.specs.Steps.Puts.{part}
use Rattle.octets.proofs.PartLaws.{part_in, length-put}
use Rattle.format.specs.declared.Profile.{Profile}
use Rattle.format.specs.declared.Fault.{Fault}
use Rattle.format.specs.declared.Refused.{Refused}
use Rattle.format.specs.declared.Spot.{Spot}
use Rattle.format.specs.declared.Fault.TheVariants.{Room as ROOM}
use Rattle.format.specs.Tests.{Outcome, got, refused}
use Rattle.format.specs.Shortcut.{Sections, most, shortcut, record_of, reading}
use Rattle.format.specs.Demands.{Accepts}
use Rattle.format.specs.Writing.{output_of}
use Rattle.format.specs.Key.{key_of, key_bytes, key, key_answer, key_output}
use Rattle.format.proofs.AcceptedLaws.{shortcut-Whole}
use Rattle.format.proofs.Demands.{accepted_whole}
use Rattle.format.proofs.KeyRoom.{room_enough}
use Rattle.lines.specs.Text.{line_feed, hex_of, verdict_line, key_line, key_text}
use Rattle.format.specs.Verdicts.{Verdict, refused_at}
use Rattle.std.specs.Prelude.{Ok, Err}

-- what a success put in front is there again
part-put : (d w : List ℕ) → length w ≤ length d → part (put d 0 w) 0 (length w) ≡ w
unfolding put
part-put d w h =
    sym (part_in (put d 0 w) 0 (length w) (omega (arith, length-put d 0 w (omega arith)))) ∙ take-append_seam w (drop (0 + length w) d)

pub got-Accepts : (profile : Profile) (s : List ℕ) (c : Sections) (n : ℕ) → shortcut profile s ≡ got c n → Accepts profile s (record_of c)
unfolding reading
got-Accepts profile s c n i = accepted_whole profile s (record_of c) n (rw i)

module _ (profile : Profile) (s out : List ℕ) (bs : Bytes s) (room : length out ≡ most) {v : Verdict} (e : v ≡ key_answer profile s out) where
  stopped : {f : Fault} {p : Spot} → shortcut profile s ≡ refused f p → key_answer profile s out ≡ refused_at f p.position
  unfolding key_answer key
  stopped i = rw i

  enough : (c : Sections) (n : ℕ) → shortcut profile s ≡ got c n → {r : Refused} → v ≡ Err r → ⊥
  enough c n i {r} k =
      let l = (shortcut-Whole profile s c n i).limit in
      let a = room_enough profile s out (record_of c) bs (got-Accepts profile s c n i) (omega arith) in
      let x : Err r ≡ Ok _ = sym k ∙ e ∙ a in
      let z : ◌≡◌ {A = ℕ} 0 1 = cc in
      omega arith

  pub refused_key : {r : Refused} → v ≡ Err r → verdict_line v ≡ key_text profile s
  unfolding key_text
  refused_key k = go (shortcut profile s) refl
    where
      go : (o : Outcome Sections) → shortcut profile s ≡ o → verdict_line v ≡ key_line s o
      go (got c n) i = absurd (enough c n i k)
      go (refused f p) i = ap verdict_line (e ∙ stopped i)

  -- what a success answers and leaves
  record Put (w : List ℕ) (n : ℕ) : Type 0 where
    pub long : n ≡ length w
    pub fits : length w ≤ length out
    pub content : key_output profile s out ≡ put out 0 w

  Put-key : {n : ℕ} → v ≡ Ok n → (c : Sections) (m : ℕ) → shortcut profile s ≡ got c m → Put (key_bytes (key_of s c)) n
  unfolding key_answer key_output key output_of
  Put-key {n} k c m i = go (leb (length (key_bytes (key_of s c))) (length out)) refl
    where
      go : (b : Bool) → leb (length (key_bytes (key_of s c))) (length out) ≡ b → Put (key_bytes (key_of s c)) n
      go true j = let x : Ok n ≡ Ok (length (key_bytes (key_of s c))) = sym k ∙ e ∙ rw (i, j) in record { long = cc; fits = leb-true _ _ j; content = rw (i, j) }
      go false j = let x : Ok n ≡ refused_at ROOM 0 = sym k ∙ e ∙ rw (i, j) in let z : ◌≡◌ {A = ℕ} 0 1 = cc in absurd (omega arith)

  pub accepted_key : {n : ℕ} → v ≡ Ok n → {x : List ℕ} → x ≡ key_output profile s out → hex_of (part x 0 n) ++ line_feed ≡ key_text profile s
  unfolding key_text
  accepted_key {n} k {x} h = go (shortcut profile s) refl
    where
      go : (o : Outcome Sections) → shortcut profile s ≡ o → hex_of (part x 0 n) ++ line_feed ≡ key_line s o
      go (got c m) i =
          let P = Put-key k c m i in
          let w = key_bytes (key_of s c) in
          let z : part x 0 n ≡ w = rw (h, P.content, P.long) (part-put out w P.fits) in
          ap (λ (l : List ℕ). hex_of l ++ line_feed) z
      go (refused f p) i = let x : Ok n ≡ refused_at f p.position = sym k ∙ e ∙ stopped i in let z : ◌≡◌ {A = ℕ} 0 1 = cc in absurd (omega arith)
