-- Every refusal stands inside the shortcut, so number and position fit in one number.
use mathlib.Core.Path.{◌≡◌, refl}
use mathlib.Core.List.{List, [], ◌∷◌}
use mathlib.Core.Bool.{Bool, true, false, cond}
use Prim.Native.Nat.{ℕ, ◌≤◌}
use native.Mathlib.Omega.{arith}
use lib.ListN.{length}
use lib.Dec.{leb}
use borrow.Author.Tests.{leb-true}
use Rattle.octets.specs.Numbers.{Bytes}
use Rattle.format.specs.declared.Profile.{Profile}
use Rattle.format.specs.declared.Fault.TheVariants.{Place as PLACE, Unwritable as UNWRITABLE, Room as ROOM, NoTarget as NOTARGET, NoMap as NOMAP}
use Rattle.format.specs.declared.Record.{Record}
use Rattle.format.specs.Numbers.{answer_value}
use Rattle.format.specs.Tests.{◌else◌at◌, no_section, tests, Outcome, got, refused, and_then}
use Rattle.format.proofs.AnswerLaws.{nowhere}
use Rattle.format.specs.Shortcut.{most, Sections, shortcut, record_of, verdict_of, reading}
use Rattle.format.specs.Bodies.{placed}
use Rattle.format.specs.Contents.{Contents, contents}
use Rattle.format.specs.Writing.{canonical, writable, writing, write_answer}
use Rattle.format.specs.Target.{has_target, target_text, target, target_answer}
use Rattle.format.specs.Key.{key_of, key_bytes, key, key_answer, key_in}
use Rattle.format.specs.Demands.{Accepts}
use Rattle.format.specs.Blind.{blind_bits, key_blind, key_blind_answer}
use Rattle.format.specs.Moving.{maps_to_unicode, maps_to_bytes, in_unicode, in_bytes, moving, to_unicode, to_byte_strings, to_unicode_answer, to_bytes_answer}
use Rattle.format.proofs.Holds.{all_writable}
use Rattle.format.proofs.AcceptedLaws.{shortcut-Whole}
use Rattle.format.proofs.TargetLaws.{text_small}
use Rattle.format.proofs.Demands.{accepted_whole}
use Rattle.format.proofs.KeyRoom.{key_short}
use Rattle.format.proofs.BlindLaws.{bits_few}
use Rattle.format.proofs.PositionDemands.{positions_small}

pub check_small : (profile : Profile) (s : List ℕ) → answer_value (reading profile s).verdict ≤ 4194820
unfolding answer_value reading
check_small profile s = go (shortcut profile s) refl
  where
    go : (o : Outcome Sections) → shortcut profile s ≡ o → answer_value (verdict_of o) ≤ 4194820
    go (got c n) i = let w = shortcut-Whole profile s c n i in omega arith
    go (refused f q) i = omega (arith, positions_small profile s f q i)

-- a target has two texts and a separator
pub target_small : (profile : Profile) (s out : List ℕ) → answer_value (target_answer profile s out) ≤ 4194820
unfolding answer_value target_answer target reading
target_small profile s out = go (shortcut profile s) refl
  where
    either : (w : List ℕ) → length w ≤ 4194820 → (a b : Bool) → answer_value (verdict_of (cond a (cond b (got w (length w)) (refused ROOM nowhere)) (refused NOTARGET nowhere))) ≤ 4194820
    either w h true true = h
    either w h true false = omega arith
    either w h false b = omega arith

    go : (o : Outcome Sections) → shortcut profile s ≡ o
        → answer_value (verdict_of (and_then o (λ c n. tests no_section (has_target (record_of c) else NOTARGET at 0 ∷ leb (length (target_text s (record_of c))) (length out) else ROOM at 0 ∷ []) (got (target_text s (record_of c)) (length (target_text s (record_of c))))))) ≤ 4194820
    go (got c n) i =
        let w = shortcut-Whole profile s c n i in
        either (target_text s (record_of c)) (omega (arith, w.limit, text_small s (record_of c))) (has_target (record_of c)) (leb (length (target_text s (record_of c))) (length out))
    go (refused f q) i = omega (arith, positions_small profile s f q i)

-- a key is no longer than its shortcut
pub key_small : (profile : Profile) (s out : List ℕ) → Bytes s → answer_value (key_answer profile s out) ≤ 4194820
unfolding answer_value key_answer key key_in reading
key_small profile s out bs = go (shortcut profile s) refl
  where
    either : (w : List ℕ) → length w ≤ 65536 → (b : Bool) → answer_value (verdict_of (cond b (got w (length w)) (refused ROOM nowhere))) ≤ 4194820
    either w h true = omega arith
    either w h false = omega arith

    go : (o : Outcome Sections) → shortcut profile s ≡ o
        → answer_value (verdict_of (and_then o (λ c n. tests no_section (leb (length (key_bytes (key_of s c))) (length out) else ROOM at 0 ∷ []) (got (key_bytes (key_of s c)) (length (key_bytes (key_of s c))))))) ≤ 4194820
    go (got c n) i =
        let a : Accepts profile s (record_of c) = accepted_whole profile s (record_of c) n (rw i) in
        let k : length (key_bytes (key_of s c)) ≤ length s = rw i at (key_short profile s (record_of c) bs a) in
        either (key_bytes (key_of s c)) (omega (arith, (shortcut-Whole profile s c n i).limit)) (leb (length (key_bytes (key_of s c))) (length out))
    go (refused f q) i = omega (arith, positions_small profile s f q i)

-- the bits are five
pub blind_small : (profile : Profile) (s : List ℕ) → answer_value (key_blind_answer profile s) ≤ 4194820
unfolding answer_value key_blind_answer key_blind
blind_small profile s = go (shortcut profile s) refl
  where
    go : (o : Outcome Sections) → shortcut profile s ≡ o → answer_value (verdict_of (and_then o (λ c n. got (blind_bits s c) (blind_bits s c)))) ≤ 4194820
    go (got c n) i = omega (arith, bits_few s c)
    go (refused f q) i = omega (arith, positions_small profile s f q i)

-- what can be written is no longer than a shortcut
pub writable_few : (profile : Profile) (c : Contents) → writable profile c ≡ true → length (canonical c) ≤ most
writable_few profile c e = leb-true (length (canonical c)) most (all_writable profile c e).short

pub write_small : (profile : Profile) (r : Record) (d out : List ℕ) → answer_value (write_answer profile r d out) ≤ 4194820
unfolding answer_value write_answer writing
write_small profile r d out =
    let w = canonical (contents d r) in
    go w (placed (length d) r) (writable profile (contents d r)) (leb (length w) (length out)) (λ e. writable_few profile (contents d r) e)
  where
    go : (w : List ℕ) (a b c : Bool) → (b ≡ true → length w ≤ most)
        → answer_value (verdict_of (cond a (cond b (cond c (got w (length w)) (refused ROOM nowhere)) (refused UNWRITABLE nowhere)) (refused PLACE nowhere))) ≤ 4194820
    go w true true true h = omega (arith, h refl)
    go w true true false h = omega arith
    go w true false c h = omega arith
    go w false b c h = omega arith

-- nor is what a move makes
module _ (profile : Profile) (s : List ℕ) (room : ℕ) (maps : Contents → Bool) (move : Contents → Contents) where
  abbrev moved_by : Outcome Sections → Outcome (List ℕ)
  moved_by o = and_then o (λ c n. moving profile (maps (contents s (record_of c))) (move (contents s (record_of c))) room)

  moved_small : answer_value (verdict_of (moved_by (shortcut profile s))) ≤ 4194820
  unfolding answer_value moving
  moved_small = go (shortcut profile s) refl
    where
      made : (m : Contents) (a b c : Bool) → (b ≡ true → length (canonical m) ≤ most)
          → answer_value (verdict_of (cond a (cond b (cond c (got (canonical m) (length (canonical m))) (refused ROOM nowhere)) (refused UNWRITABLE nowhere)) (refused NOMAP nowhere))) ≤ 4194820
      made m true true true h = omega (arith, h refl)
      made m true true false h = omega arith
      made m true false c h = omega arith
      made m false b c h = omega arith

      go : (o : Outcome Sections) → shortcut profile s ≡ o → answer_value (verdict_of (moved_by o)) ≤ 4194820
      go (got c n) i =
          let m = move (contents s (record_of c)) in
          made m (maps (contents s (record_of c))) (writable profile m) (leb (length (canonical m)) room) (λ e. writable_few profile m e)
      go (refused f q) i = omega (arith, positions_small profile s f q i)

pub unicode_small : (profile : Profile) (s out : List ℕ) → answer_value (to_unicode_answer profile s out) ≤ 4194820
unfolding to_unicode_answer to_unicode
unicode_small profile s out = moved_small profile s (length out) maps_to_unicode in_unicode

pub bytes_small : (profile : Profile) (s out : List ℕ) → answer_value (to_bytes_answer profile s out) ≤ 4194820
unfolding to_bytes_answer to_byte_strings
bytes_small profile s out = moved_small profile s (length out) maps_to_bytes in_bytes
