-- The separator is one byte or none, on each kind of texts; and how long a target text can be.
use mathlib.Core.Path.{◌≡◌, refl}
use mathlib.Core.List.{List, [], ◌∷◌, ◌++◌}
use mathlib.Core.Bool.{Bool, true, false, cond}
use Prim.Native.Nat.{ℕ, ◌+◌, ◌≤◌}
use native.Mathlib.Omega.{arith}
use lib.ListN.{length, length-append}
use Rattle.format.specs.declared.Place.{Place}
use Rattle.format.specs.declared.Record.{Record}
use Rattle.format.specs.Presence.{local_there}
use Rattle.format.specs.Bodies.{place_in, local_slot, net_slot, suffix_slot}
use Rattle.format.specs.Contents.{bytes_at}
use Rattle.format.specs.Target.{separated, backslash, separator, joined, target_text}
use Rattle.format.proofs.BodyLaws.{body_small}

-- C and s with one between; the first text ends in 5C; no suffix; no first text; neither; the suffix begins with 5C; a 5C that is not at the end
pub separator_rows : separator (0x43 ∷ []) (0x73 ∷ [])
    ∷ separator (0x43 ∷ 0x5C ∷ []) (0x73 ∷ [])
    ∷ separator (0x43 ∷ []) []
    ∷ separator [] (0x73 ∷ [])
    ∷ separator [] []
    ∷ separator (0x43 ∷ []) (0x5C ∷ 0x73 ∷ [])
    ∷ separator (0x5C ∷ 0x43 ∷ []) (0x73 ∷ [])
    ∷ []
    ≡ (0x5C ∷ []) ∷ [] ∷ [] ∷ [] ∷ [] ∷ (0x5C ∷ []) ∷ (0x5C ∷ []) ∷ []
separator_rows = refl

pub separator_few : (first suffix : List ℕ) → length (separator first suffix) ≤ 1
separator_few first suffix = go (separated first suffix)
  where
    go : (b : Bool) → length (cond b backslash []) ≤ 1
    go true = omega arith
    go false = omega arith

pub text_small : (s : List ℕ) (r : Record) → length (target_text s r) ≤ length s + 1 + length s
text_small s r = go (local_there r.link.flags)
  where
    suffix : List ℕ
    suffix = bytes_at s (place_in r suffix_slot)

    either : (a : Place) → length (joined (bytes_at s a) suffix) ≤ length s + 1 + length s
    either a =
        let first = bytes_at s a in
        let between = separator first suffix in
        omega (arith, length-append first (between ++ suffix), length-append between suffix, separator_few first suffix, body_small s a, body_small s (place_in r suffix_slot))

    go : (b : Bool) → length (joined (cond b (bytes_at s (place_in r local_slot)) (bytes_at s (place_in r net_slot))) suffix) ≤ length s + 1 + length s
    go true = either (place_in r local_slot)
    go false = either (place_in r net_slot)
