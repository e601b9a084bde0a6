-- Texts as they are put, character by character.
use mathlib.Core.Path.{◌≡◌, refl, sym, ap, ◌∙◌}
use mathlib.Core.List.{List, [], ◌∷◌, ◌++◌, map, map-append, append-nil}
use Prim.Native.Nat.{ℕ, ◌+◌, ◌*◌, ◌/◌, ◌≤◌, ◌<◌}
use native.Mathlib.Omega.{arith}
use native.Mathlib.Numerals.{add-one}
use lib.ListN.{length, take, get_or, set, length-map}
use lib.Seq.{take-suc, take-length, length-take-le}
use Rattle.octets.specs.Numbers.{u16_at, little}
use Rattle.octets.specs.Characters.{units}
use Rattle.octets.specs.Parts.{put}
use Rattle.octets.specs.Steps.Puts.{Wrote}
use Rattle.octets.proofs.NumberLaws.{length-little}
use Rattle.octets.proofs.PartLaws.{put-put, put_one}
use Rattle.octets.proofs.WroteLaws.{put-nil}
use Rattle.format.specs.Codepage.{unit_of, byte_of, to_units, to_bytes}
use Rattle.format.proofs.CodepageLaws.{units_append, units_long, bytes_long}
use Rattle.codepage.proofs.TextLaws.{units_count, unit_at}

module _ (d : List ℕ) (at : ℕ) (x : List ℕ) where
  pub no_units : d ≡ put d at (to_units (take 0 x))
  unfolding to_units
  no_units = put-nil d at

  pub no_bytes : d ≡ put d at (map byte_of (take 0 (units x)))
  no_bytes = put-nil d at

  module _ (i : ℕ) {y : List ℕ} where
    pub more_units : y ≡ put d at (to_units (take i x)) → i < length x → at + 2 * length x ≤ length d → {u : ℕ} {z : List ℕ} → u ≡ unit_of (get_or x i 0) → z ≡ put y (at + 2 * i) (little 2 u)
        → z ≡ put d at (to_units (take (i + 1) x))
    unfolding to_units
    more_units w h m {u} {z} e f =
        let s : to_units (take (i + 1) x) ≡ to_units (take i x) ++ little 2 u
        = rw (add-one i, take-suc x i 0 h) (units_append (take i x) (get_or x i 0 ∷ []) ∙ rw (e, append-nil)) in
        let l : length (to_units (take i x)) ≡ 2 * i = units_long (take i x) ∙ ap (λ (n : ℕ). 2 * n) (length-take-le i x (omega arith)) in
        f ∙ rw w (put-put d at (to_units (take i x)) (little 2 u) (omega (arith, l)) (omega (arith, length-little 2 u))) ∙ ap (put d at) (sym s)

    pub all_units : y ≡ put d at (to_units (take i x)) → i ≡ length x → at + 2 * length x ≤ length d → Wrote d at (to_units x) (2 * length x) y (at + 2 * length x)
    all_units w e h = record { content = w ∙ rw (e, take-length x); long = units_long x; next = refl; fits = h }

    pub more_bytes : y ≡ put d at (map byte_of (take i (units x))) → length y ≡ length d → i < length x / 2 → at + length x / 2 ≤ length d → {v b : ℕ} → v ≡ u16_at x (2 * i) → b ≡ byte_of v
        → set y (at + i) b ≡ put d at (map byte_of (take (i + 1) (units x)))
    more_bytes w k h m {v} {b} e f =
        let s : map byte_of (take (i + 1) (units x)) ≡ map byte_of (take i (units x)) ++ (b ∷ [])
        = rw (add-one i, take-suc (units x) i 0 (omega (arith, units_count x)), map-append, unit_at x i h, ← e, ← f) in
        let l : length (map byte_of (take i (units x))) ≡ i = length-map (take i (units x)) byte_of ∙ length-take-le i (units x) (omega (arith, units_count x)) in
        put_one y (at + i) b (omega (arith, k)) ∙ rw w (put-put d at (map byte_of (take i (units x))) (b ∷ []) (omega (arith, l)) (omega arith)) ∙ ap (put d at) (sym s)

    pub all_bytes : y ≡ put d at (map byte_of (take i (units x))) → i ≡ length x / 2 → at + length x / 2 ≤ length d → Wrote d at (to_bytes x) (length x / 2) y (at + length x / 2)
    unfolding to_bytes
    all_bytes w e h = record { content = w ∙ rw (e, ← units_count x, take-length (units x)); long = bytes_long x ∙ units_count x; next = refl; fits = h }
