-- The hot key's groups are its two tables value for value (FORMAT: Hot key), and all of it is one sentence.
use mathlib.Core.Path.{◌≡◌, refl, sym, ◌∙◌}
use mathlib.Core.List.{List, [], ◌∷◌}
use mathlib.Core.Bool.{Bool, true, false, ◌&&◌, ◌||◌, cond}
use Prim.Native.Nat.{ℕ, zero, suc, ◌+◌, ◌/◌, ◌%◌, ◌^◌, ◌≤◌, ◌<◌}
use native.Mathlib.Omega.{arith}
use native.Mathlib.Nat.{zero-lt-suc, mod-add-div, mod-lt}
use lib.Dec.{leb, eqb}
use borrow.Enum.Match.{each_below}
use borrow.Author.Tests.{leb-true, le-leb, lt-leb, eqb-true, eq-eqb, ne_eqb}
use Rattle.format.specs.Hotkey.{among, digit, letter, function_key, num_lock, scroll_lock, low_byte_ok, shift_held, ctrl_held, alt_held, high_byte_ok, no_modifier, hotkey_ok}
use Rattle.format.proofs.Bools.{and-true, and_both, and_no, or-true, or_left, or_right, same_truth, by_order}

-- those of the n numbers from k on that pass
abbrev passing : (ℕ → Bool) → ℕ → ℕ → List ℕ
passing f zero k = []
passing f (suc n) k = cond (f k) (k ∷ passing f n (suc k)) (passing f n (suc k))

-- every value of LowByte's table, and no other byte
pub low_byte_rows : passing low_byte_ok 256 0
    ≡ 0x30 ∷ 0x31 ∷ 0x32 ∷ 0x33 ∷ 0x34 ∷ 0x35 ∷ 0x36 ∷ 0x37 ∷ 0x38 ∷ 0x39
    ∷ 0x41 ∷ 0x42 ∷ 0x43 ∷ 0x44 ∷ 0x45 ∷ 0x46 ∷ 0x47 ∷ 0x48 ∷ 0x49 ∷ 0x4A ∷ 0x4B
    ∷ 0x4C ∷ 0x4D ∷ 0x4E ∷ 0x4F ∷ 0x50 ∷ 0x51 ∷ 0x52 ∷ 0x53 ∷ 0x54 ∷ 0x55 ∷ 0x56 ∷ 0x57 ∷ 0x58 ∷ 0x59 ∷ 0x5A
    ∷ 0x70 ∷ 0x71 ∷ 0x72 ∷ 0x73 ∷ 0x74 ∷ 0x75 ∷ 0x76 ∷ 0x77 ∷ 0x78 ∷ 0x79 ∷ 0x7A ∷ 0x7B
    ∷ 0x7C ∷ 0x7D ∷ 0x7E ∷ 0x7F ∷ 0x80 ∷ 0x81 ∷ 0x82 ∷ 0x83 ∷ 0x84 ∷ 0x85 ∷ 0x86 ∷ 0x87
    ∷ 0x90 ∷ 0x91
    ∷ []
low_byte_rows = refl

-- every combination of HighByte's three rows, and no other byte
pub high_byte_rows : passing high_byte_ok 256 0
    ≡ 0x01 ∷ 0x02 ∷ (0x01 + 0x02) ∷ 0x04 ∷ (0x01 + 0x04) ∷ (0x02 + 0x04) ∷ (0x01 + 0x02 + 0x04) ∷ []
high_byte_rows = refl

-- ---- the groups against the sentence

locks : (k : ℕ) → (num_lock k || scroll_lock k) ≡ among 0x90 0x91 k
locks k = same_truth _ _ to from
  where
    to : (num_lock k || scroll_lock k) ≡ true → among 0x90 0x91 k ≡ true
    to e =
        or-true (num_lock k) (scroll_lock k) e
        (λ a. let z = eqb-true k 0x90 a in and_both _ _ (le-leb 0x90 k (omega arith)) (le-leb k 0x91 (omega arith)))
        (λ b. let z = eqb-true k 0x91 b in and_both _ _ (le-leb 0x90 k (omega arith)) (le-leb k 0x91 (omega arith)))

    from : among 0x90 0x91 k ≡ true → (num_lock k || scroll_lock k) ≡ true
    from e =
        let i = and-true (leb 0x90 k) (leb k 0x91) e in
        let lo = leb-true 0x90 k i.0 in
        let hi = leb-true k 0x91 i.1 in
        by_order k 0x90
        (λ h. or_left (num_lock k) (scroll_lock k) (eq-eqb k 0x90 (omega arith)))
        (λ h. or_right (num_lock k) (scroll_lock k) (eq-eqb k 0x91 (omega arith)))

-- no modifier, one, or a combination: 0 to 7
modifiers : (m : ℕ) → (no_modifier m || high_byte_ok m) ≡ leb m 7
modifiers m = by_order m 7 (λ h. small h ∙ sym (le-leb m 7 h)) (λ h. large h ∙ sym (lt-leb m 7 h))
  where
    small : m ≤ 7 → (no_modifier m || high_byte_ok m) ≡ true
    small h =
        each_below 8 (λ n. (no_modifier n || high_byte_ok n) ≡ true) (refl, (refl, (refl, (refl, (refl, (refl, (refl, (refl, tt)))))))) m (omega arith)

    large : 7 < m → (no_modifier m || high_byte_ok m) ≡ false
    large h =
        rw (ne_eqb m 0 (λ z. omega arith), ne_eqb (m / 2 ^ 3) 0 (λ z. let a = mod-add-div m 8 in let b = mod-lt m (zero-lt-suc 7) in omega arith))
        (and_no (shift_held m || ctrl_held m || alt_held m))

-- the rule in one sentence, with which the groups agree on every hot key
pub hotkey_sentence : (h : ℕ)
    → hotkey_ok h
    ≡ (eqb h 0
    || ((among 0x30 0x39 (h % 256) || among 0x41 0x5A (h % 256) || among 0x70 0x87 (h % 256) || among 0x90 0x91 (h % 256)) && leb (h / 256) 7))
hotkey_sentence h = rw (modifiers (h / 256), last_two (digit (h % 256) || letter (h % 256) || function_key (h % 256)) (h % 256))
  where
    last_two : (b : Bool) (k : ℕ) → (b || num_lock k || scroll_lock k) ≡ (b || among 0x90 0x91 k)
    last_two true k = refl
    last_two false k = locks k
