-- Bytes in hex are shown byte after byte.
use mathlib.Core.Path.{◌≡◌, refl, sym, ap}
use mathlib.Core.List.{List, [], ◌∷◌, ◌++◌}
use Prim.Native.Nat.{ℕ, ◌+◌, ◌-◌, ◌/◌, ◌%◌, ◌≤◌, ◌<◌}
use native.Mathlib.Omega.{arith}
use native.Mathlib.Numerals.{add-one}
use lib.ListN.{length, take, get_or}
use lib.Seq.{take-suc, take_all}
use borrow.Author.Tests.{lt-ltb, le-ltb}
use Rattle.lines.specs.declared.window.Window.{Window}
use Rattle.lines.specs.Text.{hex_digit, hex_of}
use Rattle.lines.specs.Steps.Windows.{Showed}
use Rattle.lines.proofs.WindowLaws.{Showed-none, Showed-join, Showed-as}

pub digit_low : (x : ℕ) → x < 10 → 48 + x ≡ hex_digit x
unfolding hex_digit
digit_low x h = rw (lt-ltb x 10 h)

pub digit_high : (x : ℕ) → 10 ≤ x → 97 + (x - 10) ≡ hex_digit x
unfolding hex_digit
digit_high x h = rw (le-ltb x 10 h) (omega arith)

pub byte_hex : (x : ℕ) {a b : ℕ} → a ≡ hex_digit (x / 16) → b ≡ hex_digit (x % 16) → a ∷ b ∷ [] ≡ hex_of (x ∷ [])
unfolding hex_of
byte_hex x e f = rw (e, f)

hex_append : (l : List ℕ) (a : ℕ) → hex_of (l ++ a ∷ []) ≡ hex_of l ++ hex_of (a ∷ [])
unfolding hex_of
hex_append [] a = refl
hex_append (b ∷ l) a = ap (λ (x : List ℕ). hex_digit (b / 16) ∷ hex_digit (b % 16) ∷ x) (hex_append l a)

module _ (w : Window) (s : List ℕ) where
  pub hex_none : Showed w (hex_of (take 0 s)) w
  unfolding hex_of
  hex_none = Showed-none w

  module _ {i : ℕ} {r : Window} (p : Showed w (hex_of (take i s)) r) where
    pub hex_more : i < length s → {q : Window} → Showed r (hex_of (get_or s i 0 ∷ [])) q → Showed w (hex_of (take (i + 1) s)) q
    hex_more h o =
        let e : hex_of (take i s) ++ hex_of (get_or s i 0 ∷ []) ≡ hex_of (take (i + 1) s) = rw (add-one i, take-suc s i 0 h) (sym (hex_append (take i s) (get_or s i 0))) in
        Showed-as (Showed-join p o) e

    pub hex_whole : length s ≤ i → Showed w (hex_of s) r
    hex_whole e = Showed-as p (rw (take_all i s e))
