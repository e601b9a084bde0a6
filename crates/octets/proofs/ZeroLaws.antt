-- The search for a zero character, over the kind: its steps, and what an answer says.
use mathlib.Core.Path.{◌≡◌, refl, sym, ◌∙◌}
use mathlib.Core.List.{List, [], ◌∷◌}
use mathlib.Core.Bool.{Bool, true, false, not, cond, ◌&&◌}
use Prim.Native.Nat.{ℕ, zero, suc, ◌+◌, ◌-◌, ◌*◌, ◌/◌, ◌≤◌, ◌<◌}
use native.Mathlib.Omega.{arith}
use lib.ListN.{length, take, drop, get_or, length-drop}
use lib.Dec.{eqb}
use borrow.Author.Tests.{lt-ltb, le-ltb, le-leb, lt-leb, leb-false, ltb-true, eqb-true, eqb-false, not-true, not-false}
use Rattle.std.specs.Prelude.{Option, Some, None, unwrap_or}
use Rattle.std.proofs.lemmas.List.{take_all}
use Rattle.octets.specs.Numbers.{number, number_at}
use Rattle.octets.specs.Characters.{bytes_of, units, characters, before_zero, has_zero}
use Rattle.octets.specs.Steps.Cursors.{inside, ok_or_cut}
use Rattle.octets.specs.Steps.Scans.{first_zero, zero_from, zero_number, zero_value, before, zero_at, zero_place, FirstZero, characters_in, others, sixteens, sixteen_at}
use Rattle.octets.proofs.AndLaws.{and-true, and_assoc, and_yes}
use Rattle.octets.proofs.CharacterLaws.{characters_fit, bytes_of-le, bytes_of-add}
use Rattle.octets.proofs.ChoiceLaws.{cond_first, cond_second}

-- ---- characters by number

some_bytes : (u : Bool) → 0 < bytes_of u 1
some_bytes true = omega arith
some_bytes false = omega arith

pub characters_in_le : (u : Bool) (n : ℕ) → characters_in u n ≤ n
characters_in_le true n = omega arith
characters_in_le false n = omega arith

units_len : (s : List ℕ) → length (units s) ≡ length s / 2
unfolding units
units_len [] = refl
units_len (a ∷ []) = refl
units_len (a ∷ b ∷ s) = omega (arith, units_len s)

pub characters_len : (u : Bool) (s : List ℕ) → length (characters u s) ≡ characters_in u (length s)
characters_len true s = units_len s
characters_len false s = refl

pub unit_here : (s : List ℕ) (k : ℕ) → k < length s / 2 → number_at 2 s (2 * k) ≡ get_or (units s) k 0
unfolding units number_at number
unit_here [] k h = absurd (omega arith)
unit_here (a ∷ []) k h = absurd (omega arith)
unit_here (a ∷ b ∷ s) zero h = omega arith
unit_here (a ∷ b ∷ s) (suc k) h =
    let e : 2 * suc k ≡ suc (suc (2 * k)) = omega arith in
    rw e (unit_here s k (omega arith))

-- ---- a search that has come to the character k

zero_stops : (l : List ℕ) (k : ℕ) → get_or l k 0 ≡ 0 → before_zero l ≤ k
unfolding before_zero
zero_stops [] k z = omega arith
zero_stops (zero ∷ l) k z = omega arith
zero_stops (suc a ∷ l) zero z = absurd (omega arith)
zero_stops (suc a ∷ l) (suc k) z = omega (arith, zero_stops l k z)

other_passed : (l : List ℕ) (k : ℕ) → k ≤ before_zero l → k < length l → (get_or l k 0 ≡ 0 → ⊥) → k + 1 ≤ before_zero l
unfolding before_zero
other_passed [] k h f z = absurd (omega arith)
other_passed (zero ∷ l) zero h f z = absurd (z refl)
other_passed (zero ∷ l) (suc k) h f z = absurd (omega arith)
other_passed (suc a ∷ l) zero h f z = omega arith
other_passed (suc a ∷ l) (suc k) h f z = omega (arith, other_passed l k (omega arith) (omega arith) z)

pub search_end : (l : List ℕ) → (before_zero l < length l → ⊥) → None ≡ first_zero l
search_end l h = rw (le-ltb (before_zero l) (length l) (omega (arith, h)))

module _ (l : List ℕ) (k : ℕ) {b : Bool} (e : b ≡ eqb (get_or l k 0) 0) where
  pub search_zero : b ≡ true → k ≤ before_zero l → k < length l → Some k ≡ first_zero l
  search_zero t h f =
      let q : before_zero l ≡ k = omega (arith, zero_stops l k (eqb-true (get_or l k 0) 0 (sym e ∙ t))) in
      rw (q, lt-ltb k (length l) f)

  pub search_other : b ≡ false → k ≤ before_zero l → k < length l → k + 1 ≤ before_zero l
  search_other t h f = other_passed l k h f (eqb-false (get_or l k 0) 0 (sym e ∙ t))

-- ---- many characters at once

pub four_others : (l : List ℕ) (k : ℕ) {a b c d : Bool} → a ≡ eqb (get_or l k 0) 0 → b ≡ eqb (get_or l (k + 1) 0) 0 → c ≡ eqb (get_or l (k + 2) 0) 0 → d ≡ eqb (get_or l (k + 3) 0) 0
    → (not a && not b && not c && not d) ≡ others l k 4
unfolding others
four_others l k e f g h = let z : k + 0 ≡ k = omega arith in rw (z, e, f, g, h)

pub others_more : (l : List ℕ) (k m n : ℕ) {a b : Bool} → a ≡ others l k m → b ≡ others l (k + m) n → (a && b) ≡ others l k (m + n)
unfolding others
others_more l k m n e f = rw (e, f) (go n)
  where
    go : (n : ℕ) → (others l k m && others l (k + m) n) ≡ others l k (m + n)
    go zero = let z : m + 0 ≡ m = omega arith in rw z (and_yes (others l k m))
    go (suc n) =
        let z : m + suc n ≡ suc (m + n) = omega arith in
        let w : k + m + n ≡ k + (m + n) = omega arith in
        rw z (sym (and_assoc (others l k m) (others l (k + m) n) (not (eqb (get_or l (k + m + n) 0) 0))) ∙ rw (go n, w))

pub others_passed : (l : List ℕ) (k n : ℕ) → k ≤ before_zero l → k + n ≤ length l → others l k n ≡ true → k + n ≤ before_zero l
unfolding others
others_passed l k zero h f o = omega arith
others_passed l k (suc n) h f o =
    let (p, q) = and-true (others l k n) (not (eqb (get_or l (k + n) 0) 0)) o in
    omega (arith, other_passed l (k + n) (others_passed l k n h (omega arith) p) (omega arith) (eqb-false (get_or l (k + n) 0) 0 (not-true (eqb (get_or l (k + n) 0) 0) q)))

others_stop : (l : List ℕ) (k n : ℕ) → others l k n ≡ false → before_zero l < k + n
unfolding others
others_stop l k zero o = cc
others_stop l k (suc n) o = go (others l k n) refl (others_stop l k n)
  where
    go : (b : Bool) → others l k n ≡ b → (others l k n ≡ false → before_zero l < k + n) → before_zero l < k + suc n
    go true p r =
        let q : eqb (get_or l (k + n) 0) 0 ≡ true = not-false (eqb (get_or l (k + n) 0) 0) (rw p at o) in
        omega (arith, zero_stops l (k + n) (eqb-true (get_or l (k + n) 0) 0 q))
    go false p r = omega (arith, r p)

pub sixteen_characters : (u : Bool) → (characters_in u 16 ≡ 8 → ⊥) → characters_in u 16 ≡ 16
sixteen_characters true h = absurd (h refl)
sixteen_characters false h = refl

-- ---- whole sixteens of bytes, of which j are passed

whole_sixteens : (u : Bool) (b j : ℕ) → 16 * j ≤ bytes_of u b → b < characters_in u (16 * j) + characters_in u 16 → bytes_of u b / 16 * 16 ≡ 16 * j
whole_sixteens true b j h f = omega arith
whole_sixteens false b j h f = omega arith

next_sixteen : (u : Bool) (b j : ℕ) → characters_in u (16 * j) + characters_in u 16 ≤ b → 16 * (j + 1) ≤ bytes_of u b
next_sixteen true b j h = omega arith
next_sixteen false b j h = omega arith

passed_sixteens : (u : Bool) (b j : ℕ) → 16 * j ≤ bytes_of u b → characters_in u (16 * j) ≤ b
passed_sixteens true b j h = omega arith
passed_sixteens false b j h = omega arith

pub sixteens_inside : (u : Bool) (n j : ℕ) → 16 * (j + 1) ≤ n → characters_in u (16 * j) + characters_in u 16 ≤ characters_in u n
sixteens_inside true n j h = omega arith
sixteens_inside false n j h = omega arith

module _ (u : Bool) (s : List ℕ) (j : ℕ) (h : 16 * j ≤ bytes_of u (before_zero (characters u s))) where
  module _ {k : ℕ} (e : k ≡ characters_in u (16 * j)) (f : 16 * (j + 1) ≤ length s) {x : Bool} (o : x ≡ others (characters u s) k (characters_in u 16)) where
    pub sixteen_here : x ≡ false → Some k ≡ sixteen_at u s
    unfolding sixteens
    sixteen_here n =
        let b = before_zero (characters u s) in
        let w : bytes_of u b / 16 * 16 ≡ 16 * j = whole_sixteens u b j h (omega (arith, others_stop (characters u s) k (characters_in u 16) (sym o ∙ n))) in
        let z : 0 + bytes_of u b / 16 * 16 ≡ 16 * j = omega arith in
        rw (z, le-leb (16 * j + 16) (length s) (omega arith), e)

    pub sixteen_more : x ≡ true → 16 * (j + 1) ≤ bytes_of u (before_zero (characters u s))
    sixteen_more n =
        let l = characters u s in
        let b = before_zero l in
        next_sixteen u b j (omega (arith, others_passed l k (characters_in u 16) (omega (arith, passed_sixteens u b j h)) (omega (arith, characters_len u s, sixteens_inside u (length s) j f)) (sym o ∙ n)))

  pub sixteen_none : length s < 16 * j + 16 → None ≡ sixteen_at u s
  unfolding sixteens
  sixteen_none f = rw (lt-leb (0 + bytes_of u (before_zero (characters u s)) / 16 * 16 + 16) (length s) (omega arith))

below_sixteens : (u : Bool) (b n : ℕ) → n < bytes_of u b / 16 * 16 + 16 → characters_in u (n / 16 * 16) ≤ b
below_sixteens true b n h = omega arith
below_sixteens false b n h = omega arith

around_sixteens : (u : Bool) (b : ℕ) → (characters_in u (0 + bytes_of u b / 16 * 16) ≤ b) × (b < characters_in u (0 + bytes_of u b / 16 * 16) + characters_in u 16)
around_sixteens true b = (omega arith, omega arith)
around_sixteens false b = (omega arith, omega arith)

module _ (u : Bool) (s : List ℕ) {r : Option ℕ} (e : r ≡ sixteen_at u s) where
  pub sixteen_found : {k : ℕ} → r ≡ Some k → (k ≤ before_zero (characters u s)) × (before_zero (characters u s) < k + characters_in u 16)
  unfolding sixteens
  sixteen_found {k} h =
      let (b, q) = cond_first (inside s (sixteens u s 0) 16) e (λ c. cc) in
      let f : characters_in u (sixteens u s 0) ≡ k = cc in
      rw (← f) (around_sixteens u (before_zero (characters u s)))

  pub sixteen_lost : r ≡ None → characters_in u (length s / 16 * 16) ≤ before_zero (characters u s)
  unfolding sixteens
  sixteen_lost h =
      let (b, q) = cond_second (inside s (sixteens u s 0) 16) e (λ c. cc) in
      let f : length s < 0 + bytes_of u (before_zero (characters u s)) / 16 * 16 + 16 = leb-false (0 + bytes_of u (before_zero (characters u s)) / 16 * 16 + 16) (length s) b in
      below_sixteens u (before_zero (characters u s)) (length s) (omega arith)

-- ---- from an answer to the facts

pub rest_whole : (s : List ℕ) (i : ℕ) → take (length s - i) (drop i s) ≡ drop i s
rest_whole s i = take_all (length s - i) (drop i s) (omega (arith, length-drop i s))

module _ (u : Bool) (s : List ℕ) (i : ℕ) where
  first_placed : has_zero (characters u (drop i s)) ≡ true → FirstZero u s i (i + bytes_of u (before u s i))
  first_placed h =
      let l = characters u (drop i s) in
      let k : bytes_of u (before_zero l + 1) ≤ bytes_of u (length l) = bytes_of-le u (omega (arith, ltb-true (before_zero l) (length l) h)) in
      record { ends = h; text = refl; inside = omega (arith, k, some_bytes u, bytes_of-add u (before_zero l) 1, characters_fit u (drop i s), length-drop i s) }

  pub no_zero_past : length s < i → has_zero (characters u (drop i s)) ≡ false
  no_zero_past h = le-ltb (before u s i) (length (characters u (drop i s))) (omega (arith, characters_len u (drop i s), characters_in_le u (length (drop i s)), length-drop i s))

  pub zero_at_past : length s < i → None ≡ zero_at u s i
  zero_at_past h = rw (no_zero_past h)

  pub zero_placed : {t : List ℕ} {z : Option ℕ} {n : ℕ} → t ≡ drop i s → z ≡ first_zero (characters u t) → z ≡ Some n → FirstZero u s i (i + bytes_of u n)
  zero_placed {t} {z} {n} d e h =
      let w : z ≡ first_zero (characters u (drop i s)) = rw d at e in
      let (b, q) = cond_first (has_zero (characters u (drop i s))) w (λ c. cc) in
      let f : n ≡ before u s i = cc in
      rw f (first_placed b)

  -- the place, or the length where no character is zero
  pub zero_at_place : unwrap_or (zero_at u s i) (length s) ≡ zero_place u s i
  unfolding zero_place
  zero_at_place = go (has_zero (characters u (drop i s)))
    where
      go : (b : Bool) → unwrap_or (cond b (Some (i + bytes_of u (before u s i))) None) (length s) ≡ cond b (i + bytes_of u (before u s i)) (length s)
      go true = refl
      go false = refl

  module _ {z : Option ℕ} (e : z ≡ zero_from u s i) where
    pub zero_from_found : {n : ℕ} → z ≡ Some n → (has_zero (characters u (drop i s)) ≡ true) × (n ≡ before u s i)
    zero_from_found h = let (b, q) = cond_first (has_zero (characters u (drop i s))) e (λ c. cc) in (b, cc)

    pub zero_from_none : z ≡ None → has_zero (characters u (drop i s)) ≡ false
    zero_from_none h = (cond_second (has_zero (characters u (drop i s))) e (λ c. cc)).0

  pub zero_from_has_number : zero_number (zero_from u s i) ≡ ok_or_cut (has_zero (characters u (drop i s)))
  unfolding zero_number
  zero_from_has_number = go (has_zero (characters u (drop i s)))
    where
      go : (b : Bool) → zero_number (cond b (Some (before u s i)) None) ≡ ok_or_cut b
      go true = refl
      go false = refl

  pub zero_from_has_value : zero_value (zero_from u s i) ≡ cond (has_zero (characters u (drop i s))) (before u s i) 0
  unfolding zero_value
  zero_from_has_value = go (has_zero (characters u (drop i s)))
    where
      go : (b : Bool) → zero_value (cond b (Some (before u s i)) None) ≡ cond b (before u s i) 0
      go true = refl
      go false = refl
