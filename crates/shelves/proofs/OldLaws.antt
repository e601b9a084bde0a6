-- The old form, entry after entry.
use mathlib.Core.Path.{◌≡◌, refl, sym, ap, ◌∙◌}
use mathlib.Core.List.{List, [], ◌∷◌, map}
use mathlib.Core.Bool.{Bool, true, false, ◌&&◌, ◌||◌, cond}
use Prim.Native.Nat.{ℕ, zero, suc, ◌+◌, ◌-◌, ◌≤◌, ◌<◌}
use native.Mathlib.Omega.{arith}
use lib.ListN.{length, take, drop, set, get_or, length-drop, length-map}
use lib.Seq.{drop-drop, get_or-drop, length-take-le}
use lib.Dec.{leb, eqb}
use borrow.Author.Tests.{leb-true, le-leb, lt-leb, eqb-true, eqb-false, eq-eqb, ne_eqb}
use Rattle.std.specs.Prelude.{None, Some}
use Rattle.std.specs.Bool.{then_some}
use Rattle.octets.specs.Numbers.{u32_at}
use Rattle.octets.specs.Parts.{put}
use Rattle.octets.proofs.WroteLaws.{put-nil}
use Rattle.format.proofs.Bools.{clash, and-true, and_no}
use Rattle.shelves.proofs.PutLaws.{front_next, front_all}
use Rattle.shelves.specs.Table.{most_entries}
use Rattle.shelves.specs.OldFile.{old_fits, old_entries}
use Rattle.shelves.specs.Steps.Apart.{apart, span, old_lengths}

-- ---- the entry at hand

module _ (t : List ℕ) where
  -- none is left
  pub old_end : (k : ℕ) → length t ≡ 0 → (old_fits k t ≡ true) × (old_entries k t ≡ [])
  unfolding old_fits old_entries
  old_end zero e = (eq-eqb (length t) 0 e, refl)
  old_end (suc k) e = let f = eq-eqb (length t) 0 e in (rw f, rw f)

  module _ (more : length t ≡ 0 → ⊥) where
    pub old_many : old_fits 0 t ≡ false
    unfolding old_fits
    old_many = ne_eqb (length t) 0 more

    -- its length is cut or passes the end
    pub old_past : (k : ℕ) → length t < 4 + u32_at t 0 → old_fits k t ≡ false
    unfolding old_fits
    old_past zero h = ne_eqb (length t) 0 more
    old_past (suc k) h = rw (ne_eqb (length t) 0 more, lt-leb (4 + u32_at t 0) (length t) h) (and_no (leb 4 (length t)))

    pub old_on : (k : ℕ) → 0 < k → 4 + u32_at t 0 ≤ length t
        → (old_fits k t ≡ old_fits (k - 1) (drop (4 + u32_at t 0) t)) × (old_entries k t ≡ take (u32_at t 0) (drop 4 t) ∷ old_entries (k - 1) (drop (4 + u32_at t 0) t))
    unfolding old_fits old_entries
    old_on zero h i = absurd (omega arith)
    old_on (suc k) h i =
        let e : suc k - 1 ≡ k = omega arith in
        let f : leb (4 + u32_at t 0) (length t) ≡ true = le-leb (4 + u32_at t 0) (length t) i in
        let g : leb 4 (length t) ≡ true = le-leb 4 (length t) (omega arith) in
        let some = ne_eqb (length t) 0 more in
        (rw (some, f, g, e), rw (some, e))

    pub lengths_on : (k : ℕ) → 0 < k → 4 + u32_at t 0 ≤ length t → map length (old_entries k t) ≡ u32_at t 0 ∷ map length (old_entries (k - 1) (drop (4 + u32_at t 0) t))
    lengths_on k h i =
        let l : length (take (u32_at t 0) (drop 4 t)) ≡ u32_at t 0 = length-take-le (u32_at t 0) (drop 4 t) (omega (arith, length-drop 4 t)) in
        ap (map length) (old_on k h i).1 ∙ rw l

-- the entries stand one after another, each after its length, to the end
pub record OldApart (s : List ℕ) (es : List (List ℕ)) (k : ℕ) : Type 0 where
  pub is : es ≡ apart 4 (map length es) s
  pub whole : span 4 (map length es) ≡ length s
  pub few : length es ≤ k

pub old_apart : (k : ℕ) (s : List ℕ) → old_fits k s ≡ true → OldApart s (old_entries k s) k
unfolding old_fits old_entries
old_apart zero s e = record { is = refl; whole = omega (arith, eqb-true (length s) 0 e); few = omega arith }
old_apart (suc k) s e = go (eqb (length s) 0) refl e (old_apart k (drop (4 + u32_at s 0) s))
  where
    go : (b : Bool) → eqb (length s) 0 ≡ b → (b || (leb 4 (length s) && (leb (4 + u32_at s 0) (length s) && old_fits k (drop (4 + u32_at s 0) s)))) ≡ true
        → (old_fits k (drop (4 + u32_at s 0) s) ≡ true → OldApart (drop (4 + u32_at s 0) s) (old_entries k (drop (4 + u32_at s 0) s)) k)
        → OldApart s (cond b [] (take (u32_at s 0) (drop 4 s) ∷ old_entries k (drop (4 + u32_at s 0) s))) (suc k)
    go true t f again = record { is = refl; whole = omega (arith, eqb-true (length s) 0 t); few = omega arith }
    go false t f again =
        let (a, g) = and-true (leb 4 (length s)) _ f in
        let (c, h) = and-true (leb (4 + u32_at s 0) (length s)) _ g in
        let o = again h in
        let inside = leb-true (4 + u32_at s 0) (length s) c in
        let l : length (take (u32_at s 0) (drop 4 s)) ≡ u32_at s 0 = length-take-le (u32_at s 0) (drop 4 s) (omega (arith, length-drop 4 s)) in
        record {
          is = rw l (ap (λ (es : List (List ℕ)). take (u32_at s 0) (drop 4 s) ∷ es) o.is);
          whole = rw l (omega (arith, o.whole, length-drop (4 + u32_at s 0) s));
          few = omega (arith, o.few);
        }

-- ---- counting: k entries are passed, and t is left

module _ (s t : List ℕ) (k : ℕ) (fits : old_fits (most_entries - k) t ≡ old_fits most_entries s) (count : k + length (old_entries (most_entries - k) t) ≡ length (old_entries most_entries s)) where
  pub count_end : length t ≡ 0 → Some k ≡ cond (old_fits most_entries s) (Some (length (old_entries most_entries s))) None
  count_end e =
      let (f, g) = old_end t (most_entries - k) e in
      let n : length (old_entries most_entries s) ≡ k = omega (arith, count, ap length g) in
      rw (sym fits ∙ f, n)

  pub count_past : (length t ≡ 0 → ⊥) → length t < 4 + u32_at t 0 → None ≡ cond (old_fits most_entries s) (Some (length (old_entries most_entries s))) None
  count_past more h = rw (sym fits ∙ old_past t more (most_entries - k) h)

  pub count_last : k ≡ most_entries → {b : Bool} → b ≡ eqb (length t) 0 → then_some b 64 ≡ cond (old_fits most_entries s) (Some (length (old_entries most_entries s))) None
  count_last e {b} i = go b i
    where
      none : most_entries - k ≡ 0
      none = omega arith

      go : (b : Bool) → b ≡ eqb (length t) 0 → then_some b 64 ≡ cond (old_fits most_entries s) (Some (length (old_entries most_entries s))) None
      go true i = ap Some (sym e) ∙ count_end (eqb-true (length t) 0 (sym i))
      go false i = rw (sym fits ∙ ap (λ (n : ℕ). old_fits n t) none ∙ old_many t (eqb-false (length t) 0 (sym i)))

-- ---- the lengths of the first i entries stand in front of l, which is x then, and t is left

pub record Passed (s : List ℕ) (i : ℕ) (t l x : List ℕ) : Type 0 where
  pub few : i ≤ most_entries
  pub fits : old_fits (most_entries - i) t ≡ true
  pub left : map length (old_entries (most_entries - i) t) ≡ drop i (old_lengths s)
  pub content : x ≡ put l 0 (take i (old_lengths s))

pub Passed-none : (s l : List ℕ) → old_fits most_entries s ≡ true → Passed s 0 s l l
unfolding old_lengths
Passed-none s l h = record { few = omega arith; fits = h; left = refl; content = put-nil l 0 }

module _ {s t l x : List ℕ} {i : ℕ} (p : Passed s i t l x) where
  none_left : drop i (old_lengths s) ≡ [] → x ≡ put l 0 (old_lengths s)
  none_left e = p.content ∙ front_all l (old_lengths s) i (omega (arith, length-drop i (old_lengths s), ap length e))

  pub passed_all : length t < 4 + u32_at t 0 → x ≡ put l 0 (old_lengths s)
  passed_all h = go (eqb (length t) 0) refl
    where
      go : (b : Bool) → eqb (length t) 0 ≡ b → x ≡ put l 0 (old_lengths s)
      go true e = none_left (sym p.left ∙ ap (map length) (old_end t (most_entries - i) (eqb-true (length t) 0 e)).1)
      go false e = clash p.fits (old_past t (eqb-false (length t) 0 e) (most_entries - i) h)

  pub passed_full : most_entries ≤ i → x ≡ put l 0 (old_lengths s)
  unfolding old_entries
  passed_full h = let e : most_entries - i ≡ 0 = omega arith in none_left (sym p.left ∙ ap (λ (n : ℕ). map length (old_entries n t)) e)

  module _ (inside : 4 + u32_at t 0 ≤ length t) where
    more : length t ≡ 0 → ⊥
    more e = omega arith

    some : 0 < most_entries - i
    some = go (most_entries - i) refl
      where
        go : (n : ℕ) → most_entries - i ≡ n → 0 < most_entries - i
        go zero e = clash (rw e at p.fits) (old_many t more)
        go (suc n) e = omega arith

    next : drop i (old_lengths s) ≡ u32_at t 0 ∷ map length (old_entries (most_entries - i - 1) (drop (4 + u32_at t 0) t))
    next = sym p.left ∙ lengths_on t more (most_entries - i) some inside

    pub Passed-more : most_entries ≤ length l → {n : ℕ} → n ≡ u32_at t 0 → Passed s (i + 1) (drop (4 + u32_at t 0) t) l (set x i n)
    Passed-more room {n} e =
        let w : List ℕ = old_lengths s in
        let z : i + 0 ≡ i = omega arith in
        let fewer : most_entries - i - 1 ≡ most_entries - (i + 1) = omega arith in
        let head : get_or w i 0 ≡ u32_at t 0 = ap (λ (k : ℕ). get_or w k 0) (sym z) ∙ sym (get_or-drop i w 0 0) ∙ ap (λ (l : List ℕ). get_or l 0 0) next in
        let long = ap length next in
        let o = old_apart (most_entries - i) t p.fits in
        let all : length w ≤ length l = omega (arith, length-drop i w, ap length p.left, length-map (old_entries (most_entries - i) t) length, o.few) in
        let on : i < length w = omega (arith, length-drop i w, long) in
        record {
          few = omega (arith, some);
          fits = rw (← fewer) (sym (old_on t more (most_entries - i) some inside).0 ∙ p.fits);
          left = rw (← fewer) (sym (ap tail next) ∙ tail-drop w i on);
          content = rw p.content (front_next l w i (e ∙ sym head) on all);
        }
      where
        tail : List ℕ → List ℕ
        tail l = drop 1 l

        tail-drop : (w : List ℕ) (i : ℕ) → i < length w → drop 1 (drop i w) ≡ drop (i + 1) w
        tail-drop w i h = drop-drop 1 i w
