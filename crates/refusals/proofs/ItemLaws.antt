-- The walk over items, told by what stands where it fails.
use mathlib.Core.Path.{◌≡◌, refl, sym, ap, ◌∙◌}
use mathlib.Core.List.{List, [], ◌∷◌}
use mathlib.Core.Bool.{cond}
use Prim.Native.Nat.{ℕ, zero, suc, ◌+◌, ◌-◌, ◌*◌, ◌≤◌, ◌<◌}
use native.Mathlib.Omega.{arith}
use lib.ListN.{length, take, drop, length-drop}
use lib.Seq.{length-take-le}
use lib.Dec.{eqb}
use borrow.Author.Tests.{le-leb, lt-leb, eq-eqb, ne_eqb}
use Rattle.octets.specs.Numbers.{number, number_at, u16_at}
use Rattle.format.specs.declared.Fault.{Fault}
use Rattle.format.specs.declared.Spot.{Spot}
use Rattle.format.specs.Tests.{Site, section, spot_at, tests, Outcome, got, refused}
use Rattle.format.specs.Items.{item_tests}
use Rattle.format.proofs.Bools.{by_order}
use Rattle.format.proofs.MendLaws.{refused_elim, no_refusal}
use Rattle.format.proofs.PositionLaws.{number_part, part_drop}
use Rattle.refusals.specs.Wrong.{ItemsTo, no_more, item, WrongItem, no_size, small, passes, early_end}

-- ---- one item

two_bytes : (a b : ℕ) (l : List ℕ) → u16_at (a ∷ b ∷ l) 0 ≡ a + 256 * b
unfolding number_at number
two_bytes a b l = omega arith

items_skip : (f : Fault) (i k : ℕ) (l : List ℕ) → item_tests f i k l ≡ item_tests f i 0 (drop k l)
unfolding item_tests
items_skip f i zero l = refl
items_skip f i (suc k) [] = refl
items_skip f i (suc k) (a ∷ l) = items_skip f i k l

module _ {A : Type 0} (w : Site) (f : Fault) (i : ℕ) (r : Outcome A) where
  tests_none : (l : List ℕ) → length l < 2 → tests w (item_tests f i 0 l) r ≡ refused f (spot_at w i)
  unfolding item_tests
  tests_none [] h = refl
  tests_none (a ∷ []) h = refl
  tests_none (a ∷ b ∷ l) h = absurd (omega arith)

  tests-zero : (l : List ℕ) → 2 ≤ length l → u16_at l 0 ≡ 0 → tests w (item_tests f i 0 l) r ≡ cond (eqb (length l) 2) r (refused f (spot_at w i))
  unfolding item_tests
  tests-zero [] h e = absurd (omega arith)
  tests-zero (a ∷ []) h e = absurd (omega arith)
  tests-zero (a ∷ b ∷ l) h e =
      let z : a + 256 * b ≡ 0 = sym (two_bytes a b l) ∙ e in
      by_order 1 (length l)
      (λ k. rw (z, ne_eqb (length l) 0 (λ y. omega arith), ne_eqb (length (a ∷ b ∷ l)) 2 (λ y. omega arith)))
      (λ k. rw (z, eq-eqb (length l) 0 (omega arith), eq-eqb (length (a ∷ b ∷ l)) 2 (omega arith)))

  tests_small : (l : List ℕ) → 2 ≤ length l → u16_at l 0 ≡ 1 → tests w (item_tests f i 0 l) r ≡ refused f (spot_at w i)
  unfolding item_tests
  tests_small [] h e = absurd (omega arith)
  tests_small (a ∷ []) h e = absurd (omega arith)
  tests_small (a ∷ b ∷ l) h e = let z : a + 256 * b ≡ 1 = sym (two_bytes a b l) ∙ e in rw z

  tests_passes : (l : List ℕ) (n : ℕ) → 2 ≤ length l → u16_at l 0 ≡ n → 2 ≤ n → length l < n → tests w (item_tests f i 0 l) r ≡ refused f (spot_at w i)
  unfolding item_tests
  tests_passes [] n h e g k = absurd (omega arith)
  tests_passes (a ∷ []) n h e g k = absurd (omega arith)
  tests_passes (a ∷ b ∷ l) n h e g k =
      let z : a + 256 * b ≡ n = sym (two_bytes a b l) ∙ e in
      rw (z, ne_eqb n 0 (λ y. omega arith), le-leb 2 n g, lt-leb (n - 2) (length l) (omega arith))

  tests_item : (l : List ℕ) (n : ℕ) → 2 ≤ length l → u16_at l 0 ≡ n → 2 ≤ n → n ≤ length l → tests w (item_tests f i 0 l) r ≡ tests w (item_tests f (i + n) 0 (drop n l)) r
  unfolding item_tests
  tests_item [] n h e g k = absurd (omega arith)
  tests_item (a ∷ []) n h e g k = absurd (omega arith)
  tests_item (a ∷ b ∷ l) n h e g k =
      let z : a + 256 * b ≡ n = sym (two_bytes a b l) ∙ e in
      rw (z, ne_eqb n 0 (λ y. omega arith), le-leb 2 n g, le-leb (n - 2) (length l) (omega arith), items_skip f (i + n) (n - 2) l, rest n g)
    where
      rest : (n : ℕ) → 2 ≤ n → drop (n - 2) l ≡ drop n (a ∷ b ∷ l)
      rest zero h = absurd (omega arith)
      rest (suc zero) h = absurd (omega arith)
      rest (suc (suc n)) h = let y : suc (suc n) - 2 ≡ n = omega arith in rw y

-- ---- items from a on, of a list that ends at e; it belongs to the section k at q

module _ {A : Type 0} (s : List ℕ) (k q : ℕ) (f : Fault) (e : ℕ) (inside : e ≤ length s) (v : A) (m : ℕ) where
  abbrev left : ℕ → List ℕ
  left a = take (e - a) (drop a s)

  long : (a : ℕ) → a ≤ e → length (left a) ≡ e - a
  long a h = length-take-le (e - a) (drop a s) (omega (arith, length-drop a s))

  size : (a : ℕ) → a + 2 ≤ e → u16_at (left a) 0 ≡ u16_at s a
  size a h = let z : a + 0 ≡ a = omega arith in number_part 2 (e - a) a s 0 (omega arith) ∙ ap (number_at 2 s) z

  next : (a n : ℕ) → a + n ≤ e → drop n (left a) ≡ left (a + n)
  next a n h = let z : e - a - n ≡ e - (a + n) = omega arith in part_drop n (e - a) a s (omega arith) ∙ ap (λ (i : ℕ). take i (drop (a + n) s)) z

  -- what stands where the walk from a on fails
  pub record FailsAt (g : Fault) (p a : ℕ) : Type 0 where
    pub fault : f ≡ g
    pub items : ItemsTo s e p a
    pub wrong : WrongItem s e p

  here : (a i : ℕ) → q + i ≡ a → WrongItem s e a → {g : Fault} {w : Spot} → ◌≡◌ {A = Outcome A} (refused f (spot_at (section k q) i)) (refused g w) → FailsAt g w.position a
  here a i z x y = refused_elim (λ g w. FailsAt g w.position a) y (rw z (record { fault = refl; items = no_more; wrong = x }))

  -- j bounds what is left
  pub walk_fails : (j a i : ℕ) → a ≤ e → e - a ≤ j → q + i ≡ a → {g : Fault} {w : Spot} → tests (section k q) (item_tests f i 0 (left a)) (got v m) ≡ refused g w → FailsAt g w.position a
  walk_fails zero a i h b z y =
      here a i z (no_size h (omega arith)) (sym (tests_none (section k q) f i (got v m) (left a) (omega (arith, long a h))) ∙ y)
  walk_fails (suc j) a i h b z {g} {w} y =
      by_order (a + 2) e
      (λ o.
      let l : 2 ≤ length (left a) = omega (arith, long a h) in
      let n : ℕ = u16_at s a in
      by_order 2 n
      (λ c.
      by_order (a + n) e
      (λ d.
      let x = tests_item (section k q) f i (got v m) (left a) n l (size a o) c (omega (arith, long a h)) in
      let r = walk_fails j (a + n) (i + n) d (omega arith) (omega arith) (rw (next a n d) at (sym x ∙ y)) in
      record { fault = r.fault; items = item c d r.items; wrong = r.wrong })
      (λ d. here a i z (passes o c d) (sym (tests_passes (section k q) f i (got v m) (left a) n l (size a o) c (omega (arith, long a h))) ∙ y)))
      (λ c.
      by_order 1 n
      (λ d. here a i z (small o (omega arith)) (sym (tests_small (section k q) f i (got v m) (left a) l (size a o ∙ omega arith)) ∙ y))
      (λ d. ended o (omega arith) (sym (tests-zero (section k q) f i (got v m) (left a) l (size a o ∙ omega arith)) ∙ y))))
      (λ o. here a i z (no_size h o) (sym (tests_none (section k q) f i (got v m) (left a) (omega (arith, long a h))) ∙ y))
    where
      ended : a + 2 ≤ e → u16_at s a ≡ 0 → cond (eqb (length (left a)) 2) (got v m) (refused f (spot_at (section k q) i)) ≡ refused g w → FailsAt g w.position a
      ended o n x =
          by_order (a + 3) e
          (λ c. here a i z (early_end (omega arith) n) (rw (ne_eqb (length (left a)) 2 (λ y. omega (arith, long a h))) at x))
          (λ c. no_refusal (rw (eq-eqb (length (left a)) 2 (omega (arith, long a h))) at x))

  -- and back
  wrong_walk : (a i : ℕ) → a ≤ e → q + i ≡ a → WrongItem s e a → tests (section k q) (item_tests f i 0 (left a)) (got v m) ≡ refused f (spot_at (section k q) i)
  wrong_walk a i h z (no_size b c) = tests_none (section k q) f i (got v m) (left a) (omega (arith, long a h))
  wrong_walk a i h z (small b c) = tests_small (section k q) f i (got v m) (left a) (omega (arith, long a h)) (size a b ∙ c)
  wrong_walk a i h z (passes b c d) = tests_passes (section k q) f i (got v m) (left a) (u16_at s a) (omega (arith, long a h)) (size a b) c (omega (arith, long a h))
  wrong_walk a i h z (early_end b c) =
      tests-zero (section k q) f i (got v m) (left a) (omega (arith, long a h)) (size a (omega arith) ∙ c) ∙ rw (ne_eqb (length (left a)) 2 (λ y. omega (arith, long a h)))

  pub fails_walk : (p a i : ℕ) → a ≤ e → q + i ≡ a → ItemsTo s e p a → WrongItem s e p → (x : ℕ) × ((tests (section k q) (item_tests f i 0 (left a)) (got v m) ≡ refused f (spot_at (section k q) x)) × (q + x ≡ p))
  fails_walk p a i h z no_more y = (i, (wrong_walk a i h z y, z))
  fails_walk p a i h z (item c d r) y =
      let n : ℕ = u16_at s a in
      let l : 2 ≤ length (left a) = omega (arith, long a h) in
      let t = tests_item (section k q) f i (got v m) (left a) n l (size a (omega arith)) c (omega (arith, long a h)) in
      let (x, (u, o)) = fails_walk p (a + n) (i + n) d (omega arith) r y in
      (x, (t ∙ (rw (next a n d) u), o))
