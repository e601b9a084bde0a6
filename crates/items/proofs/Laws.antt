-- What the walk over items finds wrong at a place of the list.
use mathlib.Core.Path.{◌≡◌, refl, sym, ap, ◌∙◌}
use mathlib.Core.List.{List, [], ◌∷◌}
use mathlib.Core.Bool.{Bool, true, false, cond, ◌&&◌}
use Prim.Native.Nat.{ℕ, zero, suc, ◌+◌, ◌-◌, ◌*◌, ◌≤◌, ◌<◌}
use native.Mathlib.Omega.{arith}
use lib.ListN.{length, drop, length-drop}
use lib.Seq.{drop-drop}
use lib.Dec.{leb, eqb, eqb-suc-suc}
use borrow.Author.Tests.{eq-eqb, ne_eqb, eqb-true, eqb-false, leb-true, leb-false, le-leb, lt-leb}
use Rattle.std.specs.Prelude.{Option, Some, None, IfNone, not}
use Rattle.std.specs.Bool.{then_some}
use Rattle.octets.specs.Numbers.{number, number_at, u16_at}
use Rattle.octets.proofs.NumberLaws.{number_drop}
use Rattle.format.specs.declared.Fault.TheVariants.{Items as ITEMS}
use Rattle.format.specs.Tests.{◌else◌at◌}
use Rattle.format.specs.Items.{item_tests}
use Rattle.format.specs.Steps.Wrong.{wrong}

-- the first wrong place of the list l that stands at i
abbrev pub wrong_in : ℕ → List ℕ → Option ℕ
wrong_in i l = wrong (item_tests ITEMS i 0 l)

tests_drop : (i k : ℕ) (l : List ℕ) → k ≤ length l → item_tests ITEMS i k l ≡ item_tests ITEMS i 0 (drop k l)
unfolding item_tests
tests_drop i zero l h = refl
tests_drop i (suc k) [] h = absurd (omega arith)
tests_drop i (suc k) (a ∷ l) h = tests_drop i k l (omega arith)

pub no_size : (i : ℕ) (l : List ℕ) → length l < 2 → wrong_in i l ≡ Some i
unfolding item_tests
no_size i [] h = refl
no_size i (a ∷ []) h = refl
no_size i (a ∷ b ∷ l) h = absurd (omega arith)

-- the size n at the start: two zero bytes end the list, and an item leads to the next
step : (i : ℕ) (l : List ℕ) {n : ℕ} → 2 ≤ length l → n ≡ u16_at l 0
    → wrong_in i l ≡ cond (eqb n 0) (cond (eqb (length l) 2) None (Some i)) (cond (leb 2 n) (cond (leb n (length l)) (wrong_in (i + n) (drop n l)) (Some i)) (Some i))
unfolding item_tests number_at number
step i [] h e = absurd (omega arith)
step i (a ∷ []) h e = absurd (omega arith)
step i (a ∷ b ∷ l) {n} h e =
    let q : a + 256 * b ≡ n = omega arith in
    rw (q, eqb-suc-suc (suc (length l)) 1, eqb-suc-suc (length l) 0) (go (eqb n 0) (leb 2 n) refl (leb (n - 2) (length l)) refl)
  where
    next : 2 ≤ n → n - 2 ≤ length l → wrong (item_tests ITEMS (i + n) (n - 2) l) ≡ wrong_in (i + n) (drop n (a ∷ b ∷ l))
    next o k =
        let m : 2 + (n - 2) ≡ n = omega arith in
        let d : drop (n - 2) l ≡ drop n (a ∷ b ∷ l) = drop-drop (n - 2) 2 (a ∷ b ∷ l) ∙ ap (λ (j : ℕ). drop j (a ∷ b ∷ l)) m in
        ap wrong (tests_drop (i + n) (n - 2) l k ∙ ap (item_tests ITEMS (i + n) 0) d)

    item : (y z : Bool) → leb 2 n ≡ y → leb (n - 2) (length l) ≡ z
        → cond y (cond z (wrong (item_tests ITEMS (i + n) (n - 2) l)) (Some i)) (Some i) ≡ cond y (cond (leb n (length (a ∷ b ∷ l))) (wrong_in (i + n) (drop n (a ∷ b ∷ l))) (Some i)) (Some i)
    item true true ey ez =
        let o = leb-true 2 n ey in
        let k = leb-true (n - 2) (length l) ez in
        rw (le-leb n (length (a ∷ b ∷ l)) (omega arith)) (next o k)
    item true false ey ez =
        let o = leb-true 2 n ey in
        let k = leb-false (n - 2) (length l) ez in
        rw (lt-leb n (length (a ∷ b ∷ l)) (omega arith))
    item false z ey ez = refl

    go : (x y : Bool) → leb 2 n ≡ y → (z : Bool) → leb (n - 2) (length l) ≡ z
        → wrong (cond x (eqb (length l) 0 else ITEMS at i ∷ []) (y else ITEMS at i ∷ z else ITEMS at i ∷ item_tests ITEMS (i + n) (n - 2) l))
        ≡ cond x (cond (eqb (length l) 0) None (Some i)) (cond y (cond (leb n (length (a ∷ b ∷ l))) (wrong_in (i + n) (drop n (a ∷ b ∷ l))) (Some i)) (Some i))
    go true y ey z ez = refl
    go false y ey z ez = item y z ey ez

-- what holds is also what an answer of none may say
pub if_none : {P : Type 0} (o : Option ℕ) → P → IfNone o P
if_none None h = h
if_none (Some i) h = tt

-- how far the walk has come: at p a size is due, or the item at q passes the end; r is the answer of the whole walk
pub record Come (s : List ℕ) (i q p : ℕ) (r : Option ℕ) : Type 0 where
  pub due : p ≤ length s → wrong_in (i + p) (drop p s) ≡ r
  pub passed : length s < p → Some (i + q) ≡ r

pub Come-start : (s : List ℕ) (i q : ℕ) → Come s i q 0 (wrong (item_tests ITEMS i 0 s))
Come-start s i q = record { due = λ h. ap (λ (m : ℕ). wrong_in m s) (omega arith); passed = λ h. absurd (omega arith) }

module _ (s : List ℕ) {i q p : ℕ} {r : Option ℕ} (c : Come s i q p r) where
  -- no size is left: it is lacking, or the item before passes the end
  pub items_end : length s < p + 2 → length s < p → Some (i + q) ≡ r
  items_end h k = c.passed k

  pub items_lack : length s < p + 2 → p ≤ length s → Some (i + p) ≡ r
  items_lack h k = sym (no_size (i + p) (drop p s) (simp length-drop (omega arith))) ∙ c.due k

  module _ {n : ℕ} (fits : p + 2 ≤ length s) (e : n ≡ u16_at s p) where
    here : cond (eqb n 0) (cond (eqb (length s - p) 2) None (Some (i + p))) (cond (leb 2 n) (cond (leb n (length s - p)) (wrong_in (i + p + n) (drop (p + n) s)) (Some (i + p))) (Some (i + p))) ≡ r
    here =
        let q : n ≡ u16_at (drop p s) 0 = e ∙ ap (u16_at s) (omega arith) ∙ sym (number_drop 2 p s 0) in
        rw (step (i + p) (drop p s) (simp length-drop (omega arith)) q, length-drop p s, drop-drop n p s) at (c.due (omega arith))

    -- no item is smaller than its size; two zero bytes end the list where they are the last
    pub items_stop : n < 2 → (m : ℕ) → m + 2 ≡ length s → then_some (not (eqb n 0 && eqb p m)) (i + p) ≡ r
    items_stop h m k = chosen (eqb n 0 && eqb p m) ∙ go n refl h
      where
        chosen : (b : Bool) → then_some (not b) (i + p) ≡ cond b None (Some (i + p))
        chosen true = refl
        chosen false = refl

        last : (b : Bool) → eqb p m ≡ b → eqb (length s - p) 2 ≡ b
        last true t = eq-eqb (length s - p) 2 (omega (arith, eqb-true p m t))
        last false t = ne_eqb (length s - p) 2 (λ x. eqb-false p m t (omega arith))

        go : (j : ℕ) → n ≡ j → j < 2 → cond (eqb j 0 && eqb p m) None (Some (i + p)) ≡ r
        go zero e h = sym (ap (λ (b : Bool). cond b None (Some (i + p))) (last (eqb p m) refl)) ∙ (rw e at here)
        go (suc zero) e h = rw e at here
        go (suc (suc j)) e h = absurd (omega arith)

    pub items_more : 2 ≤ n → Come s i p (p + n) r
    items_more o =
        let w : cond (leb n (length s - p)) (wrong_in (i + p + n) (drop (p + n) s)) (Some (i + p)) ≡ r = rw (ne_eqb n 0 (λ z. omega arith), le-leb 2 n o) at here in
        let a : i + (p + n) ≡ i + p + n = omega arith in
        record {
          due = λ h. rw a (rw (le-leb n (length s - p) (omega arith)) at w);
          passed = λ h. rw (lt-leb n (length s - p) (omega arith)) at w;
        }
