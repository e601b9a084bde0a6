-- The laws of the item list.
use mathlib.Core.Path.{◌≡◌, refl, sym, ap, ◌∙◌}
use mathlib.Core.List.{List, [], ◌∷◌, ◌++◌}
use mathlib.Core.Bool.{Bool, true, false, ◌&&◌, cond}
use Prim.Native.Nat.{ℕ, zero, suc, ◌+◌, ◌-◌, ◌*◌, ◌≤◌, ◌<◌}
use native.Mathlib.Omega.{arith}
use lib.ListN.{length, take, drop, length-append, length-drop}
use lib.Seq.{take_at}
use lib.Dec.{leb, ltb, eqb}
use borrow.Author.Tests.{eqb-true, ltb-true, lt-ltb, leb-true, le-leb}
use Rattle.std.specs.Prelude.{IfSome, Some, None}
use Rattle.std.proofs.lemmas.Option.{IfSome_then}
use Rattle.octets.specs.Numbers.{Bytes, number_at, u16_at, little}
use Rattle.octets.proofs.NumberLaws.{Bytes-append, Bytes-drop, Bytes-take, Bytes-nil, Bytes-cons, Bytes-little, length-little, number_back, number_below, number_same}
use Rattle.format.specs.declared.Fault.{Fault}
use Rattle.format.specs.declared.Fault.TheVariants.{Items as ITEMS}
use Rattle.format.specs.Tests.{◌else◌at◌, all}
use Rattle.format.specs.Items.{item_tests, item_list, items_length, items_rules}
use Rattle.format.specs.Steps.ItemWalk.{walk}
use Rattle.format.specs.Steps.Wrong.{wrong}
use Rattle.format.specs.Writing.{items_bytes, writable_items}
use Rattle.format.proofs.Bools.{and-true, and_both, and_yes}
use Rattle.format.proofs.Chains.{all-Pass, Pass-all, Ok, Fits, Law, no_true}
use Rattle.format.proofs.WrongLaws.{OfFault, Faults}
use Rattle.format.proofs.Sized.{SizedBack, Sized, sized_r, sized_Law}

-- a walk that passes needs the bytes that are to come
walk_needs : (k : ℕ) (l : List ℕ) → walk k l ≡ true → k ≤ length l
unfolding walk
walk_needs zero l e = omega arith
walk_needs (suc k) [] e = no_true e
walk_needs (suc k) (a ∷ l) e = let i = walk_needs k l e in omega arith

-- the tests of a list come to the walk, whatever their fault and wherever the list stands
pub tests_walk : (f : Fault) (i k : ℕ) (l : List ℕ) → all (item_tests f i k l) ≡ walk k l
unfolding item_tests walk
tests_walk f i zero [] = refl
tests_walk f i zero (a ∷ []) = refl
tests_walk f i zero (a ∷ b ∷ l) = go (eqb (a + 256 * b) 0) (tests_walk f (i + (a + 256 * b)) (a + 256 * b - 2) l)
  where
    both : (x y z : Bool) → (z ≡ true → y ≡ true) → (x && (y && z)) ≡ (x && z)
    both true true z h = refl
    both true false true h = h refl
    both true false false h = refl
    both false y z h = refl

    needed : walk (a + 256 * b - 2) l ≡ true → leb (a + 256 * b - 2) (length l) ≡ true
    needed e = le-leb (a + 256 * b - 2) (length l) (walk_needs (a + 256 * b - 2) l e)

    go : (t : Bool) → all (item_tests f (i + (a + 256 * b)) (a + 256 * b - 2) l) ≡ walk (a + 256 * b - 2) l
        → all (cond t (eqb (length l) 0 else f at i ∷ []) (leb 2 (a + 256 * b) else f at i ∷ leb (a + 256 * b - 2) (length l) else f at i ∷ item_tests f (i + (a + 256 * b)) (a + 256 * b - 2) l))
        ≡ cond t (eqb (length l) 0) (leb 2 (a + 256 * b) && walk (a + 256 * b - 2) l)
    go true e = and_yes (eqb (length l) 0)
    go false e = rw e (both (leb 2 (a + 256 * b)) (leb (a + 256 * b - 2) (length l)) (walk (a + 256 * b - 2) l) needed)
tests_walk f i (suc k) [] = refl
tests_walk f i (suc k) (a ∷ l) = tests_walk f i k l

-- all tests of a list have its fault
pub item_OfFault : (f : Fault) (i k : ℕ) (l : List ℕ) → OfFault f (item_tests f i k l)
unfolding item_tests
item_OfFault f i zero [] = (refl, tt)
item_OfFault f i zero (a ∷ []) = (refl, tt)
item_OfFault f i zero (a ∷ b ∷ l) = go (eqb (a + 256 * b) 0) (item_OfFault f (i + (a + 256 * b)) (a + 256 * b - 2) l)
  where
    go : (t : Bool) → OfFault f (item_tests f (i + (a + 256 * b)) (a + 256 * b - 2) l)
        → OfFault f (cond t (eqb (length l) 0 else f at i ∷ []) (leb 2 (a + 256 * b) else f at i ∷ leb (a + 256 * b - 2) (length l) else f at i ∷ item_tests f (i + (a + 256 * b)) (a + 256 * b - 2) l))
    go true r = (refl, tt)
    go false r = (refl, (refl, r))
item_OfFault f i (suc k) [] = (refl, tt)
item_OfFault f i (suc k) (a ∷ l) = item_OfFault f i k l

-- and behind the first byte none is of the field 0
pub item_Faults : (f : Fault) (i k : ℕ) (l : List ℕ) → 0 < i → Faults f (item_tests f i k l)
unfolding item_tests
item_Faults f i zero [] h = (refl, (h, tt))
item_Faults f i zero (a ∷ []) h = (refl, (h, tt))
item_Faults f i zero (a ∷ b ∷ l) h = go (eqb (a + 256 * b) 0) (item_Faults f (i + (a + 256 * b)) (a + 256 * b - 2) l (omega arith))
  where
    go : (t : Bool) → Faults f (item_tests f (i + (a + 256 * b)) (a + 256 * b - 2) l)
        → Faults f (cond t (eqb (length l) 0 else f at i ∷ []) (leb 2 (a + 256 * b) else f at i ∷ leb (a + 256 * b - 2) (length l) else f at i ∷ item_tests f (i + (a + 256 * b)) (a + 256 * b - 2) l))
    go true r = (refl, (h, tt))
    go false r = (refl, (h, (refl, (h, r))))
item_Faults f i (suc k) [] h = (refl, (h, tt))
item_Faults f i (suc k) (a ∷ l) h = item_Faults f i k l h

-- the wrong place is none after the list's end
pub item_wrong_inside : (f : Fault) (i k : ℕ) (l : List ℕ) → IfSome (wrong (item_tests f i k l)) (λ j. j ≤ i + (length l - k))
unfolding item_tests
item_wrong_inside f i zero [] = omega arith
item_wrong_inside f i zero (a ∷ []) = omega arith
item_wrong_inside f i zero (a ∷ b ∷ l) = go (eqb (a + 256 * b) 0) (leb 2 (a + 256 * b)) refl (leb (a + 256 * b - 2) (length l)) refl (item_wrong_inside f (i + (a + 256 * b)) (a + 256 * b - 2) l)
  where
    end : (t : Bool) → IfSome (cond t None (Some i)) (λ j. j ≤ i + (length (a ∷ b ∷ l) - 0))
    end true = tt
    end false = omega arith

    go : (t u : Bool) → leb 2 (a + 256 * b) ≡ u → (v : Bool) → leb (a + 256 * b - 2) (length l) ≡ v
        → IfSome (wrong (item_tests f (i + (a + 256 * b)) (a + 256 * b - 2) l)) (λ j. j ≤ i + (a + 256 * b) + (length l - (a + 256 * b - 2)))
        → IfSome (wrong (cond t (eqb (length l) 0 else f at i ∷ []) (u else f at i ∷ v else f at i ∷ item_tests f (i + (a + 256 * b)) (a + 256 * b - 2) l))) (λ j. j ≤ i + (length (a ∷ b ∷ l) - 0))
    go true u eu v ev r = end (eqb (length l) 0)
    go false true eu true ev r =
        let m = leb-true 2 (a + 256 * b) eu in
        let n = leb-true (a + 256 * b - 2) (length l) ev in
        IfSome_then (wrong (item_tests f (i + (a + 256 * b)) (a + 256 * b - 2) l)) r (λ j q. omega arith)
    go false true eu false ev r = omega arith
    go false false eu v ev r = omega arith
item_wrong_inside f i (suc k) [] = omega arith
item_wrong_inside f i (suc k) (a ∷ l) = IfSome_then (wrong (item_tests f i k l)) (item_wrong_inside f i k l) (λ j q. omega arith)

-- what passes ends in two zero bytes
pub ends : (k : ℕ) (l : List ℕ) → walk k l ≡ true → (x : List ℕ) × (l ≡ x ++ 0 ∷ 0 ∷ [])
unfolding walk
ends zero [] e = no_true e
ends zero (a ∷ []) e = no_true e
ends zero (a ∷ b ∷ l) e = go (eqb (a + 256 * b) 0) refl e (ends (a + 256 * b - 2) l)
  where
    empty : (r : List ℕ) → length r ≡ 0 → a ≡ 0 → b ≡ 0 → a ∷ b ∷ r ≡ [] ++ 0 ∷ 0 ∷ []
    empty [] h p q = rw (p, q)
    empty (x ∷ r) h p q = absurd (omega arith)

    go : (t : Bool) → eqb (a + 256 * b) 0 ≡ t → cond t (eqb (length l) 0) (leb 2 (a + 256 * b) && walk (a + 256 * b - 2) l) ≡ true
        → (walk (a + 256 * b - 2) l ≡ true → (x : List ℕ) × (l ≡ x ++ 0 ∷ 0 ∷ [])) → (x : List ℕ) × (a ∷ b ∷ l ≡ x ++ 0 ∷ 0 ∷ [])
    go true t e f =
        let n : a + 256 * b ≡ 0 = eqb-true (a + 256 * b) 0 t in
        ([], empty l (eqb-true (length l) 0 e) (omega arith) (omega arith))
    go false t e f =
        let i = and-true (leb 2 (a + 256 * b)) (walk (a + 256 * b - 2) l) e in
        let y = f i.1 in
        (a ∷ b ∷ y.0, ap (λ (z : List ℕ). a ∷ b ∷ z) y.1)
ends (suc k) [] e = no_true e
ends (suc k) (a ∷ l) e = let y = ends k l e in (a ∷ y.0, ap (λ (z : List ℕ). a ∷ z) y.1)

-- ---- the section

abbrev pub items_value : List ℕ → List ℕ
items_value l = take (length l - 4) (drop 2 l)

abbrev pub ItemsV : List ℕ → Type 0
ItemsV = Ok Bytes writable_items

length_items : (x : List ℕ) → length (items_bytes x) ≡ length x + 4
unfolding items_bytes
length_items x = simp (length-append, length-little) (omega arith)

items_drop : (x : List ℕ) → drop 2 (items_bytes x) ≡ x ++ 0 ∷ 0 ∷ []
unfolding items_bytes little
items_drop x = refl

items_at0 : (x r : List ℕ) → length x + 2 < 65536 → u16_at (items_bytes x ++ r) 0 ≡ length x + 2
unfolding items_bytes little number_at
items_at0 x r h = number_back 2 (length x + 2) [] h

items_Fits : (l : List ℕ) → Bytes l → items_length l ≡ length l → walk 0 (drop 2 l) ≡ true → Fits items_bytes ItemsV (items_value l) (length l)
items_Fits l bs k c =
    let y = ends 0 (drop 2 l) c in
    let x : List ℕ = y.0 in
    let n : length (drop 2 l) ≡ length x + 2 = ap length y.1 ∙ length-append x (0 ∷ 0 ∷ []) in
    let d : length (drop 2 l) ≡ length l - 2 = length-drop 2 l in
    let e : items_value l ≡ x = ap (take (length l - 4)) y.1 ∙ take_at x (0 ∷ 0 ∷ []) (length l - 4) (omega arith) in
    let m : length (items_value l) ≡ length x = ap length e in
    let t : item_list (items_value l ++ 0 ∷ 0 ∷ []) ≡ true = tests_walk ITEMS 0 0 (items_value l ++ 0 ∷ 0 ∷ []) ∙ rw (e, ← y.1) c in
    record {
      valid = record {
        typed = Bytes-take (length l - 4) (drop 2 l) (Bytes-drop 2 l bs);
        can = and_both (ltb (length (items_value l) + 2) 65536) _ (lt-ltb (length (items_value l) + 2) 65536 (omega (arith, number_below 2 l 0 bs))) t;
      };
      short = rw length_items (omega arith);
    }

items_bytes_lem : (x : List ℕ) → Bytes x → Bytes (items_bytes x)
unfolding items_bytes
items_bytes_lem x b =
    Bytes-append (little 2 (length x + 2)) (x ++ 0 ∷ 0 ∷ []) (Bytes-little 2 _)
    (Bytes-append x (0 ∷ 0 ∷ []) b (Bytes-cons (omega arith) (Bytes-cons (omega arith) Bytes-nil)))

items_back : (x : List ℕ) → ItemsV x → SizedBack items_length (λ n. []) items_rules items_value (items_bytes x) x
items_back x v =
    let i = and-true (ltb (length x + 2) 65536) (item_list (x ++ 0 ∷ 0 ∷ [])) v.can in
    record {
      sized = λ r. ap (λ (c : ℕ). 2 + c) (items_at0 x r (ltb-true _ _ i.0)) ∙ (omega (arith, length_items x));
      sizable = tt;
      judged = all-Pass (items_rules (items_bytes x)) (rw items_drop (tests_walk ITEMS 2 0 (x ++ 0 ∷ 0 ∷ []) ∙ sym (tests_walk ITEMS 0 0 (x ++ 0 ∷ 0 ∷ [])) ∙ i.1));
      same = rw items_drop (take_at x (0 ∷ 0 ∷ []) (length (items_bytes x) - 4) (omega (arith, length_items x)));
    }

items_Sized : Sized 1 2 items_length (λ n. []) items_rules items_value items_bytes ItemsV
items_Sized = record {
  first = λ s t e. ap (λ (c : ℕ). 2 + c) (number_same 2 2 s t 0 e (omega arith));
  low = λ s e. omega arith;
  bytes = λ x v. items_bytes_lem x v.typed;
  back = λ x v m. items_back x v;
  fits = λ l bs k g c. items_Fits l bs k (sym (tests_walk ITEMS 2 0 (drop 2 l)) ∙ Pass-all (items_rules l) c);
}

pub items_Law : Law (sized_r 1 2 items_length (λ n. []) items_rules items_value) items_bytes ItemsV
items_Law = sized_Law 1 2 items_length (λ n. []) items_rules items_value items_Sized
