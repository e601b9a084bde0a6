-- Intervals that share no place and lie in [h, n) have at most n - h places together.
use mathlib.Core.Path.{◌≡◌, refl, ap}
use mathlib.Core.List.{List, [], ◌∷◌, map}
use mathlib.Core.Bool.{Bool, true, ◌&&◌, cond}
use Prim.Native.Nat.{ℕ, zero, suc, ◌+◌, ◌-◌, ◌≤◌, ◌<◌}
use native.Mathlib.Omega.{arith}
use native.Mathlib.Nat.{not-suc-le-zero, le_of_suc-le-suc}
use lib.ListN.{length, length-map}
use lib.Dec.{leb}
use borrow.Author.Tests.{leb-true, le-leb, lt-leb}
use Rattle.format.specs.declared.Place.{Place}
use Rattle.format.specs.Pieces.{apart, apart_from, apart_tests}
use Rattle.format.proofs.Bools.{and-true, and_both, or-true, or_left, or_right, by_order}
use Rattle.format.proofs.Chains.{Pass}

-- no two share a place: each is apart from the later ones
abbrev pub all_apart : List Place → Bool
all_apart [] = true
all_apart (x ∷ xs) = apart_from x xs && all_apart xs

abbrev pub Within : ℕ → ℕ → List Place → Type 0
Within h n [] = Unit {0}
Within h n (x ∷ xs) = (0 < x.len → (h ≤ x.at) × (x.at + x.len ≤ n)) × Within h n xs

abbrev pub total : List Place → ℕ
total [] = 0
total (x ∷ xs) = x.len + total xs

pub apart_cases {ℓ} : {X : Type ℓ} (x y : Place) → apart x y ≡ true → (x.at + x.len ≤ y.at → X) → (y.at + y.len ≤ x.at → X) → X
apart_cases x y e f g = or-true _ _ e (λ t. f (leb-true _ _ t)) (λ t. g (leb-true _ _ t))

pub apart_before : (x y : Place) → x.at + x.len ≤ y.at → apart x y ≡ true
apart_before x y h = or_left _ _ (le-leb _ _ h)

pub apart_behind : (x y : Place) → y.at + y.len ≤ x.at → apart x y ≡ true
apart_behind x y h = or_right (leb (x.at + x.len) y.at) _ (le-leb _ _ h)

-- ---- apart from the earlier ones, or from the later ones

apart_back : (x y : Place) → apart x y ≡ true → apart y x ≡ true
apart_back x y e = apart_cases x y e (apart_behind y x) (apart_before y x)

-- each of these is apart from all of those
abbrev EachFrom : List Place → List Place → Type 0
EachFrom [] xs = Unit {0}
EachFrom (b ∷ bs) xs = (apart_from b xs ≡ true) × EachFrom bs xs

each_more : (x : Place) (bs xs : List Place) → apart_from x bs ≡ true → EachFrom bs xs → EachFrom bs (x ∷ xs)
each_more x [] xs e h = tt
each_more x (b ∷ bs) xs e h =
    let i = and-true (apart x b) (apart_from x bs) e in
    (and_both (apart b x) (apart_from b xs) (apart_back x b i.0) h.0, each_more x bs xs i.1 h.1)

each_less : (x : Place) (bs xs : List Place) → EachFrom bs (x ∷ xs) → (apart_from x bs ≡ true) × EachFrom bs xs
each_less x [] xs h = (refl, tt)
each_less x (b ∷ bs) xs h =
    let i = and-true (apart b x) (apart_from b xs) h.0 in
    let j = each_less x bs xs h.1 in
    (and_both (apart x b) (apart_from x bs) (apart_back b x i.0) j.0, (i.1, j.1))

-- the places without the fields that lead there
abbrev pub places_of : List (ℕ × Place) → List Place
places_of [] = []
places_of ((i, x) ∷ xs) = x ∷ places_of xs

pub tests_apart : (bs : List Place) (xs : List (ℕ × Place)) → Pass (apart_tests bs xs) → EachFrom bs (places_of xs) × (all_apart (places_of xs) ≡ true)
tests_apart [] [] c = (tt, refl)
tests_apart (b ∷ bs) [] c = ((refl, (tests_apart bs [] tt).0), refl)
tests_apart bs ((k, x) ∷ xs) c =
    let i = tests_apart (x ∷ bs) xs c.1 in
    (each_more x bs (places_of xs) c.0 i.0.1, and_both (apart_from x (places_of xs)) (all_apart (places_of xs)) i.0.0 i.1)

pub apart_tests_lem : (bs : List Place) (xs : List (ℕ × Place)) → EachFrom bs (places_of xs) → all_apart (places_of xs) ≡ true → Pass (apart_tests bs xs)
apart_tests_lem bs [] h e = tt
apart_tests_lem bs ((k, x) ∷ xs) h e =
    let i = and-true (apart_from x (places_of xs)) (all_apart (places_of xs)) e in
    let j = each_less x bs (places_of xs) h in
    (j.0, apart_tests_lem (x ∷ bs) xs (i.0, j.1) i.1)

-- ---- with x taken out: what stands behind x moves down by x's length

abbrev moved : Place → Place → Place
moved x y = record { at = y.at - x.len; len = y.len }

without : Place → Place → Place
without x y = record { at = cond (leb (y.at + y.len) x.at) y.at (y.at - x.len); len = y.len }

-- an interval before x stays, one behind moves
without_before : (x y : Place) → y.at + y.len ≤ x.at → without x y ≡ y
unfolding without
without_before x y h = rw (le-leb _ _ h)

without_behind : (x y : Place) → x.at < y.at + y.len → without x y ≡ moved x y
unfolding without
without_behind x y h = rw (lt-leb _ _ h)

without_within : (h n : ℕ) (x y : Place) → h ≤ x.at → x.at + x.len ≤ n → apart x y ≡ true → h ≤ y.at → y.at + y.len ≤ n
    → (h ≤ (without x y).at) × ((without x y).at + (without x y).len ≤ n - x.len)
without_within h n x y a b e c d =
    by_order (y.at + y.len) x.at
    (λ k. rw (without_before x y k) (omega arith))
    (λ k. apart_cases x y e (λ m. rw (without_behind x y k) (omega arith)) (λ m. absurd (omega arith)))

without-apart : (x y z : Place) → apart x y ≡ true → apart x z ≡ true → apart y z ≡ true → apart (without x y) (without x z) ≡ true
without-apart x y z e f g =
    by_order (y.at + y.len) x.at
    (λ k. by_order (z.at + z.len) x.at
    (λ l. rw (without_before x y k, without_before x z l) g)
    (λ l. apart_cases x z f
    (λ m. rw (without_before x y k, without_behind x z l) (apart_before y (moved x z) (omega arith)))
    (λ m. absurd (omega arith))))
    (λ k. apart_cases x y e
    (λ j. by_order (z.at + z.len) x.at
    (λ l. rw (without_behind x y k, without_before x z l) (apart_behind (moved x y) z (omega arith)))
    (λ l. apart_cases x z f
    (λ m. rw (without_behind x y k, without_behind x z l)
    (apart_cases y z g (λ o. apart_before (moved x y) (moved x z) (omega arith)) (λ o. apart_behind (moved x y) (moved x z) (omega arith))))
    (λ m. absurd (omega arith))))
    (λ m. absurd (omega arith)))

without_len : (x y : Place) → (without x y).len ≡ y.len
unfolding without
without_len x y = refl

-- ---- the same for a list

without-total : (x : Place) (ys : List Place) → total (map (without x) ys) ≡ total ys
unfolding without
without-total x [] = refl
without-total x (y ∷ ys) = ap (λ (k : ℕ). y.len + k) (without-total x ys)

without_all_Within : (h n : ℕ) (x : Place) (ys : List Place) → h ≤ x.at → x.at + x.len ≤ n → apart_from x ys ≡ true → Within h n ys
    → Within h (n - x.len) (map (without x) ys)
without_all_Within h n x [] a b e w = tt
without_all_Within h n x (y ∷ ys) a b e w =
    let i = and-true (apart x y) (apart_from x ys) e in
    (λ z. without_within h n x y a b i.0 (w.0 (rw without_len at z)).0 (w.0 (rw without_len at z)).1, without_all_Within h n x ys a b i.1 w.1)

without-apart_from : (x y : Place) (zs : List Place) → apart x y ≡ true → apart_from x zs ≡ true → apart_from y zs ≡ true
    → apart_from (without x y) (map (without x) zs) ≡ true
without-apart_from x y [] e f g = refl
without-apart_from x y (z ∷ zs) e f g =
    let i = and-true (apart x z) (apart_from x zs) f in
    let j = and-true (apart y z) (apart_from y zs) g in
    and_both _ _ (without-apart x y z e i.0 j.0) (without-apart_from x y zs e i.1 j.1)

without-all_apart : (x : Place) (ys : List Place) → apart_from x ys ≡ true → all_apart ys ≡ true → all_apart (map (without x) ys) ≡ true
without-all_apart x [] e f = refl
without-all_apart x (y ∷ ys) e f =
    let i = and-true (apart x y) (apart_from x ys) e in
    let j = and-true (apart_from y ys) (all_apart ys) f in
    and_both _ _ (without-apart_from x y ys i.0 i.1 j.0) (without-all_apart x ys i.1 j.1)

-- the count m is the list's length: the list that is left is no part of the one at hand
pack_f : (m : ℕ) (h n : ℕ) (xs : List Place) → length xs ≤ m → h ≤ n → Within h n xs → all_apart xs ≡ true → h + total xs ≤ n
pack_f zero h n [] l k w e = omega arith
pack_f (suc m) h n [] l k w e = omega arith
pack_f zero h n (x ∷ xs) l k w e = absurd (not-suc-le-zero l)
pack_f (suc m) h n (x ∷ xs) l k w e =
    let i = and-true (apart_from x xs) (all_apart xs) e in
    by_order x.len 0
    (λ z. let r = pack_f m h n xs (le_of_suc-le-suc l) k w.1 i.1 in omega arith)
    (λ z.
    let u = w.0 z in
    let r : h + total (map (without x) xs) ≤ n - x.len
    = pack_f m h (n - x.len) (map (without x) xs) (rw length-map (le_of_suc-le-suc l)) (omega arith)
    (without_all_Within h n x xs u.0 u.1 i.0 w.1) (without-all_apart x xs i.0 i.1) in
    omega (arith, without-total x xs))

-- intervals in [h, n), no two of which share a place, have together at most n - h places
pub pack : (h n : ℕ) (xs : List Place) → h ≤ n → Within h n xs → all_apart xs ≡ true → h + total xs ≤ n
pack h n xs k w e = pack_f (length xs) h n xs (omega arith) k w e

-- ---- intervals one after another, from lo on; an absent one is at 0 and has no place

pub data Ordered : ℕ → List Place → Type 0 where
  end : {lo : ℕ} → Ordered lo []
  skip : {lo : ℕ} {xs : List Place} → Ordered lo xs → Ordered lo (record { at = 0; len = 0 } ∷ xs)
  put : {lo : ℕ} {xs : List Place} (k : ℕ) → Ordered (lo + k) xs → Ordered lo (record { at = lo; len = k } ∷ xs)

Ordered-from : (x : Place) {lo : ℕ} {xs : List Place} → x.at + x.len ≤ lo → Ordered lo xs → apart_from x xs ≡ true
Ordered-from x h end = refl
Ordered-from x h (skip r) = and_both _ _ (apart_behind x (record { at = 0; len = 0 }) (omega arith)) (Ordered-from x h r)
Ordered-from x {lo = lo} h (put k r) = and_both _ _ (apart_before x (record { at = lo; len = k }) h) (Ordered-from x (omega arith) r)

pub Ordered-apart : {lo : ℕ} {xs : List Place} → Ordered lo xs → all_apart xs ≡ true
Ordered-apart end = refl
Ordered-apart (skip r) = and_both _ _ (Ordered-from (record { at = 0; len = 0 }) (omega arith) r) (Ordered-apart r)
Ordered-apart {lo = lo} (put k r) = and_both _ _ (Ordered-from (record { at = lo; len = k }) (omega arith) r) (Ordered-apart r)
