-- The laws of parts by their sizes, and so of storages and values: a list of parts is a part and the others, or the zero size.
use mathlib.Core.Path.{◌≡◌, refl, sym, ap, ap₂, ◌∙◌}
use mathlib.Core.List.{List, [], ◌∷◌, ◌++◌}
use mathlib.Core.Bool.{Bool, true, false, ◌&&◌, cond}
use Prim.Native.Nat.{ℕ, zero, suc, ◌+◌, ◌-◌, ◌≤◌, ◌<◌}
use native.Mathlib.Omega.{arith}
use lib.ListN.{length, take, drop, length-append, length-drop}
use lib.Seq.{drop-drop, take_all, length-take-le, take-append-le, drop-append-le, take-append_seam, drop-append_seam}
use lib.Dec.{leb, eqb}
use borrow.Author.Tests.{leb-true, le-leb, eqb-true, eqb-false, ne_eqb}
use Rattle.std.specs.Prelude.{IfSome}
use Rattle.octets.specs.Numbers.{number, number_at, u32_at, little}
use Rattle.octets.proofs.NumberLaws.{length-little, number_same, number_drop}
use Rattle.format.specs.declared.Fault.{Fault}
use Rattle.format.specs.declared.Fault.TheVariants.{Store as STORE}
use Rattle.format.specs.Tests.{Test, ◌else◌at◌, all}
use Rattle.format.specs.Store.{part_tests, value_tests, values_tests, is_named, identifier_of, storage_tests, store_tests}
use Rattle.format.specs.Steps.Wrong.{wrong}
use Rattle.format.proofs.Bools.{by_order}
use Rattle.format.proofs.Chains.{Pass, Pass-split, Pass-join, Pass-all, all-append, no_true}
use Rattle.format.proofs.WrongLaws.{OfFault, OfFault-join, Faults, Faults-join}
use Rattle.format.proofs.EachLaws.{Each, Each-append, Each-wrong}

pub not_zero : (n : ℕ) → eqb n 0 ≡ false → 0 < n
not_zero n e = let z = eqb-false n 0 e in by_order 1 n (λ q. q) (λ q. absurd (z (omega arith)))

add-zero : (i : ℕ) → i + 0 ≡ i
add-zero i = omega arith

-- four bytes that are the number 0
zero_size : (l : List ℕ) → length l ≡ 4 → u32_at l 0 ≡ 0 → l ≡ little 4 0
unfolding number_at number little
zero_size [] h e = absurd (omega arith)
zero_size (a ∷ []) h e = absurd (omega arith)
zero_size (a ∷ b ∷ []) h e = absurd (omega arith)
zero_size (a ∷ b ∷ c ∷ []) h e = absurd (omega arith)
zero_size (a ∷ b ∷ c ∷ d ∷ []) h e =
    let x : a ≡ 0 = omega arith in
    let y : b ≡ 0 = omega arith in
    let z : c ≡ 0 = omega arith in
    let w : d ≡ 0 = omega arith in
    rw (x, y, z, w)
zero_size (a ∷ b ∷ c ∷ d ∷ f ∷ l) h e = absurd (omega arith)

-- ---- parts

module _ (least : ℕ) (own : ℕ → List ℕ → List Test) where
  parts_skip : (i k : ℕ) (l : List ℕ) → part_tests least own i k l ≡ part_tests least own i 0 (drop k l)
  unfolding part_tests
  parts_skip i zero l = refl
  parts_skip i (suc k) [] = refl
  parts_skip i (suc k) (a ∷ l) = parts_skip i k l

  -- a part of n bytes and the others, or the zero size
  abbrev by_parts : ℕ → List ℕ → ℕ → List Test
  by_parts i l n =
      leb 4 (length l) else STORE at i
      ∷ cond (eqb n 0) (eqb (length l) 4 else STORE at i ∷ [])
      (leb least n else STORE at i ∷ leb n (length l) else STORE at i ∷ own i (take n l) ++ part_tests least own (i + n) 0 (drop n l))

  pub parts_here : (i : ℕ) (l : List ℕ) → 0 < length l → part_tests least own i 0 l ≡ by_parts i l (u32_at l 0)
  unfolding part_tests
  parts_here i [] h = absurd (omega arith)
  parts_here i (a ∷ l) h = go (u32_at (a ∷ l) 0)
    where
      go : (n : ℕ) → leb 4 (length (a ∷ l)) else STORE at i
          ∷ cond (eqb n 0) (eqb (length (a ∷ l)) 4 else STORE at i ∷ [])
          (leb least n else STORE at i ∷ leb n (length (a ∷ l)) else STORE at i ∷ own i (take n (a ∷ l)) ++ part_tests least own (i + n) (n - 1) l)
          ≡ by_parts i (a ∷ l) n
      go zero = refl
      go (suc n) = let e : suc n - 1 ≡ n = omega arith in rw (e, parts_skip (i + suc n) n l)

  pub parts_none : (i : ℕ) → part_tests least own i 0 [] ≡ (false else STORE at i ∷ [])
  unfolding part_tests
  parts_none i = refl

  -- ---- from what parts are to their tests

  by_part : (i : ℕ) (l : List ℕ) (n : ℕ) → n ≡ u32_at l 0 → 0 < n → least ≤ n → n ≤ length l → 4 ≤ length l
      → Pass (own i (take n l)) → Pass (part_tests least own (i + n) 0 (drop n l)) → Pass (part_tests least own i 0 l)
  by_part i l n e some low fits four o p =
      rw (parts_here i l (omega arith), ← e, ne_eqb n 0 (λ z. omega arith), le-leb 4 (length l) four, le-leb least n low, le-leb n (length l) fits)
      (refl, (refl, (refl, Pass-join (own i (take n l)) (part_tests least own (i + n) 0 (drop n l)) o p)))

  -- a part in front of parts
  pub parts_more : (i : ℕ) (x r : List ℕ) → u32_at x 0 ≡ length x → 4 ≤ length x → least ≤ length x → Pass (own i x) → Pass (part_tests least own (i + length x) 0 r) → Pass (part_tests least own i 0 (x ++ r))
  parts_more i x r size four low o p =
      let e : u32_at (x ++ r) 0 ≡ length x = number_same 4 (length x) (x ++ r) x 0 (take-append-le (length x) x r (omega arith)) (omega arith) ∙ size in
      let k = length-append x r in
      by_part i (x ++ r) (length x) (sym e) (omega arith) low (omega arith) (omega arith) (rw (take-append_seam x r) o) (rw (drop-append_seam x r) p)

  pub parts_end : (i : ℕ) → Pass (part_tests least own i 0 (little 4 0))
  unfolding part_tests number_at number little
  parts_end i = (refl, (refl, tt))

  -- ---- and back

  pub parts_split {ℓ} : {X : Type ℓ} (i : ℕ) (l : List ℕ) → Pass (part_tests least own i 0 l) → (l ≡ little 4 0 → X)
      → ((n : ℕ) → n ≡ u32_at l 0 → 0 < n → least ≤ n → n ≤ length l → 4 ≤ length l → Pass (own i (take n l)) → Pass (part_tests least own (i + n) 0 (drop n l)) → X) → X
  parts_split i [] p f g = no_true (rw (parts_none i) at p).0
  parts_split {X = X} i (a ∷ l) p f g = go (eqb n 0) refl (rw (parts_here i (a ∷ l) (omega arith)) at p)
    where
      n : ℕ
      n = u32_at (a ∷ l) 0

      go : (b : Bool) → eqb n 0 ≡ b
          → Pass (leb 4 (length (a ∷ l)) else STORE at i
          ∷ cond b (eqb (length (a ∷ l)) 4 else STORE at i ∷ [])
          (leb least n else STORE at i ∷ leb n (length (a ∷ l)) else STORE at i ∷ own i (take n (a ∷ l)) ++ part_tests least own (i + n) 0 (drop n (a ∷ l))))
          → X
      go true e h = f (zero_size (a ∷ l) (eqb-true (length (a ∷ l)) 4 h.1.0) (eqb-true n 0 e))
      go false e h =
          let s = Pass-split (own i (take n (a ∷ l))) (part_tests least own (i + n) 0 (drop n (a ∷ l))) h.1.1.1 in
          g n refl (not_zero n e) (leb-true least n h.1.0) (leb-true n (length (a ∷ l)) h.1.1.0) (leb-true 4 (length (a ∷ l)) h.0) s.0 s.1

  -- ---- faults and fields

  pub part_OfFault : ((j : ℕ) (v : List ℕ) → OfFault STORE (own j v)) → (i k : ℕ) (l : List ℕ) → OfFault STORE (part_tests least own i k l)
  unfolding part_tests
  part_OfFault f i zero [] = (refl, tt)
  part_OfFault f i zero (a ∷ l) = (refl, go (eqb n 0) (part_OfFault f (i + n) (n - 1) l))
    where
      n : ℕ
      n = u32_at (a ∷ l) 0

      go : (b : Bool) → OfFault STORE (part_tests least own (i + n) (n - 1) l)
          → OfFault STORE (cond b (eqb (length (a ∷ l)) 4 else STORE at i ∷ [])
          (leb least n else STORE at i ∷ leb n (length (a ∷ l)) else STORE at i ∷ own i (take n (a ∷ l)) ++ part_tests least own (i + n) (n - 1) l))
      go true r = (refl, tt)
      go false r = (refl, (refl, OfFault-join STORE (own i (take n (a ∷ l))) (part_tests least own (i + n) (n - 1) l) (f i (take n (a ∷ l))) r))
  part_OfFault f i (suc k) [] = (refl, tt)
  part_OfFault f i (suc k) (a ∷ l) = part_OfFault f i k l

  -- the fields begin where the parts do
  pub part_Faults : ((j : ℕ) (v : List ℕ) → 0 < j → Faults STORE (own j v)) → (i k : ℕ) (l : List ℕ) → 0 < i → Faults STORE (part_tests least own i k l)
  unfolding part_tests
  part_Faults f i zero [] h = (refl, (h, tt))
  part_Faults f i zero (a ∷ l) h = (refl, (h, go (eqb n 0) (part_Faults f (i + n) (n - 1) l (omega arith))))
    where
      n : ℕ
      n = u32_at (a ∷ l) 0

      go : (b : Bool) → Faults STORE (part_tests least own (i + n) (n - 1) l)
          → Faults STORE (cond b (eqb (length (a ∷ l)) 4 else STORE at i ∷ [])
          (leb least n else STORE at i ∷ leb n (length (a ∷ l)) else STORE at i ∷ own i (take n (a ∷ l)) ++ part_tests least own (i + n) (n - 1) l))
      go true r = (refl, (h, tt))
      go false r = (refl, (h, (refl, (h, Faults-join STORE (own i (take n (a ∷ l))) (part_tests least own (i + n) (n - 1) l) (f i (take n (a ∷ l)) h) r))))
  part_Faults f i (suc k) [] h = (refl, (h, tt))
  part_Faults f i (suc k) (a ∷ l) h = part_Faults f i k l h

  -- what holds of parts holds wherever they stand
  pub parts_anywhere : ((i j : ℕ) (v : List ℕ) → all (own i v) ≡ all (own j v)) → (i j k : ℕ) (l : List ℕ) → all (part_tests least own i k l) ≡ all (part_tests least own j k l)
  unfolding part_tests
  parts_anywhere f i j zero [] = refl
  parts_anywhere f i j zero (a ∷ l) = ap (λ (b : Bool). leb 4 (length (a ∷ l)) && b) (go (eqb n 0) (parts_anywhere f (i + n) (j + n) (n - 1) l))
    where
      n : ℕ
      n = u32_at (a ∷ l) 0

      x : List ℕ
      x = take n (a ∷ l)

      go : (b : Bool) → all (part_tests least own (i + n) (n - 1) l) ≡ all (part_tests least own (j + n) (n - 1) l)
          → all (cond b (eqb (length (a ∷ l)) 4 else STORE at i ∷ []) (leb least n else STORE at i ∷ leb n (length (a ∷ l)) else STORE at i ∷ own i x ++ part_tests least own (i + n) (n - 1) l))
          ≡ all (cond b (eqb (length (a ∷ l)) 4 else STORE at j ∷ []) (leb least n else STORE at j ∷ leb n (length (a ∷ l)) else STORE at j ∷ own j x ++ part_tests least own (j + n) (n - 1) l))
      go true e = refl
      go false e =
          ap (λ (b : Bool). leb least n && (leb n (length (a ∷ l)) && b))
          (all-append (own i x) (part_tests least own (i + n) (n - 1) l) ∙ ap₂ (λ (b c : Bool). b && c) (f i j x) e ∙ sym (all-append (own j x) (part_tests least own (j + n) (n - 1) l)))
  parts_anywhere f i j (suc k) [] = refl
  parts_anywhere f i j (suc k) (a ∷ l) = parts_anywhere f i j k l

  -- each field stands before the end, but that of the size after the last part
  module _ (X : Fault → ℕ → Type 0) where
    abbrev EachPart : ℕ → List ℕ → Type 0
    EachPart i l =
        ((j : ℕ) → j < i + length l → X STORE j)
        → (Pass (part_tests least own i 0 (l ++ little 4 0)) → X STORE (i + length l))
        → ((d m : ℕ) → least ≤ m → d + m ≤ length l → u32_at l d ≡ m → Each X (own (i + d) (take m (drop d l))))
        → Each X (part_tests least own i 0 l)

    each_none : (i : ℕ) (l : List ℕ) → length l < 1 → EachPart i l
    each_none i [] h f e o = rw (parts_none i) ((λ z. rw (add-zero i) at (e (parts_end i))), λ z. tt)
    each_none i (a ∷ l) h f e o = absurd (omega arith)

    each_one : (i : ℕ) (l : List ℕ) → 1 ≤ length l → (0 < u32_at l 0 → EachPart (i + u32_at l 0) (drop (u32_at l 0) l)) → EachPart i l
    each_one i l h rest f e o = rw (parts_here i l h) ((λ z. here), λ four. go (leb-true 4 (length l) four) (eqb n 0) refl)
      where
        n : ℕ
        n = u32_at l 0

        here : X STORE i
        here = f i (omega arith)

        next : 4 ≤ length l → 0 < n → least ≤ n → n ≤ length l → Pass (own i (take n l)) → Each X (part_tests least own (i + n) 0 (drop n l))
        next four some low fits p =
            let d : length (drop n l) ≡ length l - n = length-drop n l in
            rest some (λ j q. f j (omega arith))
            (λ q.
            let z : i + length l ≡ i + n + length (drop n l) = omega arith in
            let s : List ℕ = l ++ little 4 0 in
            let u : u32_at s 0 ≡ n = number_same 4 4 s l 0 (take-append-le 4 l (little 4 0) four) (omega arith) in
            let k = length-append l (little 4 0) in
            rw z at (e (by_part i s n (sym u) some low (omega arith) (omega arith) (rw (take-append-le n l (little 4 0) fits) p) (rw (drop-append-le n l (little 4 0) fits) q))))
            (λ d m low room e.
            let z : i + (n + d) ≡ i + n + d = omega arith in
            rw (z, ← (drop-drop d n l)) at (o (n + d) m low (omega (arith, fits, length-drop n l)) (sym (number_drop 4 n l d) ∙ e)))

        go : 4 ≤ length l → (b : Bool) → eqb n 0 ≡ b
            → Each X (cond b (eqb (length l) 4 else STORE at i ∷ [])
            (leb least n else STORE at i ∷ leb n (length l) else STORE at i ∷ own i (take n l) ++ part_tests least own (i + n) 0 (drop n l)))
        go four true z = ((λ z. here), λ z. tt)
        go four false z = (
          (λ z. here),
          λ c. (
            (λ z. here),
            λ d.
                let low = leb-true least n c in
                let fits = leb-true n (length l) d in
                Each-append X (own i (take n l)) (part_tests least own (i + n) 0 (drop n l)) (rw (add-zero i) at (o 0 n low (omega arith) refl)) (next four (not_zero n z) low fits),
          ),
        )

    -- k bounds what is left
    each_some : (k i : ℕ) (l : List ℕ) → length l ≤ k → EachPart i l
    each_some zero i l small = each_none i l (omega arith)
    each_some (suc k) i l small =
        by_order 1 (length l)
        (λ h. each_one i l h (λ some. each_some k (i + u32_at l 0) (drop (u32_at l 0) l) (omega (arith, length-drop (u32_at l 0) l))))
        (λ h. each_none i l h)

    pub each_parts : (i : ℕ) (l : List ℕ) → EachPart i l
    each_parts i l = each_some (length l) i l (omega arith)

-- ---- values and storages

pub value_OfFault : (named : Bool) (j : ℕ) (v : List ℕ) → OfFault STORE (value_tests named j v)
value_OfFault named j v = (refl, (refl, tt))

pub values_OfFault : (named : Bool) (i : ℕ) (l : List ℕ) → OfFault STORE (values_tests named i l)
values_OfFault named i l = part_OfFault 9 (value_tests named) (value_OfFault named) i 0 l

pub storage_OfFault : (j : ℕ) (v : List ℕ) → OfFault STORE (storage_tests j v)
storage_OfFault j v = (refl, values_OfFault (is_named (identifier_of v)) (j + 24) (drop 24 v))

pub store_OfFault : (i : ℕ) (l : List ℕ) → OfFault STORE (store_tests i l)
unfolding store_tests
store_OfFault i l = part_OfFault 28 storage_tests storage_OfFault i 0 l

-- behind the first byte no test is of the field 0
pub value_Faults : (named : Bool) (j : ℕ) (v : List ℕ) → 0 < j → Faults STORE (value_tests named j v)
value_Faults named j v h = (refl, (omega arith, (refl, (omega arith, tt))))

pub values_Faults : (named : Bool) (i : ℕ) (l : List ℕ) → 0 < i → Faults STORE (values_tests named i l)
values_Faults named i l h = part_Faults 9 (value_tests named) (value_Faults named) i 0 l h

pub storage_Faults : (j : ℕ) (v : List ℕ) → 0 < j → Faults STORE (storage_tests j v)
storage_Faults j v h = (refl, (omega arith, values_Faults (is_named (identifier_of v)) (j + 24) (drop 24 v) (omega arith)))

pub store_Faults : (i : ℕ) (l : List ℕ) → 0 < i → Faults STORE (store_tests i l)
unfolding store_tests
store_Faults i l h = part_Faults 28 storage_tests storage_Faults i 0 l h

pub values_anywhere : (named : Bool) (i j : ℕ) (l : List ℕ) → all (values_tests named i l) ≡ all (values_tests named j l)
values_anywhere named i j l = parts_anywhere 9 (value_tests named) (λ i j v. refl) i j 0 l

pub store_anywhere : (i j : ℕ) (l : List ℕ) → all (store_tests i l) ≡ all (store_tests j l)
unfolding store_tests
store_anywhere i j l =
    parts_anywhere 28 storage_tests
    (λ i j v. ap (λ (b : Bool). eqb (u32_at v 4) 0x53505331 && b) (values_anywhere (is_named (identifier_of v)) (i + 24) (j + 24) (drop 24 v))) i j 0 l

-- ---- where a store may be wrong: before its end; at its end where a storage's size is due, or a value's in the last storage

-- nothing is wrong with the values of the storage d bytes after the start, which is the last, but that no zero size ends them
abbrev pub LastUnended : List ℕ → ℕ → Type 0
LastUnended l d = (28 ≤ u32_at l d) × ((d + u32_at l d ≡ length l) × (all (values_tests (is_named (take 16 (drop (d + 8) l))) 0 (drop (d + 24) l ++ little 4 0)) ≡ true))

module _ (X : Fault → ℕ → Type 0) (i : ℕ) (l : List ℕ) (f : (j : ℕ) → j < i + length l → X STORE j) where
  Each-storage : ((d : ℕ) → LastUnended l d → X STORE (i + length l)) → (d m : ℕ) → 28 ≤ m → d + m ≤ length l → u32_at l d ≡ m
      → Each X (storage_tests (i + d) (take m (drop d l)))
  Each-storage e d m low room size = (
    (λ z. f (i + d + 4) (omega arith)),
    λ z.
        each_parts 9 (value_tests named) X (i + d + 24) (drop 24 v) (λ j q. f j (omega (arith, whole))) last
        (λ a n nine fits told. ((λ z. f _ (omega (arith, whole))), λ z. ((λ z. f _ (omega (arith, whole))), λ z. tt))),
  )
    where
      v : List ℕ
      v = take m (drop d l)

      named : Bool
      named = is_named (identifier_of v)

      whole : length (drop 24 v) ≡ m - 24
      whole = length-drop 24 v ∙ ap (λ (n : ℕ). n - 24) (length-take-le m (drop d l) (omega (arith, length-drop d l)))

      last : Pass (values_tests named (i + d + 24) (drop 24 v ++ little 4 0)) → X STORE (i + d + 24 + length (drop 24 v))
      last p =
          by_order (d + m + 1) (length l)
          (λ h. f _ (omega (arith, whole)))
          (λ h.
          let q : i + length l ≡ i + d + 24 + length (drop 24 v) = omega (arith, whole) in
          let w : v ≡ drop d l = take_all m (drop d l) (omega (arith, length-drop d l)) in
          let a : drop 24 v ≡ drop (d + 24) l = ap (drop 24) w ∙ drop-drop 24 d l in
          let b : identifier_of v ≡ take 16 (drop (d + 8) l) = ap identifier_of w ∙ ap (take 16) (drop-drop 8 d l) in
          rw q at (e d (omega arith, (omega arith, rw (a, b) at (values_anywhere named 0 (i + d + 24) (drop 24 v ++ little 4 0) ∙ Pass-all (values_tests named (i + d + 24) (drop 24 v ++ little 4 0)) p)))))

  pub Each-store : (Pass (store_tests i (l ++ little 4 0)) → X STORE (i + length l)) → ((d : ℕ) → LastUnended l d → X STORE (i + length l)) → Each X (store_tests i l)
  unfolding store_tests
  Each-store last end = each_parts 28 storage_tests X i l f last (Each-storage end)

-- a store is its last size at least
pub store_four : (i : ℕ) (l : List ℕ) → Pass (store_tests i l) → 4 ≤ length l
unfolding store_tests
store_four i l p = parts_split 28 storage_tests i l p (λ e. omega (arith, ap length e, length-little 4 0)) (λ n e some low fits four o q. four)

-- the wrong field is none after the store's end
pub store_wrong_inside : (i : ℕ) (l : List ℕ) → IfSome (wrong (store_tests i l)) (λ j. j ≤ i + length l)
store_wrong_inside i l =
    Each-wrong (λ f j. j ≤ i + length l) (store_tests i l) (Each-store (λ f j. j ≤ i + length l) i l (λ j h. omega arith) (λ h. omega arith) (λ d h. omega arith))
    (λ j. j ≤ i + length l) (λ f j h. h)
