-- The rule of the table, by one computation over the whole, and what follows of characters and texts.
use mathlib.Core.Path.{◌≡◌, refl, sym, ap, ◌∙◌}
use mathlib.Core.List.{List, [], ◌∷◌, ◌++◌, map, append_assoc}
use mathlib.Core.Bool.{Bool, true, false, not, ◌&&◌, ◌||◌, cond}
use Prim.Native.Nat.{ℕ, zero, suc, ◌+◌, ◌*◌, ◌/◌, ◌%◌, ◌≤◌, ◌<◌}
use native.Mathlib.Omega.{arith}
use native.Mathlib.Nat.{add-zero, zero-add}
use lib.ListN.{length, get_or, length-append, length-map, get_or-eq_default}
use lib.Dec.{eqb, ltb}
use borrow.Author.Tests.{ltb-true, lt-ltb, eqb-true, eq-eqb, ne_eqb}
use Rattle.octets.specs.Numbers.{Bytes, little, same_numbers}
use Rattle.octets.specs.Characters.{units, before_zero}
use Rattle.octets.proofs.NumberLaws.{Bytes-nil, Bytes-cons, Bytes-tail, Bytes-append, Bytes-little, length-little}
use Rattle.format.specs.Writing.{every}
use Rattle.format.specs.Codepage.{unassigned, no_byte, windows1252, unit_of, assigned, index_of, byte_of, in_table, to_units, all_assigned, to_bytes, all_in_table, is_translation}
use Rattle.format.proofs.Bools.{and-true, and_both, by_order, clash}

-- ---- one test over the table

-- f passes at each entry and its place, counted from k
abbrev pub at_all : (ℕ → ℕ → Bool) → ℕ → List ℕ → Bool
at_all f k [] = true
at_all f k (x ∷ xs) = f k x && at_all f (k + 1) xs

pub one_of_all : (f : ℕ → ℕ → Bool) (k : ℕ) (xs : List ℕ) → at_all f k xs ≡ true → (j d : ℕ) → j < length xs → f (k + j) (get_or xs j d) ≡ true
one_of_all f k [] e j d h = absurd (omega arith)
one_of_all f k (x ∷ xs) e zero d h = rw add-zero (and-true (f k x) (at_all f (k + 1) xs) e).0
one_of_all f k (x ∷ xs) e (suc j) d h =
    let i : k + 1 + j ≡ k + suc j = omega arith in
    rw i at (one_of_all f (k + 1) xs (and-true (f k x) (at_all f (k + 1) xs) e).1 j d (omega arith))

abbrev pub is_unassigned : ℕ → Bool
is_unassigned b = eqb b 0x81 || eqb b 0x8D || eqb b 0x8F || eqb b 0x90 || eqb b 0x9D

-- five bytes are marked, and every other has a unit, which leads back to that byte alone
abbrev pub rule : ℕ → ℕ → Bool
rule b u = cond (is_unassigned b) (eqb u unassigned) (eqb (byte_of u) b && ltb u unassigned)

pub table_rule : at_all rule 0 windows1252 ≡ true
unfolding windows1252 byte_of
table_rule = refl

pub table_long : length windows1252 ≡ 256
unfolding windows1252
table_long = refl

-- ---- characters

rule_at : (b : ℕ) → b < 256 → rule b (unit_of b) ≡ true
unfolding unit_of
rule_at b h = rw zero-add at (one_of_all rule 0 windows1252 table_rule b unassigned (omega (arith, table_long)))

-- what the rule says of a byte
pub data Ruled (b : ℕ) : Type 0 where
  marked : is_unassigned b ≡ true → unit_of b ≡ unassigned → Ruled b
  unit : is_unassigned b ≡ false → byte_of (unit_of b) ≡ b → unit_of b < unassigned → Ruled b

pub ruled : (b : ℕ) → b < 256 → Ruled b
ruled b h = go (is_unassigned b) refl (rule_at b h)
  where
    go : (t : Bool) → is_unassigned b ≡ t → cond t (eqb (unit_of b) unassigned) (eqb (byte_of (unit_of b)) b && ltb (unit_of b) unassigned) ≡ true → Ruled b
    go true i e = marked i (eqb-true (unit_of b) unassigned e)
    go false i e =
        let (p, q) = and-true (eqb (byte_of (unit_of b)) b) (ltb (unit_of b) unassigned) e in
        unit i (eqb-true (byte_of (unit_of b)) b p) (ltb-true (unit_of b) unassigned q)

zero_byte : byte_of 0 ≡ 0
unfolding windows1252 byte_of
zero_byte = refl

pub unit_beyond : (b : ℕ) → 256 ≤ b → unit_of b ≡ unassigned
unfolding unit_of
unit_beyond b h = let l : length windows1252 ≤ b = omega (arith, table_long) in get_or-eq_default windows1252 unassigned l

-- a byte that is assigned
module _ (b : ℕ) (h : b < 256) (e : assigned b ≡ true) where
  pub assigned_back : byte_of (unit_of b) ≡ b
  assigned_back = go (ruled b h)
    where
      go : Ruled b → byte_of (unit_of b) ≡ b
      go (marked i u) = clash e (ap not (eq-eqb (unit_of b) unassigned u))
      go (unit i k l) = k

  pub assigned_known : in_table (unit_of b) ≡ true
  assigned_known = rw assigned_back (lt-ltb b no_byte h)

  -- no zero but of a zero
  pub assigned_zero : unit_of b ≡ 0 → b ≡ 0
  assigned_zero z = sym assigned_back ∙ ap byte_of z ∙ zero_byte

-- no two assigned bytes share a unit
pub own_unit : (a b : ℕ) → a < 256 → b < 256 → assigned a ≡ true → assigned b ≡ true → unit_of a ≡ unit_of b → a ≡ b
own_unit a b h k e f u = sym (assigned_back a h e) ∙ ap byte_of u ∙ assigned_back b k f

-- a byte is assigned unless it is one of the five
pub five_marked : (b : ℕ) → b < 256 → assigned b ≡ not (is_unassigned b)
five_marked b h = go (ruled b h)
  where
    go : Ruled b → assigned b ≡ not (is_unassigned b)
    go (marked i u) = rw (i, u)
    go (unit i k l) = rw (i, ne_eqb (unit_of b) unassigned (λ z. omega arith))

-- every unit has two bytes, the mark too
pub unit_small : (b : ℕ) → unit_of b < 65536
unit_small b = by_order 256 b (λ h. rw (unit_beyond b h) (omega arith)) (λ h. go (ruled b h))
  where
    go : Ruled b → unit_of b < 65536
    go (marked i u) = omega arith
    go (unit i k l) = omega arith

-- where a number stands in a row it is
index_at : (u : ℕ) (xs : List ℕ) (d : ℕ) → index_of u xs < length xs → get_or xs (index_of u xs) d ≡ u
index_at u [] d h = absurd (omega arith)
index_at u (x ∷ xs) d h = go (index_at u xs d) (eqb u x) refl h
  where
    go : (index_of u xs < length xs → get_or xs (index_of u xs) d ≡ u) → (t : Bool) → eqb u x ≡ t → cond t 0 (suc (index_of u xs)) < suc (length xs)
        → get_or (x ∷ xs) (cond t 0 (suc (index_of u xs))) d ≡ u
    go later true e l = sym (eqb-true u x e)
    go later false e l = later (omega arith)

index_most : (u : ℕ) (xs : List ℕ) → index_of u xs ≤ length xs
index_most u [] = omega arith
index_most u (x ∷ xs) = go (eqb u x) (index_most u xs)
  where
    go : (t : Bool) → index_of u xs ≤ length xs → cond t 0 (suc (index_of u xs)) ≤ suc (length xs)
    go true h = omega arith
    go false h = omega arith

pub byte_most : (u : ℕ) → byte_of u ≤ no_byte
unfolding byte_of
byte_most u = go (eqb u unassigned)
  where
    go : (t : Bool) → cond t no_byte (index_of u windows1252) ≤ no_byte
    go true = omega arith
    go false = omega (arith, index_most u windows1252, table_long)

-- a unit of the table is that of its byte, which is assigned
module _ (u : ℕ) (e : in_table u ≡ true) where
  pub known_small : byte_of u < 256
  known_small = ltb-true (byte_of u) no_byte e

  pub known_back : (unit_of (byte_of u) ≡ u) × (assigned (byte_of u) ≡ true)
  unfolding byte_of unit_of
  known_back = go (eqb u unassigned) refl known_small
    where
      go : (t : Bool) → eqb u unassigned ≡ t → cond t no_byte (index_of u windows1252) < 256
          → (get_or windows1252 (cond t no_byte (index_of u windows1252)) unassigned ≡ u) × (not (eqb (get_or windows1252 (cond t no_byte (index_of u windows1252)) unassigned) unassigned) ≡ true)
      go true i l = absurd (omega arith)
      go false i l =
          let k = index_at u windows1252 unassigned (omega (arith, table_long)) in
          (k, rw (k, i))

-- ---- texts

pub units_long : (x : List ℕ) → length (to_units x) ≡ 2 * length x
unfolding to_units
units_long [] = refl
units_long (b ∷ x) = simp (length-append, length-little) (omega (arith, units_long x))

pub units_Bytes : (x : List ℕ) → Bytes (to_units x)
unfolding to_units
units_Bytes [] = Bytes-nil
units_Bytes (b ∷ x) = Bytes-append (little 2 (unit_of b)) (to_units x) (Bytes-little 2 (unit_of b)) (units_Bytes x)

pub units_append : (x y : List ℕ) → to_units (x ++ y) ≡ to_units x ++ to_units y
unfolding to_units
units_append [] y = refl
units_append (b ∷ x) y = rw (units_append x y, append_assoc)

-- the units of a translation
pub units_are : (x : List ℕ) → units (to_units x) ≡ map unit_of x
unfolding units to_units little
units_are [] = refl
units_are (b ∷ x) =
    let e : unit_of b % 256 + 256 * (unit_of b / 256 % 256) ≡ unit_of b = omega (arith, unit_small b) in
    rw (e, units_are x)

-- home again
home_units : (x : List ℕ) → Bytes x → all_assigned x ≡ true → map byte_of (map unit_of x) ≡ x
home_units [] bs e = refl
home_units (b ∷ x) bs e =
    let (p, q) = and-true (assigned b) (all_assigned x) e in
    rw (assigned_back b (bs.at 0) p, home_units x (Bytes-tail bs) q)

known_units : (x : List ℕ) → Bytes x → all_assigned x ≡ true → every (map in_table (map unit_of x)) ≡ true
known_units [] bs e = refl
known_units (b ∷ x) bs e =
    let (p, q) = and-true (assigned b) (all_assigned x) e in
    and_both (in_table (unit_of b)) (every (map in_table (map unit_of x))) (assigned_known b (bs.at 0) p) (known_units x (Bytes-tail bs) q)

pub home : (x : List ℕ) → Bytes x → all_assigned x ≡ true → to_bytes (to_units x) ≡ x
unfolding to_bytes
home x bs e = rw (units_are x) (home_units x bs e)

pub home_known : (x : List ℕ) → Bytes x → all_assigned x ≡ true → all_in_table (to_units x) ≡ true
home_known x bs e = rw (units_are x) (known_units x bs e)

-- what comes home is bytes, as many as there were units
pub bytes_long : (x : List ℕ) → length (to_bytes x) ≡ length (units x)
unfolding to_bytes
bytes_long x = length-map (units x) byte_of

pub Bytes-Bytes : (x : List ℕ) → all_in_table x ≡ true → Bytes (to_bytes x)
unfolding to_bytes
Bytes-Bytes x e = go (units x) e
  where
    go : (us : List ℕ) → every (map in_table us) ≡ true → Bytes (map byte_of us)
    go [] e = Bytes-nil
    go (u ∷ us) e =
        let (p, q) = and-true (in_table u) (every (map in_table us)) e in
        Bytes-cons (known_small u p) (go us q)

-- a text without a zero has none when translated
pub before_units : (x : List ℕ) → Bytes x → all_assigned x ≡ true → before_zero x ≡ length x → before_zero (map unit_of x) ≡ length x
unfolding before_zero
before_units [] bs e z = refl
before_units (zero ∷ x) bs e z = absurd (omega arith)
before_units (suc a ∷ x) bs e z =
    let (p, q) = and-true (assigned (suc a)) (all_assigned x) e in
    go (unit_of (suc a)) refl (before_units x (Bytes-tail bs) q (omega arith)) p
  where
    go : (u : ℕ) → unit_of (suc a) ≡ u → before_zero (map unit_of x) ≡ length x → assigned (suc a) ≡ true → before_zero (u ∷ map unit_of x) ≡ suc (length x)
    go zero i h p = absurd (omega (arith, assigned_zero (suc a) (bs.at 0) p i))
    go (suc u) i h p = ap suc h

-- ---- equal rows

pub same_self : (xs : List ℕ) → same_numbers xs xs ≡ true
same_self [] = refl
same_self (x ∷ xs) = and_both (eqb x x) (same_numbers xs xs) (eq-eqb x x refl) (same_self xs)

pub same_equal : (xs ys : List ℕ) → same_numbers xs ys ≡ true → xs ≡ ys
same_equal [] [] e = refl
same_equal [] (y ∷ ys) e = clash e refl
same_equal (x ∷ xs) [] e = clash e refl
same_equal (x ∷ xs) (y ∷ ys) e =
    let (p, q) = and-true (eqb x y) (same_numbers xs ys) e in
    rw (eqb-true x y p, same_equal xs ys q)

pub is_translation_lem : (x : List ℕ) → all_assigned x ≡ true → is_translation x (to_units x) ≡ true
is_translation_lem x e = and_both (all_assigned x) (same_numbers (to_units x) (to_units x)) e (same_self (to_units x))
